-- `xform`: the place of each selected point becomes `P*s + t`, component by component. Range of the first point whose product or sum is out of
-- range.
use Rattle.std.specs.Prelude.{ℕ, Bool, if◌then◌else◌, ℤ, List, [], ◌∷◌, map, Result, Ok}
use Rattle.sop_fixed.specs.Arithmetic.{sum_of, product_of}
use Rattle.sop_fixed.specs.declared.fault.NumFault.{NumFault}
use Rattle.sop_fixed.specs.declared.vec3.Vec3.{Vec3}
use Rattle.sop_model.specs.declared.class.Class.TheVariants.{Point}
use Rattle.sop_model.specs.declared.geo.Geo.{Geo}
use Rattle.sop_model.specs.declared.value.Value.TheVariants as value
use Rattle.sop_model.specs.Places.{places_of}
use Rattle.sop_model.specs.Rows.{column_held}
use Rattle.sop_net.specs.Network.{parm_at}
use Rattle.sop_basic.specs.ParmTexts.{vector_in}
use Rattle.sop_basic.specs.Outcomes.{Outcome, then_with, vector_of, all_in_range}
use Rattle.sop_basic.specs.Selecting.{by_pattern}

abbrev pub scaled : ℤ → ℤ → ℤ → Result ℤ NumFault
scaled p s t = then_with (product_of p s) (λ way. sum_of way t)

abbrev pub moved : Vec3 → Vec3 → Vec3 → Result Vec3 NumFault
moved t s p = vector_of (scaled p.x s.x t.x) (scaled p.y s.y t.y) (scaled p.z s.z t.z)

-- the places, each moved where it is selected
abbrev pub moved_where : Vec3 → Vec3 → List Bool → List Vec3 → List (Result Vec3 NumFault)
moved_where t s [] places = []
moved_where t s (on ∷ flags) [] = []
moved_where t s (on ∷ flags) (p ∷ places) = (if on then moved t s p else Ok p) ∷ moved_where t s flags places

-- a geometry with its points at other places
abbrev pub placed : Geo → List Vec3 → Geo
placed g places = column_held g Point 0 (map value.Vector places)

-- `t`, `s`, `group`
abbrev pub xform_geo : List (List ℕ) → Geo → Outcome
xform_geo parms g =
    then_with (by_pattern g Point (parm_at parms 2)) (λ flags.
    then_with (all_in_range (moved_where (vector_in (parm_at parms 0)) (vector_in (parm_at parms 1)) flags (places_of g))) (λ places.
    Ok (placed g places)))
