-- `add`: the input, or the empty geometry where none is wired, with points at its end at the places `points`, and, where `poly` is `open` or
-- `closed` and there is at least one of them, one primitive through them, open or closed. What is added has defaults and is in no group.
use Rattle.std.specs.Prelude.{ℕ, Bool, true, false, List, [], ◌∷◌, ◌++◌, length, map, if◌then◌else◌, Option, unwrap_or, Ok, codes, bytes_eq}
use Rattle.std.specs.List.{range_with_len}
use Rattle.sop_fixed.specs.declared.vec3.Vec3.{Vec3}
use Rattle.sop_model.specs.declared.geo.Geo.{Geo}
use Rattle.sop_model.specs.declared.geo.HeadSet.{HeadSet}
use Rattle.sop_model.specs.declared.geo.Row.{Row}
use Rattle.sop_model.specs.declared.value.Value.TheVariants as value
use Rattle.sop_model.specs.Geometry.{empty_geo}
use Rattle.sop_model.specs.Rows.{with_value, default_row, prim_added}
use Rattle.sop_net.specs.Network.{parm_at}
use Rattle.sop_basic.specs.ParmTexts.{vectors_in}
use Rattle.sop_basic.specs.Outcomes.{Outcome}

-- a new point at a place
abbrev pub new_point : HeadSet → Vec3 → Row
new_point set place = with_value 0 (value.Vector place) (default_row set)

abbrev pub with_points : Geo → List Vec3 → Geo
with_points g places = record g { points = g.points ++ map (new_point g.point) places }

-- one primitive through so many points from the number `first` on, and none through no point
abbrev pub with_prim : Bool → Geo → ℕ → List Vec3 → Geo
with_prim closed g first [] = g
with_prim closed g first (place ∷ places) = prim_added g closed (range_with_len first (length (place ∷ places)))

abbrev pub with_poly : List ℕ → Geo → ℕ → List Vec3 → Geo
with_poly poly g first places =
    if bytes_eq poly (codes "open") then with_prim false g first places
    else if bytes_eq poly (codes "closed") then with_prim true g first places
    else g

abbrev pub added : Geo → List Vec3 → List ℕ → Geo
added g places poly = with_poly poly (with_points g places) (length g.points) places

-- `points`, `poly`
abbrev pub add_geo : List (List ℕ) → Option Geo → Outcome
add_geo parms input = Ok (added (unwrap_or input empty_geo) (vectors_in (parm_at parms 0)) (parm_at parms 1))
