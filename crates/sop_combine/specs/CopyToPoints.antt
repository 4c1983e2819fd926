-- `copytopoints`: for each point of the second input that `group` selects, by its number, a copy of the first input whose places become
-- `P*pscale + target's P`, component by component; `pscale` is a real attribute of the second input's points, else 1. The copies stand one
-- after the other. Heads, groups and detail are those of the first input, also where no point is selected. Range of the first target at
-- which a product or a sum is out of range.
use Rattle.std.specs.Prelude.{ℕ, suc, Bool, true, false, ℤ, pos, List, [], ◌∷◌, map, slice_index_or, Option, Some, Result, Ok, Err, codes}
use Rattle.std.specs.Option.{option_and_then}
use Rattle.sop_fixed.specs.declared.fault.NumFault.{NumFault}
use Rattle.sop_fixed.specs.declared.vec3.Vec3.{Vec3}
use Rattle.sop_model.specs.declared.class.Class.TheVariants.{Point}
use Rattle.sop_model.specs.declared.geo.Geo.{Geo}
use Rattle.sop_model.specs.declared.fault.Fault.{Fault}
use Rattle.sop_model.specs.declared.fault.Fault.TheVariants.{Range}
use Rattle.sop_model.specs.declared.value.Value.{Value}
use Rattle.sop_model.specs.declared.value.Value.TheVariants as value
use Rattle.sop_model.specs.Geometry.{value_at}
use Rattle.sop_model.specs.Values.{zero_vector}
use Rattle.sop_model.specs.Places.{places_of}
use Rattle.sop_model.specs.Merge.{merged}
use Rattle.sop_model.specs.Rows.{head_named}
use Rattle.sop_net.specs.Network.{parm_at}
use Rattle.sop_basic.specs.Outcomes.{Outcome, then_with}
use Rattle.sop_basic.specs.Selecting.{by_pattern}
use Rattle.sop_basic.specs.Xform.{moved, placed}

-- 1, in millionths
abbrev pub whole_scale : ℤ
whole_scale = pos 1000000

abbrev pub real_or_whole : Option Value → ℤ
real_or_whole (Some (value.Real x)) = x
real_or_whole other = whole_scale

-- the `pscale` of a point
abbrev pub scale_of : Geo → ℕ → ℤ
scale_of targets i = real_or_whole (option_and_then (λ head. value_at targets Point head i) (head_named targets Point (codes "pscale")))

abbrev pub same_in_all : ℤ → Vec3
same_in_all s = record { x = s; y = s; z = s }

-- the places at a target
abbrev pub places_at : Geo → Geo → ℕ → List (Result Vec3 NumFault)
places_at g targets i = map (moved (slice_index_or (places_of targets) i zero_vector) (same_in_all (scale_of targets i))) (places_of g)

-- the results at a target, or Range of the target where one has none
abbrev pub all_at : {A : Type 0} → ℕ → List (Result A NumFault) → Result (List A) Fault
all_at i [] = Ok []
all_at i (Err e ∷ results) = Err (Range i)
all_at i (Ok x ∷ results) = then_with (all_at i results) (λ xs. Ok (x ∷ xs))

-- the copies at the targets with these flags, the first of which has the number i
abbrev pub copies_from : Geo → Geo → ℕ → List Bool → Result (List Geo) Fault
copies_from g targets i [] = Ok []
copies_from g targets i (false ∷ flags) = copies_from g targets (suc i) flags
copies_from g targets i (true ∷ flags) =
    then_with (all_at i (places_at g targets i)) (λ places.
    then_with (copies_from g targets (suc i) flags) (λ copies. Ok (placed g places ∷ copies)))

-- a geometry without its elements
abbrev pub emptied : Geo → Geo
emptied g = record g { points = []; prims = [] }

-- `group`
abbrev pub copytopoints_geo : List (List ℕ) → Geo → Geo → Outcome
copytopoints_geo parms g targets =
    then_with (by_pattern targets Point (parm_at parms 0)) (λ flags.
    then_with (copies_from g targets 0 flags) (λ copies. Ok (merged (emptied g ∷ copies))))
