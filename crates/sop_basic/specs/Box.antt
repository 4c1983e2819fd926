-- `box`: eight points, each half of `size` away from `center`, where the half is rounded, and six closed primitives. Point i has x
-- `center-half` where bit 0 of i is 0, else `center+half`, y in the same way by bit 1 and z by bit 2. Range of the first point out of range.
use Rattle.std.specs.Prelude.{ℕ, ◌/◌, ◌%◌, ◌==◌, if◌then◌else◌, ℤ, pos, true, List, [], ◌∷◌, map, Result, Ok}
use Rattle.std.specs.List.{range_with_len}
use Rattle.sop_fixed.specs.Arithmetic.{rounded, sum_of, difference_of}
use Rattle.sop_fixed.specs.declared.fault.NumFault.{NumFault}
use Rattle.sop_fixed.specs.declared.vec3.Vec3.{Vec3}
use Rattle.sop_model.specs.declared.geo.Primitive.{Primitive}
use Rattle.sop_net.specs.Network.{parm_at}
use Rattle.sop_basic.specs.ParmTexts.{vector_in}
use Rattle.sop_basic.specs.Outcomes.{Outcome, then_with, vector_of, all_in_range}
use Rattle.sop_basic.specs.Shapes.{shape, prim_through}

-- one side of the center or the other, along one axis
abbrev pub side : ℕ → ℤ → ℤ → Result ℤ NumFault
side bit size center = if bit == 0 then difference_of center (rounded size (pos 2)) else sum_of center (rounded size (pos 2))

abbrev pub corner_place : Vec3 → Vec3 → ℕ → Result Vec3 NumFault
corner_place size center i = vector_of (side (i % 2) size.x center.x) (side (i / 2 % 2) size.y center.y) (side (i / 4 % 2) size.z center.z)

abbrev pub quad : ℕ → ℕ → ℕ → ℕ → Primitive
quad a b c d = prim_through true (a ∷ b ∷ c ∷ d ∷ [])

abbrev pub sides : List Primitive
sides = quad 0 2 3 1 ∷ quad 4 5 7 6 ∷ quad 0 1 5 4 ∷ quad 2 6 7 3 ∷ quad 0 4 6 2 ∷ quad 1 3 7 5 ∷ []

-- `size`, `center`
abbrev pub box_geo : List (List ℕ) → Outcome
box_geo parms = then_with (all_in_range (map (corner_place (vector_in (parm_at parms 0)) (vector_in (parm_at parms 1))) (range_with_len 0 8))) (λ places. Ok (shape places sides))
