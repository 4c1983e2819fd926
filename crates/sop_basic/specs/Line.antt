-- `line`: `points` points, from `origin` on in the direction `dir`, and one open primitive through all. Point i stands at `origin + dir*t`,
-- where t is `dist*i/(points-1)`, rounded, or 0 where there is one point. Range of the first point whose product or sum is out of range.
use Rattle.std.specs.Prelude.{ℕ, ◌-◌, nat_le, if◌then◌else◌, ℤ, pos, ◌*ℤ◌, false, List, [], ◌∷◌, length, map, Result, Ok}
use Rattle.std.specs.List.{range_with_len}
use Rattle.sop_fixed.specs.Arithmetic.{rounded, sum_of, product_of}
use Rattle.sop_fixed.specs.declared.fault.NumFault.{NumFault}
use Rattle.sop_fixed.specs.declared.vec3.Vec3.{Vec3}
use Rattle.sop_model.specs.declared.geo.Geo.{Geo}
use Rattle.sop_model.specs.declared.fault.Fault.{Fault}
use Rattle.sop_net.specs.Network.{parm_at}
use Rattle.sop_basic.specs.ParmTexts.{count_in, number_in, vector_in}
use Rattle.sop_basic.specs.Outcomes.{Outcome, then_with, vector_of, all_in_range}
use Rattle.sop_basic.specs.Shapes.{shape, prim_through}

-- how far along point i of so many stands
abbrev pub way_to : ℤ → ℕ → ℕ → ℤ
way_to dist points i = if nat_le points 1 then pos 0 else rounded (dist *ℤ pos i) (pos (points - 1))

abbrev pub along : ℤ → ℤ → ℤ → Result ℤ NumFault
along origin dir t = then_with (product_of dir t) (λ way. sum_of origin way)

abbrev pub place_along : Vec3 → Vec3 → ℤ → Result Vec3 NumFault
place_along origin dir t = vector_of (along origin.x dir.x t) (along origin.y dir.y t) (along origin.z dir.z t)

abbrev pub line_places : Vec3 → Vec3 → ℤ → ℕ → Result (List Vec3) Fault
line_places origin dir dist points = all_in_range (map (λ i. place_along origin dir (way_to dist points i)) (range_with_len 0 points))

abbrev pub line_through : List Vec3 → Geo
line_through places = shape places (prim_through false (range_with_len 0 (length places)) ∷ [])

-- `origin`, `dir`, `dist`, `points`
abbrev pub line_geo : List (List ℕ) → Outcome
line_geo parms = then_with (line_places (vector_in (parm_at parms 0)) (vector_in (parm_at parms 1)) (number_in (parm_at parms 2)) (count_in (parm_at parms 3))) (λ places. Ok (line_through places))
