-- `grid`: `rows` times `cols` points at y 0, and a closed primitive for each four that are neighbors. The point of row r and column c has
-- the number `r*cols + c` and x `sizex*(2c-(cols-1))/(2(cols-1))`, rounded, or 0 where there is one column; z in the same way from r and the
-- rows. The primitives come by r, then c, each through the points (r, c), (r, c+1), (r+1, c+1) and (r+1, c).
use Rattle.std.specs.Prelude.{ℕ, suc, ◌+◌, ◌-◌, ◌*◌, nat_le, if◌then◌else◌, ℤ, pos, ◌-ℤ◌, ◌*ℤ◌, true, List, [], ◌∷◌, map, flat_map, Ok}
use Rattle.std.specs.List.{range_with_len}
use Rattle.sop_fixed.specs.Arithmetic.{rounded}
use Rattle.sop_fixed.specs.declared.vec3.Vec3.{Vec3}
use Rattle.sop_model.specs.declared.geo.Geo.{Geo}
use Rattle.sop_model.specs.declared.geo.Primitive.{Primitive}
use Rattle.sop_net.specs.Network.{parm_at}
use Rattle.sop_basic.specs.ParmTexts.{count_in, number_in}
use Rattle.sop_basic.specs.Outcomes.{Outcome}
use Rattle.sop_basic.specs.Shapes.{shape, prim_through}

-- where the i-th of so many stands along a size, with the middle at 0
abbrev pub across : ℤ → ℕ → ℕ → ℤ
across size count i = if nat_le count 1 then pos 0 else rounded (size *ℤ (pos (2 * i) -ℤ pos (count - 1))) (pos (2 * (count - 1)))

abbrev pub grid_place : ℕ → ℕ → ℤ → ℤ → ℕ → ℕ → Vec3
grid_place rows cols sizex sizez r c = record { x = across sizex cols c; y = pos 0; z = across sizez rows r }

-- something for each row and column, row by row
abbrev pub each_cell : {A : Type 0} → ℕ → ℕ → (ℕ → ℕ → A) → List A
each_cell rows cols cell = flat_map (λ r. map (cell r) (range_with_len 0 cols)) (range_with_len 0 rows)

abbrev pub quad_at : ℕ → ℕ → ℕ → Primitive
quad_at cols r c = prim_through true ((r * cols + c) ∷ (r * cols + suc c) ∷ (suc r * cols + suc c) ∷ (suc r * cols + c) ∷ [])

abbrev pub grid_of : ℕ → ℕ → ℤ → ℤ → Geo
grid_of rows cols sizex sizez = shape (each_cell rows cols (grid_place rows cols sizex sizez)) (each_cell (rows - 1) (cols - 1) (quad_at cols))

-- `rows`, `cols`, `sizex`, `sizez`
abbrev pub grid_geo : List (List ℕ) → Outcome
grid_geo parms = Ok (grid_of (count_in (parm_at parms 0)) (count_in (parm_at parms 1)) (number_in (parm_at parms 2)) (number_in (parm_at parms 3)))
