-- Grids as their rules make them, and the points of their primitives.
use Rattle.std.proofs.Common.{◌≡◌, ℕ, zero, suc, ◌-◌, ◌*◌, ◌/◌, ◌%◌, ◌<◌, ◌≤◌, List, [], ◌∷◌, map, refl, sym, ap, ◌∙◌, arith}
use Rattle.std.specs.Prelude.{All, Ok}
use Rattle.std.specs.List.{range_with_len}
use Rattle.std.proofs.lemmas.Nat.{mul-add-lt, div_below, mod_below}
use Rattle.std.proofs.Math.Nat.{mul-le-mul}
use Rattle.std.proofs.lemmas.List.Elements.{All-from_recursion}
use Rattle.sop_fixed.specs.declared.vec3.Vec3.{Vec3}
use Rattle.sop_basic.specs.Outcomes.{Outcome, then_with, in_range_from, all_in_range}
use Rattle.sop_basic.specs.Shapes.{shape, closed_prims}
use Rattle.sop_basic.specs.Grid.{grid_place, each_cell, quad_at, grid_of}
use Rattle.sop_basic.specs.declared.grid.Grid.{Grid}
use Rattle.sop_basic.specs.Rules.{grid_rule, TellsOfGrid, quad_corners, TellsOfQuad}
use Rattle.sop_basic.proofs.NumberLemmas.{cells_counted, any_cells}
use Rattle.sop_basic.proofs.MovementLemmas.{targets}

-- results that are all there
all_there : (p : ℕ → Vec3) (i : ℕ) (xs : List ℕ) → in_range_from i (map (λ x. Ok (p x)) xs) ≡ Ok (map p xs)
all_there p i [] = refl
all_there p i (x ∷ xs) = ap (λ r. then_with r (λ ys. Ok (p x ∷ ys))) (all_there p (suc i) xs)

module _ (g : Grid) (some : 0 < g.cols) where
  -- the primitives of a grid, by number
  abbrev pub grid_next : List Vec3 → Outcome
  grid_next places = Ok (shape places (closed_prims (quad_corners g) ((g.rows - 1) * (g.cols - 1))))

  pub grid_is : then_with (all_in_range (targets (grid_rule g) 0 (g.rows * g.cols))) grid_next ≡ Ok (grid_of g.rows g.cols g.sizex g.sizez)
  grid_is =
      let place = grid_place g.rows g.cols g.sizex g.sizez in
      ap (λ r. then_with r grid_next) (all_there (λ i. place (i / g.cols) (i % g.cols)) 0 (range_with_len 0 (g.rows * g.cols)))
      ∙ ap (λ places. Ok (shape places (closed_prims (quad_corners g) ((g.rows - 1) * (g.cols - 1))))) (sym (cells_counted place g.cols some g.rows))
      ∙ ap (λ prims. Ok (shape (each_cell g.rows g.cols place) prims)) (sym (any_cells (quad_at g.cols) (g.rows - 1) (g.cols - 1)))

pub tells_point : (g : Grid) → 0 < g.cols → g.rows ≤ 1000 → g.cols ≤ 1000 → (i : ℕ) → i < g.rows * g.cols → TellsOfGrid g i
tells_point g some rows cols i lt = record { some = some; row = div_below i g.cols g.rows some lt; rows = rows; cols = cols }

no_column : (m rows i : ℕ) → i < rows * m → 0 < m
no_column zero rows i lt = absurd (let none : rows * 0 ≡ 0 = omega arith in omega (arith, lt))
no_column (suc m) rows i lt = omega arith

pub tells_quad : (g : Grid) → g.rows ≤ 1000 → g.cols ≤ 1000 → (i : ℕ) → i < (g.rows - 1) * (g.cols - 1) → TellsOfQuad g i
tells_quad g rows cols i lt =
    let some = no_column (g.cols - 1) (g.rows - 1) i lt in
    record { some = omega (arith, some); row = div_below i (g.cols - 1) (g.rows - 1) some lt; rows = rows; cols = cols }

-- each point of a primitive is one of the grid
pub quad_within : (g : Grid) (n : ℕ) → n ≡ g.rows * g.cols → (i : ℕ) → i < (g.rows - 1) * (g.cols - 1) → All (λ p. p < n) (quad_corners g i)
quad_within g n is i lt =
    let some = no_column (g.cols - 1) (g.rows - 1) i lt in
    let row = div_below i (g.cols - 1) (g.rows - 1) some lt in
    let col = mod_below i (g.cols - 1) some in
    let r = i / (g.cols - 1) in
    let c = i % (g.cols - 1) in
    let turned : g.cols * g.rows ≡ g.rows * g.cols = omega arith in
    let a = mul-add-lt r g.cols c g.rows (omega (arith, row)) (omega (arith, col)) in
    let b = mul-add-lt r g.cols (suc c) g.rows (omega (arith, row)) (omega (arith, col)) in
    let d = mul-add-lt (suc r) g.cols (suc c) g.rows (omega (arith, row)) (omega (arith, col)) in
    let e = mul-add-lt (suc r) g.cols c g.rows (omega (arith, row)) (omega (arith, col)) in
    All-from_recursion (λ p. p < n) (quad_corners g i) (omega (arith, a, is, turned), (omega (arith, b, is, turned), (omega (arith, d, is, turned), (omega (arith, e, is, turned), tt))))

pub few_points : (rows cols : ℕ) → rows ≤ 1000 → cols ≤ 1000 → rows * cols ≤ 1000000
few_points rows cols a b = let m : rows * cols ≤ 1000 * 1000 = mul-le-mul a b in omega (arith, m)
