-- How many cells a column has.
use Rattle.std.proofs.Common.{◌≡◌, ℕ, zero, suc, ◌+◌, ◌-◌, ◌*◌, ◌<◌, ◌≤◌, List, [], ◌∷◌, ◌++◌, length, take, get_or, refl, ap, sym, ◌∙◌, subst, arith, length-append}
use Rattle.std.proofs.lemmas.List.{length-map, length-take-le}
use Rattle.sop_pages.specs.declared.cell.Cell.{Cell}
use Rattle.sop_pages.specs.declared.page.TheConstants.{MOST_CELLS}
use Rattle.sop_cells.specs.declared.place.Place.{Place}
use Rattle.sop_cells.specs.Shelves.{ShelfPages, IsHere, cells_at, blocks, joined, column, IsPaged, IsKept}
use Rattle.sop_cells.proofs.HeldLemmas.{here_at}

-- full pages, and the last
paged_cells : (s : ShelfPages) (xs : List Place) (k : ℕ) (p : Place) → IsPaged (blocks s xs) → length xs ≡ k + 1 → p ≡ get_or xs k p → length (column s xs) ≡ MOST_CELLS * k + length (cells_at s p)
paged_cells s [] k p paged long at = absurd (omega arith)
paged_cells s (x ∷ []) zero p paged long at = let a = length-append (cells_at s x) (joined []) in let b = ap (λ (q : Place). length (cells_at s q)) at in omega arith
paged_cells s (x ∷ []) (suc k) p paged long at = absurd (omega arith)
paged_cells s (x ∷ y ∷ xs) zero p paged long at = absurd (omega arith)
paged_cells s (x ∷ y ∷ xs) (suc k) p paged long at =
    let full = paged.1 (omega arith) in
    let a = length-append (cells_at s x) (joined (blocks s (y ∷ xs))) in
    let r = paged_cells s (y ∷ xs) k p paged.2 (omega arith) at in omega arith

-- the last of some places that are those of a column
module _ (s : ShelfPages) (places xs : List Place) (p : Place) (kept : IsKept s places) (same : xs ≡ places) (some : 1 ≤ length xs) (at : p ≡ get_or xs (length xs - 1) p) where
  there : p ≡ get_or places (length places - 1) p
  there = at ∙ ap (λ (ys : List Place). get_or ys (length ys - 1) p) same

  inside : 1 ≤ length places
  inside = let e = ap (λ (ys : List Place). length ys) same in omega arith

  pub last_here : IsHere s p
  last_here = here_at s places (length places - 1) p (λ x l. let c = kept.covered.each x in omega arith) kept.based (let i = inside in omega arith) there

  pub all_cells : (n m : ℕ) → n ≡ MOST_CELLS * length (take (length xs - 1) xs) + m → m ≡ length (cells_at s p) → n ≡ length (column s places)
  all_cells n m e f =
      let long = length-take-le (length xs - 1) xs (omega arith) in
      let e2 = ap (λ (ys : List Place). length ys) same in
      let i = inside in
      let c = paged_cells s places (length places - 1) p kept.paged (omega arith) there in
      omega arith
