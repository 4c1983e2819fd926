-- The place and the cell that a number of a column leads to.
use Rattle.std.proofs.Common.{◌≡◌, ℕ, zero, suc, ◌+◌, ◌/◌, ◌%◌, ◌<◌, ◌≤◌, List, [], ◌∷◌, length, set, get_or, refl, ap, sym, ◌∙◌, subst, arith, mod-lt, length-set}
use Rattle.std.proofs.lemmas.List.{length-map, get_or-map, get_or_default}
use Rattle.std.proofs.Math.Nat.{div-add-mod}
use Rattle.sop_pages.specs.declared.cell.Cell.{Cell}
use Rattle.sop_pages.specs.Pages.{Store, cells, count}
use Rattle.sop_pages.specs.Moves.{times, Covers}
use Rattle.sop_pages.proofs.MoveLemmas.{times_here}
use Rattle.sop_cells.specs.declared.place.Place.{Place}
use Rattle.sop_cells.specs.declared.place.Place.TheVariants.{Own, Base}
use Rattle.sop_cells.specs.Places.{own, AreBased}
use Rattle.sop_cells.specs.Shelves.{ShelfPages, IsHere, count_at, cells_at, blocks, joined, column, IsPaged, IsKept, Shifts}
use Rattle.sop_cells.proofs.PlaceLemmas.{held-append, kept_beside, shifts_more}
use Rattle.sop_cells.proofs.HeldLemmas.{one_held, here_at}
use Rattle.sop_cells.proofs.PageLists.{Lies, lies, get_page, set_page, paged_set}

-- one place of the row has another page
pub held_set : (xs : List Place) (k : ℕ) (p y : Place) (x : ℕ) → k < length xs → p ≡ get_or xs k p → times x (own (set xs k y)) + times x (own (p ∷ [])) ≡ times x (own xs) + times x (own (y ∷ []))
held_set [] k p y x h at = absurd (omega arith)
held_set (z ∷ zs) zero p y x h at =
    let a = held-append x (y ∷ []) zs in let b = held-append x (z ∷ []) zs in let e = ap (λ (q : Place). times x (own (q ∷ []))) at in omega arith
held_set (z ∷ zs) (suc k) p y x h at =
    let a = held-append x (z ∷ []) zs in let b = held-append x (z ∷ []) (set zs k y) in let r = held_set zs k p y x (omega arith) at in omega arith

-- the pages after a step that changes the page at one place
pub blocks_set : (s t : ShelfPages) (p fresh : Place) (xs : List Place) (k : ℕ) (b : List Cell) → Shifts s t (p ∷ []) (fresh ∷ []) → k < length xs → p ≡ get_or xs k p → ((x : ℕ) → times x (own xs) ≤ count s.own x) → cells_at t fresh ≡ b → blocks t (set xs k fresh) ≡ set (blocks s xs) k b
blocks_set s t p fresh [] k b m h at c is = absurd (omega arith)
blocks_set s t p fresh (z ∷ zs) zero b m h at c is =
    let rest = kept_beside s t (p ∷ []) (fresh ∷ []) zs m (λ y l. let a = c y in let d = held-append y (z ∷ []) zs in let e = ap (λ (q : Place). times y (own (q ∷ []))) at in omega arith) in
    λ i. is i ∷ rest i
blocks_set s t p fresh (Own z ∷ zs) (suc k) b m h at c is =
    let here : cells_at t (Own z) ≡ cells_at s (Own z) = m.moves.kept z (let a = c z in let o = times_here z z refl in let d = one_held zs k p (omega arith) at z in omega arith) in
    let rest = blocks_set s t p fresh zs k b m (omega arith) at (λ y. let a = c y in omega arith) is in
    λ i. here i ∷ rest i
blocks_set s t p fresh (Base z ∷ zs) (suc k) b m h at c is =
    let rest = blocks_set s t p fresh zs k b m (omega arith) at c is in
    λ i. cells (m.base i) z ∷ rest i

pub based_set : (base : Store) (xs : List Place) (k : ℕ) (y : Place) → AreBased base xs → AreBased base (y ∷ []) → AreBased base (set xs k y)
based_set base [] k y b c = tt
based_set base (Own z ∷ zs) zero (Own y) b c = b
based_set base (Base z ∷ zs) zero (Own y) b c = b.1
based_set base (Own z ∷ zs) zero (Base y) b c = (c.0, b)
based_set base (Base z ∷ zs) zero (Base y) b c = (c.0, b.1)
based_set base (Own z ∷ zs) (suc k) y b c = based_set base zs k y b c
based_set base (Base z ∷ zs) (suc k) y b c = (b.0, based_set base zs k y b.1 c)

-- what is counted at a place is the shelf's own
counted_based : (s : ShelfPages) (base : Store) (y : Place) → count_at s y ≡ 1 → AreBased base (y ∷ [])
counted_based s base (Own y) e = tt
counted_based s base (Base y) e = absurd (omega arith)

-- those that come are covered where those that go were
pub covered_come : (s t : ShelfPages) (gone come : List Place) → Shifts s t gone come → Covers s.own (own gone) → Covers t.own (own come)
covered_come s t gone come m c = record { each = λ x. let a = m.moves.counts x in let b = c.each x in omega arith }

-- where the code looks
module _ (s : ShelfPages) (places : List Place) (i : ℕ) (kept : IsKept s places) (within : i < length (column s places)) where
  pub spot : Lies (blocks s places) (i / 1024) (i % 1024)
  spot = lies (blocks s places) (i / 1024) (i % 1024) kept.paged (mod-lt i (let z : 0 < 1024 = omega arith in z)) (let e = div-add-mod i 1024 in omega arith)

  pub spot_place : i / 1024 < length places
  spot_place = let h = spot.page in let e = length-map places (cells_at s) in omega arith

  module _ (p : Place) (at : p ≡ get_or places (i / 1024) p) where
    pub spot_page : get_or (blocks s places) (i / 1024) [] ≡ cells_at s p
    spot_page = get_or-map (cells_at s) places (i / 1024) p [] spot_place ∙ ap (cells_at s) (sym at)

    pub spot_within : i % 1024 < length (cells_at s p)
    spot_within = let h = spot.cell in let q = ap (λ (b : List Cell). length b) spot_page in omega arith

    pub spot_here : IsHere s p
    spot_here = here_at s places (i / 1024) p (λ x h. let c = kept.covered.each x in omega arith) kept.based spot_place at

    pub spot_get : (d : Cell) → d ≡ get_or (cells_at s p) (i % 1024) d → d ≡ get_or (column s places) i d
    spot_get d is =
        is ∙ ap (λ (b : List Cell). get_or b (i % 1024) d) (sym spot_page) ∙ sym (get_page (blocks s places) (i / 1024) (i % 1024) d kept.paged spot.cell) ∙ ap (λ (n : ℕ). get_or (column s places) n d) (div-add-mod i 1024)

    module _ (t : ShelfPages) (fresh : Place) (v : Cell) (m : Shifts s t (p ∷ []) (fresh ∷ [])) (is : cells_at t fresh ≡ set (cells_at s p) (i % 1024) v) where
      spot_blocks : blocks t (set places (i / 1024) fresh) ≡ set (blocks s places) (i / 1024) (set (get_or (blocks s places) (i / 1024) []) (i % 1024) v)
      spot_blocks = blocks_set s t p fresh places (i / 1024) _ m spot_place at kept.covered.each (is ∙ ap (λ (b : List Cell). set b (i % 1024) v) (sym spot_page))

      pub spot_set : column t (set places (i / 1024) fresh) ≡ set (column s places) i v
      spot_set =
          ap joined spot_blocks ∙ set_page (blocks s places) (i / 1024) (i % 1024) v kept.paged spot.cell ∙ ap (λ (n : ℕ). set (column s places) n v) (div-add-mod i 1024)

      pub spot_count : length (column t (set places (i / 1024) fresh)) ≡ length (column s places)
      spot_count = ap (λ (cs : List Cell). length cs) spot_set ∙ length-set (column s places) i v

      pub spot_shifts : Shifts s t places (set places (i / 1024) fresh)
      spot_shifts = shifts_more s t (p ∷ []) (fresh ∷ []) places (set places (i / 1024) fresh) m
          (λ x. one_held places (i / 1024) p spot_place at x)
          (λ x. let a = held_set places (i / 1024) p fresh x spot_place at in omega arith)

      pub spot_kept : count_at t fresh ≡ 1 → IsKept t (set places (i / 1024) fresh)
      spot_kept alone = record {
        covered = covered_come s t places (set places (i / 1024) fresh) spot_shifts kept.covered;
        based = subst (λ (b : Store). AreBased b (set places (i / 1024) fresh)) (sym m.base) (based_set s.base places (i / 1024) fresh kept.based (counted_based t s.base fresh alone));
        paged = subst IsPaged (sym spot_blocks) (paged_set (blocks s places) (i / 1024) _ kept.paged (length-set (get_or (blocks s places) (i / 1024) []) (i % 1024) v));
      }

-- a place of a column that is kept
pub place_here : (s : ShelfPages) (places : List Place) (k : ℕ) (p : Place) → IsKept s places → k < length places → p ≡ get_or places k p → IsHere s p
place_here s places k p kept h at = here_at s places k p (λ x l. let c = kept.covered.each x in omega arith) kept.based h at

pub place_page : (s : ShelfPages) (places : List Place) (k : ℕ) (p : Place) → k < length places → p ≡ get_or places k p → get_or (blocks s places) k [] ≡ cells_at s p
place_page s places k p h at = get_or-map (cells_at s) places k p [] h ∙ ap (cells_at s) (sym at)

-- what stands at a place of the row is one place
pub same_place : (xs : List Place) (k : ℕ) (p q : Place) → k < length xs → p ≡ get_or xs k p → q ≡ get_or xs k q → p ≡ q
same_place xs k p q h at here = at ∙ get_or_default xs k p q h ∙ sym here
