-- What a step beside a column leaves of it, and that a new column of a new shelf has room to be held again.
use Rattle.std.proofs.Common.{◌≡◌, ℕ, zero, suc, ◌+◌, ◌^◌, ◌<◌, ◌≤◌, List, [], ◌∷◌, length, refl, ap, sym, subst, arith, inl, inr}
use Rattle.sop_pages.specs.Pages.{Store, count}
use Rattle.sop_pages.specs.Moves.{times}
use Rattle.sop_pages.proofs.MoveLemmas.{same_or, times_here, times_else}
use Rattle.sop_cells.specs.declared.place.Place.{Place}
use Rattle.sop_cells.specs.declared.place.Place.TheVariants.{Own, Base}
use Rattle.sop_cells.specs.Places.{own}
use Rattle.sop_cells.specs.Shelves.{ShelfPages, joined, column, IsPaged, IsKept, Shifts}
use Rattle.sop_cells.proofs.PlaceLemmas.{kept_beside, covered_beside, based_beside}
use Rattle.sop_cells.proofs.PartLemmas.{places_few}

-- a column beside those places that go is the same after the step
module _ (s t : ShelfPages) (gone come xs : List Place) (m : Shifts s t gone come) (kept : IsKept s xs) (beside : (x : ℕ) → times x (own gone) + times x (own xs) ≤ count s.own x) where
  pub column_beside : column t xs ≡ column s xs
  column_beside = ap joined (kept_beside s t gone come xs m (λ x h. let b = beside x in omega arith))

  pub stays_kept : IsKept t xs
  stays_kept = record {
    covered = covered_beside s t gone come xs m beside;
    based = based_beside s t gone come xs m kept.based;
    paged = subst IsPaged (sym (kept_beside s t gone come xs m (λ x h. let b = beside x in omega arith))) kept.paged;
  }

-- an id is held at most once by each place
pub held_few : (x : ℕ) (xs : List Place) → times x (own xs) ≤ length xs
held_few x [] = omega arith
held_few x (Own y ∷ xs) = let r = held_few x xs in let a = one x y in omega arith
  where
    one : (x y : ℕ) → times x (y ∷ []) ≤ 1
    one x y = elim (same_or x y) [ inl e ↦ let a = times_here x y e in omega arith | inr n ↦ let a = times_else x y n in omega arith ]
held_few x (Base y ∷ xs) = let r = held_few x xs in omega arith

-- the only column of a shelf may be held twice more
pub alone_room : (t : ShelfPages) (xs : List Place) → IsKept t xs → length (column t xs) < 2 ^ 32 → ((x : ℕ) → count t.own x ≤ times x (own xs)) → (x : ℕ) → count t.own x + times x (own xs) + times x (own xs) < 2 ^ 128
alone_room t xs kept few alone x = let a = held_few x xs in let b = places_few t xs kept in let c = alone x in omega arith

no_count : (x : ℕ) → count [] x ≡ 0
no_count zero = refl
no_count (suc x) = refl

-- a column that was put on a shelf without pages is the only one
pub first_alone : (s t : ShelfPages) (xs : List Place) → s.own ≡ [] → Shifts s t [] xs → (x : ℕ) → count t.own x ≤ times x (own xs)
first_alone s t xs e m x = let c = m.moves.counts x in let n = no_count x in let q = ap (λ (u : Store). count u x) e in omega arith

-- and it stays so where it changes
pub alone_then : (s t : ShelfPages) (xs ys : List Place) → Shifts s t xs ys → ((x : ℕ) → count s.own x ≤ times x (own xs)) → (x : ℕ) → count t.own x ≤ times x (own ys)
alone_then s t xs ys m alone x = let c = m.moves.counts x in let a = alone x in omega arith
