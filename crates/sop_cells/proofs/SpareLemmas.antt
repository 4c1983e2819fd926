-- A page more on the shelf is a shared place less.
use Rattle.std.proofs.Common.{◌≡◌, ℕ, zero, suc, ◌+◌, ◌<◌, ◌≤◌, List, [], ◌∷◌, length, set, get_or, refl, ap, arith, inl, inr}
use Rattle.std.specs.Prelude.{nat_lt, if◌then◌else◌, ◌==◌}
use Rattle.std.proofs.lemmas.Bool.Decides.{nat_tests}
use Rattle.sop_pages.specs.Pages.{count}
use Rattle.sop_pages.specs.Moves.{times}
use Rattle.sop_pages.proofs.MoveLemmas.{same_or, times_here, times_else}
use Rattle.sop_cells.specs.declared.place.Place.{Place}
use Rattle.sop_cells.specs.declared.place.Place.TheVariants.{Own, Base}
use Rattle.sop_cells.specs.Places.{own}
use Rattle.sop_cells.specs.Shelves.{ShelfPages, IsHere, count_at, shared, Shifts}

one_less : (a b : ℕ) → b ≤ a → (if nat_lt 1 b then 1 else 0) ≤ (if nat_lt 1 a then 1 else 0)
one_less a b h = grind (arith, nat_tests)

one_more : (a : ℕ) → 1 < a → 1 ≤ (if nat_lt 1 a then 1 else 0)
one_more a h = grind (arith, nat_tests)

one_none : (a : ℕ) → a ≡ 1 → (if nat_lt 1 a then 1 else 0) ≤ 0
one_none a h = grind (arith, nat_tests)

cost_one : (n : ℕ) → n ≡ 1 → (if n == 1 then 0 else 1) ≤ 0
cost_one n h = grind (arith, nat_tests)

cost_any : (n : ℕ) → (if n == 1 then 0 else 1) ≤ 1
cost_any n = grind (arith, nat_tests)

shared_first : (s : ShelfPages) (p : Place) (xs : List Place) → shared s (p ∷ xs) ≡ shared s (p ∷ []) + shared s xs
shared_first s (Own x) xs = omega arith
shared_first s (Base x) xs = omega arith

-- where counts fall, no more places are shared
pub shared_falls : (s t : ShelfPages) (xs : List Place) → ((x : ℕ) → 1 ≤ times x (own xs) → count t.own x ≤ count s.own x) → shared t xs ≤ shared s xs
shared_falls s t [] h = omega arith
shared_falls s t (Own x ∷ xs) h = let a = one_less (count s.own x) (count t.own x) (h x (let b = times_here x x refl in omega arith)) in let r = shared_falls s t xs (λ y l. h y (omega arith)) in omega arith
shared_falls s t (Base x ∷ xs) h = let r = shared_falls s t xs h in omega arith

-- a place that is counted once isn't shared
fresh_alone : (t : ShelfPages) (y : Place) → count_at t y ≡ 1 → shared t (y ∷ []) ≤ 0
fresh_alone t (Own y) e = let a = one_none (count t.own y) e in omega arith
fresh_alone t (Base y) e = absurd (omega arith)

-- a place that is not counted once is shared
many_shared : (s : ShelfPages) (p : Place) → IsHere s p → (count_at s p ≡ 1 → 1 ≤ 0) → 1 ≤ shared s (p ∷ [])
many_shared s (Own x) h n = let a = one_more (count s.own x) (elim (same_or (count s.own x) 1) [ inl e ↦ absurd (let z = n e in omega arith) | inr d ↦ omega arith ]) in omega arith
many_shared s (Base x) h n = omega arith

-- a step that changes one place raises no count
pub set_falls : (s t : ShelfPages) (p fresh : Place) → Shifts s t (p ∷ []) (fresh ∷ []) → count_at t fresh ≡ 1 → (x : ℕ) → 1 ≤ count s.own x → count t.own x ≤ count s.own x
set_falls s t p (Own y) m one x h = let c = m.moves.counts x in elim (same_or x y) [
  | inl e ↦ let a = ap (count t.own) e in omega arith
  | inr n ↦ let a = times_else x y n in omega arith
]
set_falls s t p (Base y) m one x h = absurd (omega arith)

-- the row after such a step shares as many places at most, and one less where the place was shared
module _ (s t : ShelfPages) (p fresh : Place) (m : Shifts s t (p ∷ []) (fresh ∷ [])) (one : count_at t fresh ≡ 1) where
  replaced : (xs : List Place) (k : ℕ) → ((x : ℕ) → times x (own xs) ≤ count s.own x) → k < length xs → p ≡ get_or xs k p → shared t (set xs k fresh) + shared s (p ∷ []) ≤ shared s xs
  replaced [] k c h at = absurd (omega arith)
  replaced (x ∷ xs) zero c h at =
      let a = shared_first t fresh xs in let b = shared_first s x xs in let e = ap (λ (q : Place). shared s (q ∷ [])) at in let f = fresh_alone t fresh one in
      let r = shared_falls s t xs (λ y l. set_falls s t p fresh m one y (let d = c y in let g = more y x xs in omega arith)) in omega arith
    where
      more : (y : ℕ) (x : Place) (xs : List Place) → times y (own xs) ≤ times y (own (x ∷ xs))
      more y (Own x) xs = omega arith
      more y (Base x) xs = omega arith
  replaced (Own x ∷ xs) (suc k) c h at =
      let a = one_less (count s.own x) (count t.own x) (set_falls s t p fresh m one x (let d = c x in let b = times_here x x refl in omega arith)) in
      let r = replaced xs k (λ y. let d = c y in omega arith) (omega arith) at in omega arith
  replaced (Base x ∷ xs) (suc k) c h at = let r = replaced xs k c (omega arith) at in omega arith

  pub spare : (xs : List Place) (k : ℕ) → ((x : ℕ) → times x (own xs) ≤ count s.own x) → IsHere s p → k < length xs → p ≡ get_or xs k p → (if count_at s p == 1 then 0 else 1) + shared t (set xs k fresh) ≤ shared s xs
  spare xs k c here h at =
      let r = replaced xs k c h at in elim (same_or (count_at s p) 1) [
        | inl e ↦ let a = cost_one (count_at s p) e in omega arith
        | inr n ↦ let a = cost_any (count_at s p) in let b = many_shared s p here (λ e. absurd (n e)) in omega arith
      ]
