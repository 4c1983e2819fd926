-- Maps from keys: sums over what stands at the keys, and what a write leaves.
use Rattle.std.proofs.Common.{◌≡◌, ◌≢◌, ℕ, zero, suc, ◌+◌, ◌*◌, ◌≤◌, [], ◌∷◌, length, refl, ap, sym, arith}
use Rattle.std.specs.Prelude.{Option, Some, None, slice_set}
use Rattle.sop_vault.specs.Keyed.{Keyed, at, total}

module _ {X : Type 0} (f : Option X → ℕ) (none : f None ≡ 0) where
  pub total_at : (xs : Keyed X) (i : ℕ) → f (at xs i) ≤ total f xs
  total_at [] i = omega arith
  total_at (x ∷ xs) zero = omega arith
  total_at (x ∷ xs) (suc i) = let r = total_at xs i in omega arith

  pub total_two : (xs : Keyed X) (i j : ℕ) → i ≢ j → f (at xs i) + f (at xs j) ≤ total f xs
  total_two [] i j n = omega arith
  total_two (x ∷ xs) zero zero n = absurd (n refl)
  total_two (x ∷ xs) zero (suc j) n = let r = total_at xs j in omega arith
  total_two (x ∷ xs) (suc i) zero n = let r = total_at xs i in omega arith
  total_two (x ∷ xs) (suc i) (suc j) n = let r = total_two xs i j (λ e. n (ap suc e)) in omega arith

  pub total_same : (xs ys : Keyed X) → ((k : ℕ) → at xs k ≡ at ys k) → total f xs ≡ total f ys
  total_same [] [] h = refl
  total_same [] (y ∷ ys) h = let a = ap f (h 0) in let r = total_same [] ys (λ k. h (suc k)) in omega arith
  total_same (x ∷ xs) [] h = let a = ap f (h 0) in let r = total_same xs [] (λ k. h (suc k)) in omega arith
  total_same (x ∷ xs) (y ∷ ys) h = let a = ap f (h 0) in let r = total_same xs ys (λ k. h (suc k)) in omega arith

  -- one key has another value: changed, added or gone
  pub total_changes : (xs ys : Keyed X) (i : ℕ) → ((k : ℕ) → k ≢ i → at ys k ≡ at xs k) → total f ys + f (at xs i) ≡ total f xs + f (at ys i)
  total_changes [] [] i h = omega arith
  total_changes [] (y ∷ ys) zero h = let r = total_same ys [] (λ k. h (suc k) (λ e. omega arith)) in omega arith
  total_changes [] (y ∷ ys) (suc i) h = let a = ap f (h 0 (λ e. omega arith)) in let r = total_changes [] ys i (λ k n. h (suc k) (λ e. n (omega arith))) in omega arith
  total_changes (x ∷ xs) [] zero h = let r = total_same [] xs (λ k. h (suc k) (λ e. omega arith)) in omega arith
  total_changes (x ∷ xs) [] (suc i) h = let a = ap f (h 0 (λ e. omega arith)) in let r = total_changes xs [] i (λ k n. h (suc k) (λ e. n (omega arith))) in omega arith
  total_changes (x ∷ xs) (y ∷ ys) zero h = let r = total_same ys xs (λ k. h (suc k) (λ e. omega arith)) in omega arith
  total_changes (x ∷ xs) (y ∷ ys) (suc i) h = let a = ap f (h 0 (λ e. omega arith)) in let r = total_changes xs ys i (λ k n. h (suc k) (λ e. n (omega arith))) in omega arith

  pub total_bound : (xs : Keyed X) (most : ℕ) → ((k : ℕ) → f (at xs k) ≤ most) → total f xs ≤ length xs * most
  total_bound [] most h = omega arith
  total_bound (x ∷ xs) most h = let a = h 0 in let r = total_bound xs most (λ k. h (suc k)) in omega arith

-- a write through a reference to what stands at a key
pub set_here : {X : Type 0} (xs : Keyed X) (k : ℕ) (v w : X) → at xs k ≡ Some v → at (slice_set xs k (Some w)) k ≡ Some w
set_here [] k v w e = absurd (cc)
set_here (x ∷ xs) zero v w e = refl
set_here (x ∷ xs) (suc k) v w e = set_here xs k v w e

pub set_other : {X : Type 0} (xs : Keyed X) (k : ℕ) (w : X) (other : ℕ) → other ≢ k → at (slice_set xs k (Some w)) other ≡ at xs other
set_other [] k w other n = refl
set_other (x ∷ xs) zero w zero n = absurd (n refl)
set_other (x ∷ xs) zero w (suc other) n = refl
set_other (x ∷ xs) (suc k) w zero n = refl
set_other (x ∷ xs) (suc k) w (suc other) n = set_other xs k w other (λ e. n (ap suc e))

pub set_same : {X : Type 0} (xs : Keyed X) (k : ℕ) (v : X) → at xs k ≡ Some v → slice_set xs k (Some v) ≡ xs
set_same [] k v e = refl
set_same (x ∷ xs) zero v e = λ i. (sym e) i ∷ xs
set_same (x ∷ xs) (suc k) v e = λ i. x ∷ set_same xs k v e i
