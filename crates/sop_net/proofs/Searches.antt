-- The first element that passes a test: its place, in a list and in its images.
use Rattle.std.proofs.Common.{◌≡◌, ◌∙◌, sym, ap, subst, refl, ℕ, zero, suc, ◌+◌, ◌<◌, ◌≤◌, inl, inr, List, [], ◌∷◌, ◌++◌, Bool, true, false, not, ◌||◌, cond, length, arith}
use Rattle.std.specs.Prelude.{None, Some, map, position, nat_lt, find, slice_get, is_some}
use Rattle.std.specs.List.{position_or_len, list_any}
use Rattle.std.proofs.lemmas.Bool.{cases_lt}
use Rattle.std.proofs.lemmas.Bool.Decides.{nat_tests}
use Rattle.std.proofs.lemmas.List.Folds.{find_at}

pub cond-below : (i n : ℕ) → i < n → cond (nat_lt i n) (Some i) None ≡ Some i
cond-below i n h = grind (arith, nat_tests)

some-cond : (i k n : ℕ) → cond (nat_lt k n) (Some k) None ≡ Some i → k ≡ i
some-cond i k n e = (elim (nat_lt k n) as (λ b. cond b (Some k) None ≡ Some i → k ≡ i) [ true ↦ λ h. cc | false ↦ λ h. absurd (cc) ]) e

below-cond : (i k n : ℕ) → cond (nat_lt k n) (Some k) None ≡ Some i → k < n
below-cond i k n e = elim (cases_lt k n) [ inl below ↦ below | inr above ↦ (let none : cond (nat_lt k n) (Some k) None ≡ None = grind (arith, nat_tests) in absurd (cc)) ]

none-cond : (k n : ℕ) → cond (nat_lt k n) (Some k) None ≡ None → n ≤ k
none-cond k n e = elim (cases_lt k n) [ inl below ↦ (let some : cond (nat_lt k n) (Some k) None ≡ Some k = cond-below k n below in absurd (cc)) | inr above ↦ above ]

pub within-some : {A : Type 0} (xs : List A) (i : ℕ) → is_some (slice_get xs i) ≡ true → i < length xs
within-some [] i e = absurd (cc)
within-some (x ∷ xs) zero e = omega arith
within-some (x ∷ xs) (suc i) e = let below = within-some xs i e in omega arith

past-get : {A : Type 0} (xs : List A) (i : ℕ) → length xs ≤ i → slice_get xs i ≡ None
past-get [] i h = refl
past-get (x ∷ xs) zero h = absurd (omega arith)
past-get (x ∷ xs) (suc i) h = past-get xs i (omega arith)

module _ {A : Type 0} (p : A → Bool) (xs : List A) where
  -- what is found is what stands at its place
  pub find-position : (i : ℕ) → position p xs ≡ Some i → find p xs ≡ slice_get xs i
  find-position i e = find_at p xs ∙ ap (slice_get xs) (some-cond i (position_or_len p xs) (length xs) e)

  pub position-within : (i : ℕ) → position p xs ≡ Some i → i < length xs
  position-within i e = subst (λ k. k < length xs) (some-cond i (position_or_len p xs) (length xs) e) (below-cond i (position_or_len p xs) (length xs) e)

  pub find-no_position : position p xs ≡ None → find p xs ≡ None
  find-no_position e = find_at p xs ∙ past-get xs (position_or_len p xs) (none-cond (position_or_len p xs) (length xs) e)

  pub past-all : position p xs ≡ None → length xs ≤ position_or_len p xs
  past-all e = none-cond (position_or_len p xs) (length xs) e

pub none-passes : {A : Type 0} (p : A → Bool) (xs : List A) → length xs ≤ position_or_len p xs → list_any p xs ≡ false
none-passes p [] h = refl
none-passes p (x ∷ xs) h =
    (elim (p x) as (λ b. suc (length xs) ≤ cond (not b) (1 + position_or_len p xs) 0 → (b || list_any p xs) ≡ false) [
      | true ↦ λ le. absurd (omega arith)
      | false ↦ λ le. none-passes p xs (omega arith)
    ]) h

pub first-map : {A B : Type 0} (f : A → B) (p : B → Bool) (xs : List A) → position_or_len (λ x. p (f x)) xs ≡ position_or_len p (map f xs)
first-map f p [] = refl
first-map f p (x ∷ xs) = ap (λ k. cond (not (p (f x))) (1 + k) 0) (first-map f p xs)

pub length-map : {A B : Type 0} (f : A → B) (xs : List A) → length (map f xs) ≡ length xs
length-map f [] = refl
length-map f (x ∷ xs) = ap suc (length-map f xs)

pub map-push : {A B : Type 0} (f : A → B) (xs : List A) (x : A) → map f (xs ++ x ∷ []) ≡ map f xs ++ f x ∷ []
map-push f [] x = refl
map-push f (y ∷ xs) x = ap (λ l. f y ∷ l) (map-push f xs x)

pub any-map : {A B : Type 0} (f : A → B) (p : B → Bool) (xs : List A) → list_any (λ x. p (f x)) xs ≡ list_any p (map f xs)
any-map f p [] = refl
any-map f p (x ∷ xs) = ap (λ found. p (f x) || found) (any-map f p xs)

pub position-map : {A B : Type 0} (f : A → B) (p : B → Bool) (xs : List A) → position (λ x. p (f x)) xs ≡ position p (map f xs)
position-map f p xs =
    ap (λ k. cond (nat_lt k (length xs)) (Some k) None) (first-map f p xs)
    ∙ ap (λ m. cond (nat_lt (position_or_len p (map f xs)) m) (Some (position_or_len p (map f xs))) None) (sym (length-map f xs))
