-- A text split at its first separator.
use Rattle.std.proofs.Common.{◌≡◌, ℕ, suc, ◌+◌, ◌-◌, ◌<◌, List, [], ◌∷◌, length, take, drop, length-drop, Bool, true, false, not, refl, sym, ap, ◌∙◌, arith, Some, None, cond}
use Rattle.std.specs.Prelude.{nat_lt, position}
use Rattle.std.specs.List.{position_or_len, slice_split, onto_first}
use Rattle.std.proofs.lemmas.Bool.Decides.{nat_tests}
use Rattle.std.proofs.lemmas.List.{take_all}
use Rattle.std.proofs.lemmas.List.Splits.{slice_split_first, slice_split-cons_no}

found_at : (b : Bool) (i j : ℕ) → cond b (Some i) None ≡ Some j → (b ≡ true) × (i ≡ j)
found_at true i j e = (refl, cc)
found_at false i j e = cc

found_none : (b : Bool) (i : ℕ) → cond b (Some i) None ≡ None → b ≡ false
found_none true i e = cc
found_none false i e = refl

lt_true : (a b : ℕ) → nat_lt a b ≡ true → a < b
lt_true a b h = grind (arith, nat_tests)

pub split_some : (p : ℕ → Bool) (text : List ℕ) (i : ℕ) → position p text ≡ Some i → slice_split p text ≡ take i text ∷ slice_split p (take (length text - (i + 1)) (drop (i + 1) text))
split_some p text i e =
    let at = found_at (nat_lt (position_or_len p text) (length text)) (position_or_len p text) i e in
    let lt = lt_true (position_or_len p text) (length text) at.0 in
    let all : take (length text - (i + 1)) (drop (i + 1) text) ≡ drop (i + 1) text = take_all (length text - (i + 1)) (drop (i + 1) text) (omega (arith, length-drop (i + 1) text)) in
    slice_split_first p text 0 lt ∙ ap (λ k. take k text ∷ slice_split p (drop (k + 1) text)) at.1 ∙ ap (λ l. take i text ∷ slice_split p l) (sym all)

later_none : (b : Bool) (k n : ℕ) → nat_lt (cond (not b) (1 + k) 0) (suc n) ≡ false → (b ≡ false) × (nat_lt k n ≡ false)
later_none true k n h = let no : nat_lt 0 (suc n) ≡ true = grind (arith, nat_tests) in cc
later_none false k n h = (refl, grind (arith, nat_tests))

unsplit : (p : ℕ → Bool) (text : List ℕ) → nat_lt (position_or_len p text) (length text) ≡ false → slice_split p text ≡ text ∷ []
unsplit p [] h = refl
unsplit p (x ∷ xs) h =
    let next = later_none (p x) (position_or_len p xs) (length xs) h in
    slice_split-cons_no p x xs next.0 ∙ ap (onto_first x) (unsplit p xs next.1)

pub split_none : (p : ℕ → Bool) (text : List ℕ) → position p text ≡ None → slice_split p text ≡ text ∷ []
split_none p text e = unsplit p text (found_none (nat_lt (position_or_len p text) (length text)) (position_or_len p text) e)
