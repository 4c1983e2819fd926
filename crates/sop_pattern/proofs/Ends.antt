-- Patterns that match ends of a name.
use Rattle.std.proofs.Common.{◌≡◌, ℕ, zero, suc, ◌+◌, ◌-◌, ◌*◌, ◌<◌, ◌≤◌, Bool, true, false, List, [], ◌∷◌, length, length-drop, get_or, take, drop, refl, sym, ap, ◌∙◌, subst, arith, inl, inr}
use Rattle.std.specs.Prelude.{◌&&◌, ◌||◌, ◌==◌}
use Rattle.std.specs.List.{list_any}
use Rattle.std.proofs.lemmas.Bool.{and_parts, or_cases, or_left, or_right}
use Rattle.std.proofs.lemmas.List.{take_all}
use Rattle.std.proofs.Math.Nat.{mul-le-mul_right}
use Rattle.sop_pattern.specs.Wildcard.{ends_of, begins, matches}

-- all ends of a text but the text itself
abbrev pub proper_ends_of : List ℕ → List (List ℕ)
proper_ends_of [] = []
proper_ends_of (b ∷ text) = ends_of text

-- whether a pattern matches an end of a text other than the text itself
abbrev pub matches_later : List ℕ → List ℕ → Bool
matches_later pattern text = list_any (matches pattern) (proper_ends_of text)

pub whole_or_later : (pattern text : List ℕ) → list_any (matches pattern) (ends_of text) ≡ (matches pattern text || matches_later pattern text)
whole_or_later pattern [] = refl
whole_or_later pattern (b ∷ text) = refl

-- ---- one byte of a pattern
pub plain_byte : (c : ℕ) (pattern name : List ℕ) → (c == 42) ≡ false → matches (c ∷ pattern) name ≡ (begins c name && matches pattern (drop 1 name))
plain_byte c pattern name h = rw h

-- ---- an end is what is left behind some bytes
end_at : (p : List ℕ → Bool) (text : List ℕ) → list_any p (ends_of text) ≡ true → (k : ℕ) × (p (drop k text) ≡ true)
end_at p [] h = (0, or_false (p []) h)
  where
    or_false : (b : Bool) → (b || false) ≡ true → b ≡ true
    or_false true e = refl
    or_false false e = e
end_at p (b ∷ text) h =
    elim (or_cases (p (b ∷ text)) (list_any p (ends_of text)) h) [
      | inl here ↦ (0, here)
      | inr later ↦ (let (k, is) = end_at p text later in (suc k, is))
    ]

at_end : (p : List ℕ → Bool) (text : List ℕ) (k : ℕ) → p (drop k text) ≡ true → list_any p (ends_of text) ≡ true
at_end p [] zero h = or_left (p []) false h
at_end p [] (suc k) h = or_left (p []) false h
at_end p (b ∷ text) zero h = or_left (p (b ∷ text)) (list_any p (ends_of text)) h
at_end p (b ∷ text) (suc k) h = or_right (p (b ∷ text)) (list_any p (ends_of text)) (at_end p text k h)

later_at : (p : List ℕ → Bool) (text : List ℕ) → list_any p (proper_ends_of text) ≡ true → (k : ℕ) × (p (drop k text) ≡ true)
later_at p [] h = absurd cc
later_at p (b ∷ text) h = let (k, is) = end_at p text h in (suc k, is)

drop_drop : (j k : ℕ) (text : List ℕ) → (i : ℕ) × (drop j (drop k text) ≡ drop i text)
drop_drop j zero text = (j, refl)
drop_drop j (suc k) [] = (j, refl)
drop_drop j (suc k) (b ∷ text) = let (i, is) = drop_drop j k text in (suc i, is)

-- ---- the search
-- What is left to try: the rest of the pattern at what is left of the name, or what stands behind the last `*` further on. Wherever that
-- matches, the rest matches as far behind what is left.
pub record Tries (pattern name behind from rest left : List ℕ) : Type 0 where
  pub same : list_any (matches pattern) (ends_of name) ≡ (matches rest left || matches_later behind from)
  pub ahead : (k : ℕ) → matches behind (drop k from) ≡ true → matches rest (drop k left) ≡ true
  pub left_of : length left ≤ length from
  pub rest_of : length rest ≤ length behind
  pub behind_of : length behind ≤ length pattern

pub tries_first : (pattern name : List ℕ) → Tries pattern name pattern name pattern name
tries_first pattern name = record { same = whole_or_later pattern name; ahead = λ k h. h; left_of = omega arith; rest_of = omega arith; behind_of = omega arith }

absorbed : (m l : Bool) → (l ≡ true → m ≡ true) → (m || l) ≡ m
absorbed true l h = refl
absorbed false true h = sym (h refl)
absorbed false false h = refl

-- at a `*` nothing that stands before it needs another try
pub tries_star : (pattern name behind from more left : List ℕ) → Tries pattern name behind from (42 ∷ more) left → Tries pattern name more left more left
tries_star pattern name behind from more left t =
    let any = list_any (matches more) (ends_of left) in
    let covers : matches_later behind from ≡ true → any ≡ true = λ h.
    let (k, is) = later_at (matches behind) from h in
    let (j, here) = end_at (matches more) (drop k left) (t.ahead k is) in
    let (i, at) = drop_drop j k left in
    at_end (matches more) left i (ap (matches more) (sym at) ∙ here) in
    record {
      same = t.same ∙ absorbed any (matches_later behind from) covers ∙ whole_or_later more left;
      ahead = λ k h. h;
      left_of = omega arith;
      rest_of = omega arith;
      behind_of = omega (arith, t.rest_of, t.behind_of);
    }

drop_next : (k : ℕ) (text : List ℕ) → drop 1 (drop k text) ≡ drop (suc k) text
drop_next zero text = refl
drop_next (suc k) [] = refl
drop_next (suc k) (b ∷ text) = drop_next k text

drop_one : (k : ℕ) (text : List ℕ) → drop 1 (drop k text) ≡ drop k (drop 1 text)
drop_one zero text = refl
drop_one (suc k) [] = refl
drop_one (suc k) (b ∷ text) = drop_next k text

pub tries_byte : (pattern name behind from : List ℕ) (c : ℕ) (more left : List ℕ) → (c == 42) ≡ false → begins c left ≡ true
    → Tries pattern name behind from (c ∷ more) left → Tries pattern name behind from more (drop 1 left)
tries_byte pattern name behind from c more left plain fit t = record {
  same = t.same ∙ ap (λ m. m || matches_later behind from) (plain_byte c more left plain ∙ ap (λ f. f && matches more (drop 1 left)) fit);
  ahead = λ k h.
      let at : (begins c (drop k left) && matches more (drop 1 (drop k left))) ≡ true = sym (plain_byte c more (drop k left) plain) ∙ t.ahead k h in
      ap (matches more) (sym (drop_one k left)) ∙ (and_parts (begins c (drop k left)) (matches more (drop 1 (drop k left))) at).1;
  left_of = omega (arith, t.left_of, length-drop 1 left);
  rest_of = omega (arith, t.rest_of);
  behind_of = t.behind_of;
}

-- the `*` takes one byte more
pub tries_again : (pattern name behind : List ℕ) (f : ℕ) (later rest left : List ℕ) → matches rest left ≡ false → Tries pattern name behind (f ∷ later) rest left → Tries pattern name behind later behind later
tries_again pattern name behind f later rest left fails t = record {
  same = t.same ∙ ap (λ m. m || matches_later behind (f ∷ later)) fails ∙ whole_or_later behind later;
  ahead = λ k h. h;
  left_of = omega arith;
  rest_of = omega arith;
  behind_of = t.behind_of;
}

pub tries_none : (pattern name behind rest left : List ℕ) → matches rest left ≡ false → Tries pattern name behind [] rest left → list_any (matches pattern) (ends_of name) ≡ false
tries_none pattern name behind rest left fails t = t.same ∙ ap (λ m. m || matches_later behind []) fails

pub tries_found : (pattern name behind from : List ℕ) → Tries pattern name behind from [] [] → list_any (matches pattern) (ends_of name) ≡ true
tries_found pattern name behind from t = t.same

-- ---- each byte of the name is tried at most once for each byte of the pattern
pub star_smaller : (most from left more rest : ℕ) → left ≤ from → more < rest → left * (most + 1) + more < from * (most + 1) + rest
star_smaller most from left more rest less shorter = omega (arith, mul-le-mul_right (most + 1) less)

pub again_smaller : (most later from behind rest : ℕ) → later < from → behind ≤ most → later * (most + 1) + behind < from * (most + 1) + rest
again_smaller most later from behind rest less within =
    let e : (later + 1) * (most + 1) ≤ from * (most + 1) = mul-le-mul_right (most + 1) (omega arith) in
    omega (arith, e)

-- ---- the code's slices
rest_is : (text : List ℕ) → take (length text - 1) (drop 1 text) ≡ drop 1 text
rest_is text = take_all (length text - 1) (drop 1 text) (omega (arith, length-drop 1 text))

pub star_step : (pattern name behind from rest left : List ℕ) → 1 ≤ length rest → get_or rest 0 0 ≡ 42
    → Tries pattern name behind from rest left → Tries pattern name (take (length rest - 1) (drop 1 rest)) left (take (length rest - 1) (drop 1 rest)) left
star_step pattern name behind from [] left some first t = absurd (omega arith)
star_step pattern name behind from (c ∷ more) left some first t =
    let at : Tries pattern name behind from (42 ∷ more) left = subst (λ b. Tries pattern name behind from (b ∷ more) left) first t in
    subst (λ rest. Tries pattern name rest left rest left) (sym (rest_is (c ∷ more))) (tries_star pattern name behind from more left at)

pub byte_step : (pattern name behind from rest left : List ℕ) → 1 ≤ length rest → (get_or rest 0 0 == 42) ≡ false → begins (get_or rest 0 0) left ≡ true
    → Tries pattern name behind from rest left → Tries pattern name behind from (take (length rest - 1) (drop 1 rest)) (take (length left - 1) (drop 1 left))
byte_step pattern name behind from [] left some plain fit t = absurd (omega arith)
byte_step pattern name behind from (c ∷ more) left some plain fit t =
    subst (λ rest. Tries pattern name behind from rest (take (length left - 1) (drop 1 left))) (sym (rest_is (c ∷ more)))
    (subst (Tries pattern name behind from more) (sym (rest_is left)) (tries_byte pattern name behind from c more left plain fit t))
