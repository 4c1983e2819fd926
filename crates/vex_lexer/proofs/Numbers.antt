-- The longest number that begins at a place.
use Rattle.std.proofs.Common.{◌≡◌, ℕ, zero, suc, ◌+◌, ◌≤◌, ◌<◌, List, [], ◌∷◌, ◌++◌, length, take, drop, refl, ap, sym, subst, ◌∙◌, arith, Bool, true, false, not, ◌&&◌, ◌||◌, cond, if◌then◌else◌, inl, inr, Some, None, is_some, position, nat_lt}
use Rattle.std.proofs.lemmas.Bool.{and_from, and_parts, cases_lt}
use Rattle.std.proofs.lemmas.Grind.{common_steps}
use Rattle.std.proofs.lemmas.List.Sums.{prefix_len-le-length}
use Rattle.std.proofs.lemmas.List.Folds.{length-prefix_len}
use Rattle.std.proofs.lemmas.List.{drop-drop}
use Rattle.std.specs.List.{list_all, prefix_len, position_or_len, before_first, after_first}
use Rattle.std.specs.Char.{is_ascii_digit}
use Rattle.sop_fixed.specs.Numerals.{is_sign, is_point, is_exponent_mark, after_sign, is_some_digits, digits_of, is_numeral}
use Rattle.vex_lexer.specs.Longest.{IsLongest}
use Rattle.vex_lexer.specs.Words.{begins, is_number}
use Rattle.vex_lexer.specs.Parts.{is_signed_digits, is_exponent, ends_well, is_loose_number, is_fraction, begins_number, fraction_len}
use Rattle.vex_lexer.proofs.Longest.{longest_of, none_fits, not_both, fits_within}
use Rattle.vex_lexer.proofs.Runs.{run_passes, run_within}
use Rattle.vex_lexer.specs.Longest.{onto}
use Rattle.vex_lexer.proofs.Steps.{step_longest, stop_longest, step_on, agree_longest}

-- before and behind the first byte that passes, by the first byte of a text

before-yes : (p : ℕ → Bool) (b : ℕ) (text : List ℕ) → p b ≡ true → before_first p (b ∷ text) ≡ []
before-yes p b text e = ap (λ x. take (cond (not x) (1 + position_or_len p text) 0) (b ∷ text)) e

before-no : (p : ℕ → Bool) (b : ℕ) (text : List ℕ) → p b ≡ false → before_first p (b ∷ text) ≡ b ∷ before_first p text
before-no p b text e =
    ap (λ x. take (cond (not x) (1 + position_or_len p text) 0) (b ∷ text)) e
    ∙ ap (λ n. take n (b ∷ text)) (let s : 1 + position_or_len p text ≡ suc (position_or_len p text) = omega arith in s)

after-yes : (p : ℕ → Bool) (b : ℕ) (text : List ℕ) → p b ≡ true → after_first p (b ∷ text) ≡ text
after-yes p b text e = ap (λ x. drop (cond (not x) (1 + position_or_len p text) 0 + 1) (b ∷ text)) e

after-no : (p : ℕ → Bool) (b : ℕ) (text : List ℕ) → p b ≡ false → after_first p (b ∷ text) ≡ after_first p text
after-no p b text e =
    ap (λ x. drop (cond (not x) (1 + position_or_len p text) 0 + 1) (b ∷ text)) e
    ∙ ap (λ n. drop n (b ∷ text)) (let s : 1 + position_or_len p text + 1 ≡ suc (position_or_len p text + 1) = omega arith in s)

is_some_cond : (x : Bool) (k : ℕ) → is_some (cond x (Some k) None) ≡ x
is_some_cond true k = refl
is_some_cond false k = refl

found-yes : (p : ℕ → Bool) (b : ℕ) (text : List ℕ) → p b ≡ true → is_some (position p (b ∷ text)) ≡ true
found-yes p b text e =
    is_some_cond (nat_lt (position_or_len p (b ∷ text)) (suc (length text))) (position_or_len p (b ∷ text))
    ∙ ap (λ x. nat_lt (cond (not x) (1 + position_or_len p text) 0) (suc (length text))) e
    ∙ (let s : nat_lt 0 (suc (length text)) ≡ true = grind arith in s)

less_next : (k n : ℕ) → nat_lt (1 + k) (suc n) ≡ nat_lt k n
less_next k n = elim (cases_lt k n) [
  | inl less ↦ (let s : nat_lt (1 + k) (suc n) ≡ true = grind arith in let t : nat_lt k n ≡ true = grind arith in s ∙ sym t)
  | inr more ↦ (let s : nat_lt (1 + k) (suc n) ≡ false = grind arith in let t : nat_lt k n ≡ false = grind arith in s ∙ sym t)
]

found-no : (p : ℕ → Bool) (b : ℕ) (text : List ℕ) → p b ≡ false → is_some (position p (b ∷ text)) ≡ is_some (position p text)
found-no p b text e =
    is_some_cond (nat_lt (position_or_len p (b ∷ text)) (suc (length text))) (position_or_len p (b ∷ text))
    ∙ ap (λ x. nat_lt (cond (not x) (1 + position_or_len p text) 0) (suc (length text))) e
    ∙ less_next (position_or_len p text) (length text)
    ∙ sym (is_some_cond (nat_lt (position_or_len p text) (length text)) (position_or_len p text))

-- what kinds of byte exclude each other

digit_no_mark : (b : ℕ) → is_ascii_digit b ≡ true → is_exponent_mark b ≡ false
digit_no_mark b d = grind (arith, common_steps)

digit_no_point : (b : ℕ) → is_ascii_digit b ≡ true → is_point b ≡ false
digit_no_point b d = grind (arith, common_steps)

digit_no_sign : (b : ℕ) → is_ascii_digit b ≡ true → is_sign b ≡ false
digit_no_sign b d = grind (arith, common_steps)

point_no_mark : (b : ℕ) → is_point b ≡ true → is_exponent_mark b ≡ false
point_no_mark b d = grind (arith, common_steps)

point_no_sign : (b : ℕ) → is_point b ≡ true → is_sign b ≡ false
point_no_sign b d = grind (arith, common_steps)

-- the end of a number, by its first byte

ends_well-yes : (b : ℕ) (text : List ℕ) → is_exponent_mark b ≡ true → ends_well (b ∷ text) ≡ is_signed_digits text
ends_well-yes b text e =
    ap (λ x. not x || is_signed_digits (after_first is_exponent_mark (b ∷ text))) (found-yes is_exponent_mark b text e)
    ∙ ap is_signed_digits (after-yes is_exponent_mark b text e)

ends_well-no : (b : ℕ) (text : List ℕ) → is_exponent_mark b ≡ false → ends_well (b ∷ text) ≡ ends_well text
ends_well-no b text e =
    ap (λ x. not x || is_signed_digits (after_first is_exponent_mark (b ∷ text))) (found-no is_exponent_mark b text e)
    ∙ ap (λ t. not (is_some (position is_exponent_mark text)) || is_signed_digits t) (after-no is_exponent_mark b text e)

-- digits, by their first byte

pub fraction-digit : (b : ℕ) (text : List ℕ) → is_ascii_digit b ≡ true → is_fraction (b ∷ text) ≡ is_fraction text
fraction-digit b text d =
    ap (λ t. list_all is_ascii_digit t && ends_well (b ∷ text)) (before-no is_exponent_mark b text (digit_no_mark b d))
    ∙ ap (λ x. (x && list_all is_ascii_digit (before_first is_exponent_mark text)) && ends_well (b ∷ text)) d
    ∙ ap (λ x. list_all is_ascii_digit (before_first is_exponent_mark text) && x) (ends_well-no b text (digit_no_mark b d))

pub fraction-mark : (b : ℕ) (text : List ℕ) → is_exponent_mark b ≡ true → is_fraction (b ∷ text) ≡ is_signed_digits text
fraction-mark b text e =
    ap (λ t. list_all is_ascii_digit t && ends_well (b ∷ text)) (before-yes is_exponent_mark b text e)
    ∙ ends_well-yes b text e

pub fraction-other : (b : ℕ) (text : List ℕ) → is_exponent_mark b ≡ false → is_ascii_digit b ≡ false → is_fraction (b ∷ text) ≡ false
fraction-other b text e d =
    ap (λ t. list_all is_ascii_digit t && ends_well (b ∷ text)) (before-no is_exponent_mark b text e)
    ∙ ap (λ x. (x && list_all is_ascii_digit (before_first is_exponent_mark text)) && ends_well (b ∷ text)) d

digits-point : (b : ℕ) (text : List ℕ) → is_point b ≡ true → digits_of (b ∷ text) ≡ text
digits-point b text e = ap (λ t. t ++ after_first is_point (b ∷ text)) (before-yes is_point b text e) ∙ after-yes is_point b text e

digits-other : (b : ℕ) (text : List ℕ) → is_point b ≡ false → digits_of (b ∷ text) ≡ b ∷ digits_of text
digits-other b text e =
    ap (λ t. t ++ after_first is_point (b ∷ text)) (before-no is_point b text e)
    ∙ ap (λ t. b ∷ (before_first is_point text ++ t)) (after-no is_point b text e)

pub loose-digit : (b : ℕ) (text : List ℕ) → is_ascii_digit b ≡ true → is_loose_number (b ∷ text) ≡ is_loose_number text
loose-digit b text d =
    ap (λ t. list_all is_ascii_digit (digits_of t) && ends_well (b ∷ text)) (before-no is_exponent_mark b text (digit_no_mark b d))
    ∙ ap (λ t. list_all is_ascii_digit t && ends_well (b ∷ text)) (digits-other b (before_first is_exponent_mark text) (digit_no_point b d))
    ∙ ap (λ x. (x && list_all is_ascii_digit (digits_of (before_first is_exponent_mark text))) && ends_well (b ∷ text)) d
    ∙ ap (λ x. list_all is_ascii_digit (digits_of (before_first is_exponent_mark text)) && x) (ends_well-no b text (digit_no_mark b d))

pub loose-point : (b : ℕ) (text : List ℕ) → is_point b ≡ true → is_loose_number (b ∷ text) ≡ is_fraction text
loose-point b text e =
    ap (λ t. list_all is_ascii_digit (digits_of t) && ends_well (b ∷ text)) (before-no is_exponent_mark b text (point_no_mark b e))
    ∙ ap (λ t. list_all is_ascii_digit t && ends_well (b ∷ text)) (digits-point b (before_first is_exponent_mark text) e)
    ∙ ap (λ x. list_all is_ascii_digit (before_first is_exponent_mark text) && x) (ends_well-no b text (point_no_mark b e))

pub loose-mark : (b : ℕ) (text : List ℕ) → is_exponent_mark b ≡ true → is_loose_number (b ∷ text) ≡ is_signed_digits text
loose-mark b text e =
    ap (λ t. list_all is_ascii_digit (digits_of t) && ends_well (b ∷ text)) (before-yes is_exponent_mark b text e)
    ∙ ends_well-yes b text e

pub loose-other : (b : ℕ) (text : List ℕ) → is_exponent_mark b ≡ false → is_point b ≡ false → is_ascii_digit b ≡ false → is_loose_number (b ∷ text) ≡ false
loose-other b text e p d =
    ap (λ t. list_all is_ascii_digit (digits_of t) && ends_well (b ∷ text)) (before-no is_exponent_mark b text e)
    ∙ ap (λ t. list_all is_ascii_digit t && ends_well (b ∷ text)) (digits-other b (before_first is_exponent_mark text) p)
    ∙ ap (λ x. (x && list_all is_ascii_digit (digits_of (before_first is_exponent_mark text))) && ends_well (b ∷ text)) d

-- an exponent, where no digit and no point begins

exponent-mark : (b : ℕ) (text : List ℕ) → is_exponent_mark b ≡ true → is_exponent (b ∷ text) ≡ is_signed_digits text
exponent-mark b text e = ap (λ x. x && is_signed_digits text) e

exponent-other : (b : ℕ) (text : List ℕ) → is_exponent_mark b ≡ false → is_exponent (b ∷ text) ≡ false
exponent-other b text e = ap (λ x. x && is_signed_digits text) e

fraction_there : (text : List ℕ) → begins is_ascii_digit text ≡ false → (more : ℕ) → 0 < more → more ≤ length text → is_exponent (take more text) ≡ is_fraction (take more text)
fraction_there text d zero some inside = absurd (omega arith)
fraction_there [] d (suc more) some inside = absurd (omega arith)
fraction_there (b ∷ text) d (suc more) some inside = elim (is_exponent_mark b) as (λ x. is_exponent_mark b ≡ x → is_exponent (b ∷ take more text) ≡ is_fraction (b ∷ take more text)) [
  | true ↦ λ e. exponent-mark b (take more text) e ∙ sym (fraction-mark b (take more text) e)
  | false ↦ λ e. exponent-other b (take more text) e ∙ sym (fraction-other b (take more text) e d)
] refl

loose_there : (text : List ℕ) → begins is_ascii_digit text ≡ false → begins is_point text ≡ false → (more : ℕ) → 0 < more → more ≤ length text → is_exponent (take more text) ≡ is_loose_number (take more text)
loose_there text d p zero some inside = absurd (omega arith)
loose_there [] d p (suc more) some inside = absurd (omega arith)
loose_there (b ∷ text) d p (suc more) some inside = elim (is_exponent_mark b) as (λ x. is_exponent_mark b ≡ x → is_exponent (b ∷ take more text) ≡ is_loose_number (b ∷ take more text)) [
  | true ↦ λ e. exponent-mark b (take more text) e ∙ sym (loose-mark b (take more text) e)
  | false ↦ λ e. exponent-other b (take more text) e ∙ sym (loose-other b (take more text) e p d)
] refl

-- behind a run of digits

past_digits : (text : List ℕ) → begins is_ascii_digit (drop (prefix_len is_ascii_digit text) text) ≡ false
past_digits [] = refl
past_digits (b ∷ text) = elim (is_ascii_digit b) as (λ x. is_ascii_digit b ≡ x → begins is_ascii_digit (drop (cond x (1 + prefix_len is_ascii_digit text) 0) (b ∷ text)) ≡ false) [
  | true ↦ λ d. (let e : suc (prefix_len is_ascii_digit text) ≡ 1 + prefix_len is_ascii_digit text = omega arith in subst (λ n. begins is_ascii_digit (drop n (b ∷ text)) ≡ false) e (past_digits text))
  | false ↦ λ d. d
] refl

past_run : (f : List ℕ → Bool) → f [] ≡ true → ((b : ℕ) (text : List ℕ) → is_ascii_digit b ≡ true → f (b ∷ text) ≡ f text) → (text : List ℕ) (len : ℕ)
    → IsLongest f (drop (prefix_len is_ascii_digit text) text) len → IsLongest f text (prefix_len is_ascii_digit text + len)
past_run f empty same [] len = λ h. (let e : len ≡ 0 + len = omega arith in subst (IsLongest f []) e h)
past_run f empty same (b ∷ text) len = elim (is_ascii_digit b) as (λ x. is_ascii_digit b ≡ x → IsLongest f (drop (cond x (1 + prefix_len is_ascii_digit text) 0) (b ∷ text)) len → IsLongest f (b ∷ text) (cond x (1 + prefix_len is_ascii_digit text) 0 + len)) [
  | true ↦ λ d h.
      (let e : 1 + prefix_len is_ascii_digit text ≡ suc (prefix_len is_ascii_digit text) = omega arith in
      let sum : suc (prefix_len is_ascii_digit text + len) ≡ 1 + prefix_len is_ascii_digit text + len = omega arith in
      let rest = past_run f empty same text len (subst (λ n. IsLongest f (drop n (b ∷ text)) len) e h) in
      subst (IsLongest f (b ∷ text)) sum (step_on f f b text (prefix_len is_ascii_digit text + len) empty (λ word. same b word d) rest))
  | false ↦ λ d h. (let e : len ≡ 0 + len = omega arith in subst (IsLongest f (b ∷ text)) e h)
] refl

longest_fraction : (text : List ℕ) (len : ℕ) → IsLongest is_exponent (drop (prefix_len is_ascii_digit text) text) len → IsLongest is_fraction text (prefix_len is_ascii_digit text + len)
longest_fraction text len h =
    let rest = drop (prefix_len is_ascii_digit text) text in
    past_run is_fraction refl fraction-digit text len (agree_longest is_exponent is_fraction rest len (λ more some over inside. fraction_there rest (past_digits text) more some inside) h)

-- a point and what belongs behind it, or no point
behind_whole : (text : List ℕ) (len : ℕ) → begins is_ascii_digit text ≡ false → IsLongest is_exponent (drop (fraction_len text) text) len → IsLongest is_loose_number text (fraction_len text + len)
behind_whole [] len d = λ h.
    (let e : len ≡ 0 + len = omega arith in subst (IsLongest is_loose_number []) e (agree_longest is_exponent is_loose_number [] len (λ more some over inside. absurd (omega arith)) h))
behind_whole (b ∷ text) len d = elim (is_point b) as (λ x. is_point b ≡ x → IsLongest is_exponent (drop (if x then 1 + prefix_len is_ascii_digit text else 0) (b ∷ text)) len → IsLongest is_loose_number (b ∷ text) ((if x then 1 + prefix_len is_ascii_digit text else 0) + len)) [
  | true ↦ λ p h.
      (let e : 1 + prefix_len is_ascii_digit text ≡ suc (prefix_len is_ascii_digit text) = omega arith in
      let sum : suc (prefix_len is_ascii_digit text + len) ≡ 1 + prefix_len is_ascii_digit text + len = omega arith in
      subst (IsLongest is_loose_number (b ∷ text)) sum
      (step_on is_loose_number is_fraction b text (prefix_len is_ascii_digit text + len) refl (λ word. loose-point b word p)
      (longest_fraction text len (subst (λ n. IsLongest is_exponent (drop n (b ∷ text)) len) e h))))
  | false ↦ λ p h.
      (let e : len ≡ 0 + len = omega arith in
      subst (IsLongest is_loose_number (b ∷ text)) e (agree_longest is_exponent is_loose_number (b ∷ text) len (λ more some over inside. loose_there (b ∷ text) d p more some inside) h))
] refl

pub longest_loose : (text : List ℕ) (whole fraction len : ℕ) → whole ≡ prefix_len is_ascii_digit text → fraction ≡ fraction_len (drop whole text)
    → IsLongest is_exponent (drop (whole + fraction) text) len → IsLongest is_loose_number text (whole + fraction + len)
longest_loose text whole fraction len w f h =
    let rest = drop (prefix_len is_ascii_digit text) text in
    let same : drop whole text ≡ rest = ap (λ n. drop n text) w in
    let g : fraction ≡ fraction_len rest = f ∙ ap fraction_len same in
    let behind : IsLongest is_exponent (drop fraction (drop whole text)) len = subst (λ t. IsLongest is_exponent t len) (sym (drop-drop fraction whole text)) h in
    let there : IsLongest is_exponent (drop (fraction_len rest) rest) len = subst (λ n. IsLongest is_exponent (drop n rest) len) g (subst (λ t. IsLongest is_exponent (drop fraction t) len) same behind) in
    let all = past_run is_loose_number refl loose-digit text (fraction_len rest + len) (behind_whole rest len (past_digits text) there) in
    let sum : whole + (fraction + len) ≡ whole + fraction + len = omega arith in
    subst (IsLongest is_loose_number text) sum (subst (λ n. IsLongest is_loose_number text (n + (fraction + len))) (sym w) (subst (λ n. IsLongest is_loose_number text (prefix_len is_ascii_digit text + (n + len))) (sym g) all))

-- a loose number that begins with a digit, or a point and a digit, is a number

number_unsigned : (word : List ℕ) → begins is_sign word ≡ false → is_number word ≡ (is_some_digits (digits_of (before_first is_exponent_mark word)) && ends_well word)
number_unsigned [] s = refl
number_unsigned (b ∷ text) s = ap (λ x. not x && (is_some_digits (digits_of (before_first is_exponent_mark (if x then text else b ∷ text))) && (not (is_some (position is_exponent_mark (if x then text else b ∷ text))) || is_some_digits (after_sign (after_first is_exponent_mark (if x then text else b ∷ text)))))) s

some_byte : (b : ℕ) (text : List ℕ) → is_some_digits (b ∷ text) ≡ list_all is_ascii_digit (b ∷ text)
some_byte b text = ap (λ x. x && list_all is_ascii_digit (b ∷ text)) (let s : nat_lt 0 (suc (length text)) ≡ true = grind arith in s)

number-digit : (b : ℕ) (text : List ℕ) → is_ascii_digit b ≡ true → is_number (b ∷ text) ≡ is_loose_number (b ∷ text)
number-digit b text d =
    let mantissa = before_first is_exponent_mark text in
    let e : digits_of (before_first is_exponent_mark (b ∷ text)) ≡ b ∷ digits_of mantissa = ap digits_of (before-no is_exponent_mark b text (digit_no_mark b d)) ∙ digits-other b mantissa (digit_no_point b d) in
    number_unsigned (b ∷ text) (digit_no_sign b d)
    ∙ ap (λ t. is_some_digits t && ends_well (b ∷ text)) e
    ∙ ap (λ x. x && ends_well (b ∷ text)) (some_byte b (digits_of mantissa))
    ∙ ap (λ t. list_all is_ascii_digit t && ends_well (b ∷ text)) (sym e)

number-point : (b c : ℕ) (text : List ℕ) → is_point b ≡ true → is_ascii_digit c ≡ true → is_number (b ∷ c ∷ text) ≡ is_loose_number (b ∷ c ∷ text)
number-point b c text p d =
    let mantissa = before_first is_exponent_mark text in
    let e : digits_of (before_first is_exponent_mark (b ∷ c ∷ text)) ≡ c ∷ mantissa =
    ap digits_of (before-no is_exponent_mark b (c ∷ text) (point_no_mark b p)) ∙ digits-point b (before_first is_exponent_mark (c ∷ text)) p ∙ before-no is_exponent_mark c text (digit_no_mark c d) in
    number_unsigned (b ∷ c ∷ text) (point_no_sign b p)
    ∙ ap (λ t. is_some_digits t && ends_well (b ∷ c ∷ text)) e
    ∙ ap (λ x. x && ends_well (b ∷ c ∷ text)) (some_byte c mantissa)
    ∙ ap (λ t. list_all is_ascii_digit t && ends_well (b ∷ c ∷ text)) (sym e)

or_parts : (x y : Bool) → (x || y) ≡ false → (x ≡ false) × (y ≡ false)
or_parts true y h = absurd (not_both _ refl h)
or_parts false y h = (refl, h)

no_digits : (text : List ℕ) → begins is_ascii_digit text ≡ false → is_some_digits text ≡ false
no_digits [] d = refl
no_digits (b ∷ text) d = some_byte b text ∙ ap (λ x. x && list_all is_ascii_digit text) d

before_mark : (text : List ℕ) → begins is_ascii_digit text ≡ false → begins is_ascii_digit (before_first is_exponent_mark text) ≡ false
before_mark [] d = refl
before_mark (b ∷ text) d = elim (is_exponent_mark b) as (λ x. is_exponent_mark b ≡ x → begins is_ascii_digit (before_first is_exponent_mark (b ∷ text)) ≡ false) [
  | true ↦ λ e. ap (begins is_ascii_digit) (before-yes is_exponent_mark b text e)
  | false ↦ λ e. ap (begins is_ascii_digit) (before-no is_exponent_mark b text e) ∙ d
] refl

no_first_digit : (word : List ℕ) → begins_number word ≡ false → begins is_ascii_digit (digits_of (before_first is_exponent_mark word)) ≡ false
no_first_digit [] h = refl
no_first_digit (b ∷ text) h =
    let parts = or_parts (is_ascii_digit b) (is_point b && begins is_ascii_digit text) h in
    elim (is_exponent_mark b) as (λ x. is_exponent_mark b ≡ x → begins is_ascii_digit (digits_of (before_first is_exponent_mark (b ∷ text))) ≡ false) [
      | true ↦ λ e. ap (λ t. begins is_ascii_digit (digits_of t)) (before-yes is_exponent_mark b text e)
      | false ↦ λ e. ap (λ t. begins is_ascii_digit (digits_of t)) (before-no is_exponent_mark b text e)
          ∙ (elim (is_point b) as (λ x. is_point b ≡ x → (x && begins is_ascii_digit text) ≡ false → begins is_ascii_digit (digits_of (b ∷ before_first is_exponent_mark text)) ≡ false) [
            | true ↦ λ p d. ap (begins is_ascii_digit) (digits-point b (before_first is_exponent_mark text) p) ∙ before_mark text d
            | false ↦ λ p d. ap (begins is_ascii_digit) (digits-other b (before_first is_exponent_mark text) p) ∙ parts.0
          ] refl parts.1)
    ] refl

pub not_number : (word : List ℕ) → begins_number word ≡ false → is_number word ≡ false
not_number word h = elim (begins is_sign word) as (λ x. begins is_sign word ≡ x → is_number word ≡ false) [
  | true ↦ λ s. ap (λ x. not x && is_numeral word) s
  | false ↦ λ s. number_unsigned word s ∙ ap (λ x. x && ends_well word) (no_digits (digits_of (before_first is_exponent_mark word)) (no_first_digit word h))
] refl

begins_number-take : (text : List ℕ) (more : ℕ) → begins_number text ≡ false → begins_number (take more text) ≡ false
begins_number-take text zero h = refl
begins_number-take [] (suc more) h = refl
begins_number-take (b ∷ []) (suc zero) h = h
begins_number-take (b ∷ []) (suc (suc more)) h = h
begins_number-take (b ∷ c ∷ text) (suc zero) h =
    let parts = or_parts (is_ascii_digit b) (is_point b && is_ascii_digit c) h in
    ap (λ x. x || (is_point b && false)) parts.0 ∙ elim (is_point b) as (λ x. (x && false) ≡ false) [ true ↦ refl | false ↦ refl ]
begins_number-take (b ∷ c ∷ text) (suc (suc more)) h = h

pub no_number : (text : List ℕ) → begins_number text ≡ false → IsLongest is_number text 0
no_number text h = none_fits is_number text (λ more some inside fit. not_both _ fit (not_number (take more text) (begins_number-take text more h)))

from_digit : (b : ℕ) (text : List ℕ) (len : ℕ) → is_ascii_digit b ≡ true → IsLongest is_loose_number (b ∷ text) len → IsLongest is_number (b ∷ text) len
from_digit b text len d h = agree_longest is_loose_number is_number (b ∷ text) len same h
  where
    same : (more : ℕ) → 0 < more → len ≤ more → more ≤ length (b ∷ text) → is_loose_number (take more (b ∷ text)) ≡ is_number (take more (b ∷ text))
    same zero some over inside = absurd (omega arith)
    same (suc more) some over inside = sym (number-digit b (take more text) d)

from_point : (b c : ℕ) (text : List ℕ) (len : ℕ) → is_point b ≡ true → is_ascii_digit c ≡ true → IsLongest is_loose_number (b ∷ c ∷ text) len → IsLongest is_number (b ∷ c ∷ text) len
from_point b c text len p d h = agree_longest is_loose_number is_number (b ∷ c ∷ text) len same h
  where
    two : 2 ≤ len
    two = fits_within is_loose_number (b ∷ c ∷ text) len 2 h (omega arith) (loose-point b (c ∷ []) p ∙ fraction-digit c [] d)

    same : (more : ℕ) → 0 < more → len ≤ more → more ≤ length (b ∷ c ∷ text) → is_loose_number (take more (b ∷ c ∷ text)) ≡ is_number (take more (b ∷ c ∷ text))
    same zero some over inside = absurd (omega arith)
    same (suc zero) some over inside = absurd (omega (arith, two))
    same (suc (suc more)) some over inside = sym (number-point b c (take more text) p d)

pub longest_number : (text : List ℕ) (len : ℕ) → begins_number text ≡ true → IsLongest is_loose_number text len → IsLongest is_number text len
longest_number [] len h = absurd (not_both _ h refl)
longest_number (b ∷ []) len h = elim (is_ascii_digit b) as (λ x. is_ascii_digit b ≡ x → (x || (is_point b && false)) ≡ true → IsLongest is_loose_number (b ∷ []) len → IsLongest is_number (b ∷ []) len) [
  | true ↦ λ d any. from_digit b [] len d
  | false ↦ λ d any. absurd (not_both _ (and_parts (is_point b) false any).1 refl)
] refl h
longest_number (b ∷ c ∷ text) len h = elim (is_ascii_digit b) as (λ x. is_ascii_digit b ≡ x → (x || (is_point b && is_ascii_digit c)) ≡ true → IsLongest is_loose_number (b ∷ c ∷ text) len → IsLongest is_number (b ∷ c ∷ text) len) [
  | true ↦ λ d any. from_digit b (c ∷ text) len d
  | false ↦ λ d any. (let both = and_parts (is_point b) (is_ascii_digit c) any in from_point b c text len both.0 both.1)
] refl h

-- the digits of an exponent

longest_digits : (text : List ℕ) → IsLongest is_some_digits text (prefix_len is_ascii_digit text)
longest_digits text =
    let in_text = prefix_len-le-length is_ascii_digit text in
    longest_of is_some_digits text (prefix_len is_ascii_digit text) in_text
    (λ some. and_from _ _ (let e : length (take (prefix_len is_ascii_digit text) text) ≡ prefix_len is_ascii_digit text = length-prefix_len is_ascii_digit text in grind (arith, common_steps)) (run_passes is_ascii_digit text))
    (λ more over inside fit. let most = run_within is_ascii_digit text more inside (and_parts _ _ fit).1 in omega arith)

pub unsigned_digits : (text : List ℕ) → begins is_sign text ≡ false → IsLongest is_signed_digits text (prefix_len is_ascii_digit text)
unsigned_digits text s = agree_longest is_some_digits is_signed_digits text (prefix_len is_ascii_digit text) (same text s) (longest_digits text)
  where
    same : (t : List ℕ) → begins is_sign t ≡ false → (more : ℕ) → 0 < more → prefix_len is_ascii_digit text ≤ more → more ≤ length t → is_some_digits (take more t) ≡ is_signed_digits (take more t)
    same t no_sign zero some over inside = absurd (omega arith)
    same [] no_sign (suc more) some over inside = refl
    same (b ∷ t) no_sign (suc more) some over inside = ap (λ x. is_some_digits (if x then take more t else b ∷ take more t)) (sym no_sign)

pub signed_digits : (text : List ℕ) (len : ℕ) → begins is_sign text ≡ true → len ≡ prefix_len is_ascii_digit (drop 1 text) → IsLongest is_signed_digits text (onto 1 len)
signed_digits [] len s e = absurd (not_both _ s refl)
signed_digits (b ∷ text) len s e =
    step_longest is_signed_digits is_some_digits b text len refl (λ word. ap (λ x. is_some_digits (if x then word else b ∷ word)) s) (subst (IsLongest is_some_digits text) (sym e) (longest_digits text))

pub longest_exponent : (text : List ℕ) (len : ℕ) → begins is_exponent_mark text ≡ true → IsLongest is_signed_digits (drop 1 text) len → IsLongest is_exponent text (onto 1 len)
longest_exponent [] len e h = absurd (not_both _ e refl)
longest_exponent (b ∷ text) len e h = step_longest is_exponent is_signed_digits b text len refl (λ word. exponent-mark b word e) h

pub no_exponent : (text : List ℕ) → begins is_exponent_mark text ≡ false → IsLongest is_exponent text 0
no_exponent [] e = none_fits is_exponent [] (λ more some inside fit. omega arith)
no_exponent (b ∷ text) e = stop_longest is_exponent b text (λ word. exponent-other b word e)

pub number_loose : (word : List ℕ) → is_number word ≡ true → is_loose_number word ≡ true
number_loose word h = elim (begins is_sign word) as (λ x. begins is_sign word ≡ x → is_loose_number word ≡ true) [
  | true ↦ λ s. absurd (not_both _ h (ap (λ x. not x && is_numeral word) s))
  | false ↦ λ s. (let both = and_parts (is_some_digits (digits_of (before_first is_exponent_mark word))) (ends_well word) (sym (number_unsigned word s) ∙ h) in
      and_from _ _ (and_parts (nat_lt 0 (length (digits_of (before_first is_exponent_mark word)))) (list_all is_ascii_digit (digits_of (before_first is_exponent_mark word))) both.0).1 both.1)
] refl
