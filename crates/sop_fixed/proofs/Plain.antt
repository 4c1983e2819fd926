-- A text of digits with at most one point is a mantissa with no exponent behind it.
use Rattle.std.proofs.Common.{◌≡◌, ℕ, ◌+◌, ◌*◌, ◌^◌, List, [], ◌∷◌, length, take, drop, suc, ap, sym, ◌∙◌, refl, arith, true, false, not, ◌||◌, if◌then◌else◌, inl, inr, Err}
use Rattle.std.proofs.lemmas.Grind.{common_steps}
use Rattle.std.proofs.lemmas.Bool.{and_parts, and_from, cases_Bool}
use Rattle.std.proofs.Math.Seq.{take-length}
use Rattle.std.proofs.lemmas.List.Folds.{list_all-append}
use Rattle.std.specs.List.{list_all, position_or_len}
use Rattle.std.specs.Char.{is_ascii_digit}
use Rattle.sop_fixed.specs.Numbers.{signed, nearest}
use Rattle.sop_fixed.specs.Numerals.{is_exponent_mark, is_point, whole_of, fraction_of, digits_of, number_of, is_some_digits, after_sign, has_minus, mantissa_of, exponent_of, has_exponent, is_numeral, rounded_of, size_of, in_range, value_of}
use Rattle.sop_fixed.specs.declared.fault.NumeralFault.TheVariants.{NotNumeral}

no_mark : (b : ℕ) → is_ascii_digit b ≡ true → is_exponent_mark b ≡ false
no_mark b digit = grind (arith, common_steps)

unmarked : (digits : List ℕ) → list_all is_ascii_digit digits ≡ true → position_or_len is_exponent_mark digits ≡ length digits
unmarked [] all = refl
unmarked (b ∷ digits) all =
    let parts = and_parts (is_ascii_digit b) (list_all is_ascii_digit digits) all in
    rw (no_mark b parts.0) (omega (arith, unmarked digits parts.1))

no_point_mark : (b : ℕ) → is_point b ≡ true → is_exponent_mark b ≡ false
no_point_mark b point = grind (arith, common_steps)

unmarked_parts : (text : List ℕ) → list_all is_ascii_digit (whole_of text) ≡ true → list_all is_ascii_digit (fraction_of text) ≡ true → position_or_len is_exponent_mark text ≡ length text
unmarked_parts [] whole fraction = refl
unmarked_parts (b ∷ text) whole fraction = elim (cases_Bool (is_point b)) [
  | inl point ↦
      let rest : fraction_of (b ∷ text) ≡ text = rw point refl in
      rw (no_point_mark b point) (omega (arith, unmarked text (ap (list_all is_ascii_digit) (sym rest) ∙ fraction)))
  | inr other ↦
      let k = position_or_len is_point text in
      let at : position_or_len is_point (b ∷ text) ≡ suc k = rw other (omega arith) in
      let front : whole_of (b ∷ text) ≡ b ∷ whole_of text = ap (λ n. take n (b ∷ text)) at in
      let rest : fraction_of (b ∷ text) ≡ fraction_of text = ap (λ n. drop (n + 1) (b ∷ text)) at ∙ ap (λ n. drop n (b ∷ text)) (let e : suc k + 1 ≡ suc (k + 1) = omega arith in e) in
      let parts = and_parts (is_ascii_digit b) (list_all is_ascii_digit (whole_of text)) (ap (list_all is_ascii_digit) (sym front) ∙ whole) in
      rw (no_mark b parts.0) (omega (arith, unmarked_parts text parts.1 (ap (list_all is_ascii_digit) (sym rest) ∙ fraction)))
]

unmarked_all : (text : List ℕ) → is_some_digits (digits_of text) ≡ true → position_or_len is_exponent_mark text ≡ length text
unmarked_all text some =
    let both = and_parts _ _ some in
    let parts = and_parts _ _ (sym (list_all-append is_ascii_digit (whole_of text) (fraction_of text)) ∙ both.1) in
    unmarked_parts text parts.0 parts.1

-- a numeral without an exponent says its digits over the power of ten of its places
pub value_of_plain : (text : List ℕ) (size : ℕ) → is_some_digits (digits_of (after_sign text)) ≡ true
    → size ≡ nearest (number_of (digits_of (after_sign text)) * 10 ^ 6) (10 ^ length (fraction_of (after_sign text)))
    → in_range (signed (has_minus text) size) ≡ value_of text
value_of_plain text size some s =
    let rest = after_sign text in
    let end : position_or_len is_exponent_mark rest ≡ length rest = unmarked_all rest some in
    let mantissa : mantissa_of text ≡ rest = ap (λ n. take n rest) end ∙ take-length rest in
    let exponent : exponent_of text ≡ [] = ap (λ n. drop (n + 1) rest) end ∙ (let e : drop (length rest + 1) rest ≡ [] = grind (arith, common_steps) in e) in
    let none : has_exponent text ≡ false = rw end (grind (arith, common_steps)) in
    let numeral : is_numeral text ≡ true = and_from _ _ (ap (λ l. is_some_digits (digits_of l)) mantissa ∙ some) (ap (λ b. not b || is_some_digits (after_sign (exponent_of text))) none) in
    let same : size_of (mantissa_of text) (exponent_of text) ≡ size =
    ap (λ l. size_of l (exponent_of text)) mantissa ∙ ap (size_of rest) exponent
    ∙ ap (λ k. nearest (number_of (digits_of rest) * 10 ^ 6) (10 ^ k)) (let e : length (fraction_of rest) + 0 ≡ length (fraction_of rest) = omega arith in e)
    ∙ sym s in
    ap (λ n. in_range (signed (has_minus text) n)) (sym same)
    ∙ sym (ap (λ b. if b then in_range (rounded_of text) else Err NotNumeral) numeral)
