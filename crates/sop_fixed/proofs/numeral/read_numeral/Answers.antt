use Rattle.std.proofs.Common.{◌≡◌, ◌≤◌, ◌++◌, ◌+◌, ◌||◌, not, length, length-append, ◌*◌, ◌^◌, true, rules, arith, ap, sym, ◌∙◌}
use Rattle.sop_fixed.specs.Numerals.{in_range, whole_of, fraction_of, mantissa_of, exponent_of, has_exponent, after_sign, is_some_digits, has_minus, digits_of, number_of}
use Rattle.sop_fixed.specs.Numbers.{signed, nearest}
use Rattle.sop_fixed.proofs.Plain.{value_of_plain}
use Rattle.sop_fixed.proofs.Reading.{value_of_parts}
use Rattle.sop_fixed.proofs.numeral.read_numeral.Goals as goal

pub returns-in-Some : goal.returns-in-Some
returns-in-Some c =
    let text = c.args.text.now in
    let rest : c.split_sign-negative.result.1.now ≡ after_sign text = c.split_sign-negative.ensures.after in
    let some : is_some_digits (digits_of (after_sign text)) ≡ true = ap (λ l. is_some_digits (digits_of l)) (sym rest) ∙ c.in-Some.ensures.digits in
    let size : c.in-Some.size ≡ nearest (number_of (digits_of (after_sign text)) * 10 ^ 6) (10 ^ length (fraction_of (after_sign text))) =
    c.in-Some.ensures.size ∙ ap (λ l. nearest (number_of (digits_of l) * 10 ^ 6) (10 ^ length (fraction_of l))) rest in
    c.real_within.ensures
    ∙ ap (λ b. in_range (signed b c.from.result)) c.split_sign-negative.ensures.minus
    ∙ ap (λ n. in_range (signed (has_minus text) n)) c.from.ensures
    ∙ value_of_plain text c.in-Some.size some size

pub returns : goal.returns
returns c =
    let text = c.args.text.now in
    let whole = c.split_point.result.0.now in
    let fraction = c.split_point.result.1.now in
    let exponent = c.split_exponent-is_marked.result.1.now in
    let w : whole ≡ whole_of (mantissa_of text) = search rules in
    let f : fraction ≡ fraction_of (mantissa_of text) = search rules in
    let e : exponent ≡ exponent_of text = search rules in
    let mantissa : is_some_digits (whole ++ fraction) ≡ true = search rules in
    let exponents : (not (has_exponent text) || is_some_digits (after_sign exponent)) ≡ true = search rules in
    let short : length (whole ++ fraction) + 32 ≤ 1000000000000000000000000000000 = omega (arith, length-append whole fraction, c.is_mantissa.ensures.bound) in
    let capped =
    value_of_parts text whole fraction exponent c.places-up.result.0 c.places-up.result.1 1000000000000000000000000000000 10000000000000000 c.scaled.result w f e mantissa exponents
    c.places-up.ensures.up c.places-up.ensures.down short (omega arith) (omega arith) c.scaled.ensures in
    c.real_within-2.ensures ∙ ap (λ b. in_range (signed b c.scaled.result)) c.split_sign-negative.ensures.minus ∙ capped
