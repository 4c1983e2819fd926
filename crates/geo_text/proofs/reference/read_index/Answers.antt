use Rattle.std.proofs.Common.{◌≡◌, ℕ, ◌+◌, ◌-◌, ◌*◌, ◌<◌, List, length, min, get_or, drop, true, refl, sym, ap, ◌∙◌, arith}
use Rattle.std.specs.Char.{is_ascii_digit}
use Rattle.std.proofs.lemmas.List.{drop_more}
use Rattle.sop_fixed.specs.Numerals.{are_digits}
use Rattle.sop_fixed.proofs.Rounding.{going_on, going_on-drop}
use Rattle.geo_text.proofs.reference.read_index.Goals as goal

digits_behind : (text : List ℕ) (i : ℕ) → i < length text → is_ascii_digit (get_or text i 0) ≡ true → are_digits (drop (i + 1) text) ≡ are_digits (drop i text)
digits_behind text i within digit = sym (ap are_digits (drop_more text i 0 within) ∙ rw digit refl)

pub loop-byte-preserved : goal.loop-byte-preserved
loop-byte-preserved c =
    let text = c.args.text.now in
    let i = c.loop-byte.byte-index in
    let e : c.saturating_add-number.result ≡ min (c.loop-byte.number * 10 + (get_or text i 0 - 48)) 18446744073709551615 =
    omega (arith, c.saturating_add-number.ensures, c.saturating_mul.ensures, c.from.ensures) in
    record {
      within = omega (arith, e);
      digits = digits_behind text i c.loop-byte-test.true (sym c.is_ascii_digit.ensures.value ∙ c.if-not-is_ascii_digit.false) ∙ c.loop-byte.invariant.digits;
      number = ap (λ n. going_on n (drop (i + 1) text) 18446744073709551615) e
          ∙ going_on-drop c.loop-byte.number text i 18446744073709551615 c.loop-byte-test.true ∙ c.loop-byte.invariant.number;
    }
