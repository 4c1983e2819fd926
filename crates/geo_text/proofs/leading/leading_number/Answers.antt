use Rattle.std.proofs.Common.{arith, sym, ◌∙◌, ◌+◌, ◌*◌, ap, get_or}
use Rattle.geo_text.proofs.ObjNumbers.{more_digits, more_number, digit_most}
use Rattle.geo_text.proofs.leading.leading_number.Goals as goal

pub loop-number-preserved : goal.loop-number-preserved
loop-number-preserved c =
    let digit = sym c.is_ascii_digit.ensures.value ∙ c.if-is_ascii_digit.true in
    record {
      within = omega (arith, c.if-len-text.true);
      digits = more_digits c.args.text.now c.loop-number.len c.if-len-text.true c.loop-number.invariant.digits digit;
      number = ap (λ n. c.loop-number.number * 10 + n) c.from.ensures ∙ more_number c.args.text.now c.loop-number.len c.loop-number.number c.if-len-text.true c.loop-number.invariant.number;
      small = omega (arith, c.loop-number-test.true, c.from.ensures, digit_most (get_or c.args.text.now c.loop-number.len 0) digit);
    }
