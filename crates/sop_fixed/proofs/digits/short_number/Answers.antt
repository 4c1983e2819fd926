use Rattle.std.proofs.Common.{◌+◌, arith, ◌∙◌, subst, sym, drop, ◌*◌}
use Rattle.sop_fixed.proofs.Short.{IsShort, short_on, short_room, short_digit_room}
use Rattle.sop_fixed.proofs.digits.short_number.Goals as goal

pub overflow_mul-number : goal.overflow_mul-number
overflow_mul-number c = omega (arith, short_room c.args.start c.loop-digit.number c.loop-digit.digit-index c.args.digits.now c.loop-digit-test.true c.loop-digit.invariant)

pub overflow_add-number : goal.overflow_add-number
overflow_add-number c = omega (arith, short_digit_room c.args.start c.loop-digit.number c.loop-digit.digit-index c.from.result c.args.digits.now c.loop-digit-test.true (sym c.is_ascii_digit.ensures.value ∙ c.if-not-is_ascii_digit.false) c.from.ensures c.loop-digit.invariant)

pub loop-digit-preserved : goal.loop-digit-preserved
loop-digit-preserved c =
    subst (λ k. IsShort c.args.start (c.loop-digit.number * 10 + k) c.args.digits.now (drop (c.loop-digit.digit-index + 1) c.args.digits.now)) (sym c.from.ensures)
    (short_on c.args.start c.loop-digit.number c.loop-digit.digit-index c.args.digits.now c.loop-digit-test.true (sym c.is_ascii_digit.ensures.value ∙ c.if-not-is_ascii_digit.false) c.loop-digit.invariant)
