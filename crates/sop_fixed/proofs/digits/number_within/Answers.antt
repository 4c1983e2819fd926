use Rattle.std.proofs.Common.{◌≡◌, ◌+◌, ◌-◌, ◌*◌, min, ap, ◌∙◌, arith, get_or, drop}
use Rattle.sop_fixed.proofs.Rounding.{going_on, going_on-drop}
use Rattle.sop_fixed.proofs.digits.number_within.Goals as goal

pub loop-digit-preserved : goal.loop-digit-preserved
loop-digit-preserved c =
    let e : c.min-number.result ≡ min (c.loop-digit.number * 10 + (get_or c.args.digits.now c.loop-digit.digit-index 0 - 48)) c.args.cap =
    c.min-number.ensures ∙ ap (λ x. min (c.loop-digit.number * 10 + x) c.args.cap) (c.from.ensures ∙ c.saturating_sub.ensures) in (
      omega arith,
      ap (λ n. going_on n (drop (c.loop-digit.digit-index + 1) c.args.digits.now) c.args.cap) e
          ∙ going_on-drop c.loop-digit.number c.args.digits.now c.loop-digit.digit-index c.args.cap c.loop-digit-test.true
          ∙ c.loop-digit.invariant.1,
    )
