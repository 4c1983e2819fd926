use Rattle.std.proofs.Common.{◌≡◌, ◌*◌, ◌^◌, ◌++◌, length, ap, sym, ◌∙◌, arith}
use Rattle.sop_fixed.specs.Numerals.{digits_of, whole_of, number_of}
use Rattle.sop_fixed.specs.Numbers.{nearest}
use Rattle.sop_fixed.proofs.Rounding.{nearest_whole}
use Rattle.sop_fixed.proofs.Short.{short_some, second_fits, raised_fits, both_parts}
use Rattle.sop_fixed.proofs.numeral.short_size.Goals as goal

pub short_number-requires-2 : goal.short_number-requires-2
short_number-requires-2 c =
    let first = short_some 0 c.in_ok-short_number.field-0 c.split_point.result.0.now (sym c.short_number.ensures ∙ c.in_ok-short_number.was) in
    second_fits c.split_point.result.0.now c.in_ok-short_number.field-0 (length c.split_point.result.1.now) first.0 first.1 (omega arith) (omega arith)

pub overflow_mul-result : goal.overflow_mul-result
overflow_mul-result c =
    let first = short_some 0 c.in_ok-short_number.field-0 c.split_point.result.0.now (sym c.short_number.ensures ∙ c.in_ok-short_number.was) in
    let second = short_some c.in_ok-short_number.field-0 c.in_ok-number.number c.split_point.result.1.now (sym c.short_number-2.ensures ∙ c.in_ok-number.was) in
    let room = raised_fits c.split_point.result.0.now c.in_ok-short_number.field-0 c.in_ok-number.number c.split_point.result.1.now first.0 first.1 (omega arith) second.0 second.1 (omega arith) in
    omega (arith, room, ap (λ k. c.in_ok-number.number * k) c.pow.ensures)

pub returns-clause-size : goal.returns-clause-size
returns-clause-size c =
    let whole = c.split_point.result.0.now in
    let fraction = c.split_point.result.1.now in
    let first = short_some 0 c.in_ok-short_number.field-0 whole (sym c.short_number.ensures ∙ c.in_ok-short_number.was) in
    let second = short_some c.in_ok-short_number.field-0 c.in_ok-number.number fraction (sym c.short_number-2.ensures ∙ c.in_ok-number.was) in
    let number : c.in_ok-number.number ≡ number_of (digits_of c.args.text.now) =
    both_parts whole fraction c.in_ok-short_number.field-0 c.in_ok-number.number first.1 second.1
    ∙ ap (λ l. number_of (l ++ fraction)) c.split_point.ensures.whole ∙ ap (λ l. number_of (whole_of c.args.text.now ++ l)) c.split_point.ensures.fraction in
    ap (λ k. c.in_ok-number.number * k) c.pow.ensures
    ∙ sym (nearest_whole c.in_ok-number.number 6 (length fraction) (omega arith))
    ∙ ap (λ n. nearest (n * 10 ^ 6) (10 ^ length fraction)) number
    ∙ ap (λ l. nearest (number_of (digits_of c.args.text.now) * 10 ^ 6) (10 ^ length l)) c.split_point.ensures.fraction
