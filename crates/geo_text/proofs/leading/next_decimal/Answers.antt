use Rattle.std.proofs.Common.{rules, ◌-◌, length, take, drop, sym, ◌∙◌}
use Rattle.geo_text.proofs.ObjNumbers.{first_byte}
use Rattle.geo_text.proofs.ObjDecimals.{decimal_here}
use Rattle.geo_text.proofs.leading.next_decimal.Goals as goal

pub returns-clause-number : goal.returns-clause-number
returns-clause-number c =
    let text = c.args.text.now in
    let word = take (length text - 1) (drop 1 text) in
    decimal_here text word c.split_minus-negative.result.1.now c.in_ok-size.rest.now c.split_minus-negative.result.0 c.in_ok-size.size c.in_ok-number.number
    (first_byte text 32 c.in-32.len_at_least (search rules)) c.split_minus-negative.ensures.parts c.in_ok-size.ensures.size
    (sym c.is_apart.ensures ∙ c.if-not-is_apart.false) c.in_ok-number.ensures
