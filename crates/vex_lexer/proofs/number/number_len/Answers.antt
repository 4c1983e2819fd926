use Rattle.std.proofs.Common.{◌∙◌, sym}
use Rattle.vex_lexer.proofs.Numbers.{longest_number, no_number}
use Rattle.vex_lexer.proofs.number.number_len.Goals as goal

pub returns-then-begins_number : goal.returns-then-begins_number
returns-then-begins_number c = longest_number c.args.rest.now c.loose_number_len.result (sym c.begins_number.ensures ∙ c.if-begins_number.true) c.loose_number_len.ensures

pub returns-else-begins_number : goal.returns-else-begins_number
returns-else-begins_number c = no_number c.args.rest.now (sym c.begins_number.ensures ∙ c.if-begins_number.false)
