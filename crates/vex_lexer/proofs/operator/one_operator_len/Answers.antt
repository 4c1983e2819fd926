use Rattle.std.proofs.Common.{◌∙◌, sym}
use Rattle.vex_lexer.proofs.Longest.{same_word, other_word}
use Rattle.vex_lexer.proofs.operator.one_operator_len.Goals as goal

pub returns-then-starts_with : goal.returns-then-starts_with
returns-then-starts_with c = same_word c.args.operator.now c.args.rest.now (sym c.starts_with.ensures.value ∙ c.if-starts_with.true)

pub returns-else-starts_with : goal.returns-else-starts_with
returns-else-starts_with c = other_word c.args.operator.now c.args.rest.now (sym c.starts_with.ensures.value ∙ c.if-starts_with.false)
