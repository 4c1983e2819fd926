use Rattle.std.proofs.Common.{◌∙◌, ap, sym}
use Rattle.vex_lexer.specs.Words.{is_string}
use Rattle.vex_lexer.proofs.Ascii.{string_inside}
use Rattle.vex_lexer.proofs.quoted.string_value.Goals as goal

pub range-requires-clause-start_boundary : goal.range-requires-clause-start_boundary
range-requires-clause-start_boundary c = λ some. (string_inside c.args.word.now c.utf8.word (ap is_string (sym c.as_bytes.ensures.value) ∙ sym c.is_string.ensures ∙ c.if-not-is_string.false)).1

pub range-requires-clause-end_boundary : goal.range-requires-clause-end_boundary
range-requires-clause-end_boundary c = (string_inside c.args.word.now c.utf8.word (ap is_string (sym c.as_bytes.ensures.value) ∙ sym c.is_string.ensures ∙ c.if-not-is_string.false)).2
