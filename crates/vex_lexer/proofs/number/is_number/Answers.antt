use Rattle.std.proofs.Common.{◌∙◌, refl}
use Rattle.vex_lexer.specs.Words.{is_number}
use Rattle.vex_lexer.proofs.Longest.{whole_is}
use Rattle.vex_lexer.proofs.number.is_number.Goals as goal

pub returns : goal.returns
returns c = c.is_whole.ensures ∙ whole_is is_number c.args.word.now c.number_len.result refl c.number_len.ensures
