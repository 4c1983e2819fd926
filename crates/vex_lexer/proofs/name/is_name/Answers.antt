use Rattle.std.proofs.Common.{◌∙◌, refl}
use Rattle.vex_lexer.specs.Words.{is_name}
use Rattle.vex_lexer.proofs.Longest.{whole_is}
use Rattle.vex_lexer.proofs.name.is_name.Goals as goal

pub returns : goal.returns
returns c = c.is_whole.ensures ∙ whole_is is_name c.args.word.now c.name_len.result refl c.name_len.ensures
