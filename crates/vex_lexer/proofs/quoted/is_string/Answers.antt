use Rattle.std.proofs.Common.{◌∙◌, refl}
use Rattle.vex_lexer.specs.Words.{is_string}
use Rattle.vex_lexer.proofs.Longest.{whole_is}
use Rattle.vex_lexer.proofs.quoted.is_string.Goals as goal

pub returns : goal.returns
returns c = c.is_whole.ensures ∙ whole_is is_string c.args.word.now c.string_len.result refl c.string_len.ensures
