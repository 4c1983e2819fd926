use Rattle.vex_lexer.proofs.TokenKinds.{keyword_found, operator_found}
use Rattle.vex_lexer.proofs.law.each_word_is_found.Goals as goal

pub returns : goal.returns
returns c = record { keyword = keyword_found; operator = operator_found }
