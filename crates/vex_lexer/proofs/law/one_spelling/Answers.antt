use Rattle.vex_lexer.proofs.Rows.{one_spelling, no_spelling, one_line}
use Rattle.vex_lexer.proofs.law.one_spelling.Goals as goal

pub returns : goal.returns
returns c = record {
  equal = one_spelling c.args.text.now;
  none = no_spelling c.args.text.now;
  line = one_line c.args.text.now;
}
