use Rattle.std.proofs.Common.{◌≡◌, false, drop}
use Rattle.vex_lexer.proofs.Closings.{ending}
use Rattle.vex_lexer.specs.Longest.{onto}
use Rattle.vex_lexer.proofs.gap.comment_end.Given as goal

abbrev pub invariant-loop-i : goal.invariant-loop-i
invariant-loop-i l = onto l.i (ending l.star (drop l.i l.text)) ≡ ending false l.text
