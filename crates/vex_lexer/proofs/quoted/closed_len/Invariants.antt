use Rattle.std.proofs.Common.{◌≡◌, false, drop}
use Rattle.vex_lexer.proofs.Closings.{closing}
use Rattle.vex_lexer.specs.Longest.{onto}
use Rattle.vex_lexer.proofs.quoted.closed_len.Given as goal

abbrev pub invariant-loop-i : goal.invariant-loop-i
invariant-loop-i l = onto l.i (closing l.quote l.escape (drop l.i l.text)) ≡ closing l.quote false l.text
