use Rattle.std.proofs.Common.{◌-◌, length}
use Rattle.vex_lexer.proofs.Scanned.{Scanned}
use Rattle.vex_lexer.proofs.scan.tokens.Given as goal

abbrev pub invariant-loop-place : goal.invariant-loop-place
invariant-loop-place l = Scanned l.bytes l.place l.line l.tokens.items

abbrev pub decreases-loop-place : goal.decreases-loop-place
decreases-loop-place l = length l.bytes - l.place
