use Rattle.std.proofs.Common.{nat_le, nat_lt, ◌&&◌}
use Rattle.sop_pattern.specs.Marks.{marked}
use Rattle.sop_pattern.proofs.Marking.{Through}
use Rattle.sop_pattern.proofs.marks.mark_run.Given as goal

abbrev pub invariant-loop-e : goal.invariant-loop-e
invariant-loop-e l = Through (λ e flag. marked l.to (nat_le l.start e && nat_lt e l.stop) flag) l.e l.initial.flags l.flags
