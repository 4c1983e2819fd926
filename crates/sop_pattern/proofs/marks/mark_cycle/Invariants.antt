use Rattle.std.proofs.Common.{◌-◌}
use Rattle.sop_pattern.proofs.Cycles.{Cycled}
use Rattle.sop_pattern.proofs.marks.mark_cycle.Given as goal

abbrev pub invariant-loop-start : goal.invariant-loop-start
invariant-loop-start l = Cycled l.first l.last l.taken l.every l.end l.to l.start l.initial.flags l.flags

abbrev pub decreases-loop-start : goal.decreases-loop-start
decreases-loop-start l = l.end - l.start
