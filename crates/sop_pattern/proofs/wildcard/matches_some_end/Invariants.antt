use Rattle.std.proofs.Common.{◌+◌, ◌*◌, length}
use Rattle.sop_pattern.proofs.Ends.{Tries}
use Rattle.sop_pattern.proofs.wildcard.matches_some_end.Given as goal

abbrev pub invariant-loop-rest : goal.invariant-loop-rest
invariant-loop-rest l = Tries l.pattern l.name l.behind l.from l.rest l.left

abbrev pub decreases-loop-rest : goal.decreases-loop-rest
decreases-loop-rest l = length l.from * (length l.pattern + 1) + length l.rest
