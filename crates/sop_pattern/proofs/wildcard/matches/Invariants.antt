use Rattle.std.proofs.Common.{◌≡◌, length}
use Rattle.sop_pattern.specs.Wildcard.{matches}
use Rattle.sop_pattern.proofs.wildcard.matches.Given as goal

abbrev pub invariant-loop-rest : goal.invariant-loop-rest
invariant-loop-rest l = matches l.pattern l.name ≡ matches l.rest l.left

abbrev pub decreases-loop-rest : goal.decreases-loop-rest
decreases-loop-rest l = length l.rest
