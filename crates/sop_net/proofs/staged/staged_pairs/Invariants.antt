use Rattle.std.proofs.Common.{length}
use Rattle.sop_net.proofs.StagedLemmas.{IsStaged}
use Rattle.sop_net.proofs.staged.staged_pairs.Given as goal

abbrev pub invariant-loop-left : goal.invariant-loop-left
invariant-loop-left l = IsStaged l.node_type l.pairs l.left l.texts.items

abbrev pub decreases-loop-left : goal.decreases-loop-left
decreases-loop-left l = length l.left
