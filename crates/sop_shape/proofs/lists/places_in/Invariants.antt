use Rattle.sop_shape.proofs.OrderLemmas.{IsInverting}
use Rattle.sop_shape.proofs.lists.places_in.Given as goal

abbrev pub invariant-loop-left : goal.invariant-loop-left
invariant-loop-left l = IsInverting l.perm l.left l.places.items

abbrev pub decreases-loop-left : goal.decreases-loop-left
decreases-loop-left l = l.left
