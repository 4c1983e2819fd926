use Rattle.sop_shape.proofs.StayLemmas.{IsTouching}
use Rattle.sop_shape.proofs.staying.touched.Given as goal

abbrev pub invariant-loop-vertex : goal.invariant-loop-vertex
invariant-loop-vertex l = IsTouching l.flags l.refers l.points l.vertex l.made.items
