use Rattle.sop_basic.proofs.QuadLemmas.{HasQuads}
use Rattle.sop_basic.proofs.quads.add_quads.Given as goal

abbrev pub invariant-loop-i : goal.invariant-loop-i
invariant-loop-i g l = HasQuads (g.Q.Quads.corners l.quads) l.initial.vault l.vault l.key l.i
