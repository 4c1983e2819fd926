use Rattle.sop_shape.specs.Tests.{gives_up}
use Rattle.sop_shape.proofs.StayLemmas.{flags_more}
use Rattle.sop_shape.proofs.staying.giving_up.Goals as goal

pub loop-prim-preserved : goal.loop-prim-preserved
loop-prim-preserved c = flags_more (gives_up c.args.marks.now c.args.owners.now) c.loop-prim.prim-index c.prim_gives_up.result c.loop-prim.made.items c.push.new.self.items c.prim_gives_up.ensures c.loop-prim.invariant c.in_ok-push.ensures.items
