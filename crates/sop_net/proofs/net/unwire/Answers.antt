use Rattle.std.proofs.lemmas.List.Edits.{map_over_more}
use Rattle.sop_net.specs.Steps.{unwired}
use Rattle.sop_net.proofs.net.unwire.Goals as goal

pub loop-node-preserved : goal.loop-node-preserved
loop-node-preserved c =
    rw (c.forget.ensures, ← c.node-item.is)
    (map_over_more (unwired c.args.source) c.deref_mut-node-items.result.now c.loop-node.node-items c.loop-node.node-index c.node-item.result c.loop-node-test.true c.loop-node.invariant c.node-item.is)
