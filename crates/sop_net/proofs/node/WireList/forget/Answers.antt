use Rattle.std.proofs.lemmas.List.Edits.{map_over_more}
use Rattle.sop_net.specs.Steps.{unless_from}
use Rattle.sop_net.proofs.node.WireList.forget.Goals as goal

pub loop-wire-preserved : goal.loop-wire-preserved
loop-wire-preserved c =
    rw (c.unless_from.ensures, ← c.wire-item.is)
    (map_over_more (unless_from c.args.source) c.deref_mut-wire-items.result.now c.loop-wire.wire-items c.loop-wire.wire-index c.wire-item.result c.loop-wire-test.true c.loop-wire.invariant c.wire-item.is)
