use Rattle.std.proofs.Common.{subst, arith}
use Rattle.std.specs.Prelude.{Contains, IfSome}
use Rattle.sop_net.specs.Network.{used_sources}
use Rattle.sop_net.proofs.UsedLemmas.{within_less}
use Rattle.sop_cook.proofs.CookingLemmas.{source_there}
use Rattle.sop_cook.proofs.uses.+count.Goals as goal

pub count-requires : goal.count-requires
count-requires t c =
    let nodes = c.args.net.now.nodes in
    let wire = c.wire-item.result in
    let used : Contains (used_sources nodes c.args.node) c.in-Some.source =
    subst (λ w. IfSome w (λ source. Contains (used_sources nodes c.args.node) source)) c.in-Some.is
    (source_there nodes c.args.node c.loop-wire.wire-index c.used_wires-wires.result.now wire wire c.used_wires-wires.ensures c.loop-wire-test.true c.wire-item.is) in
    let step = within_less (used_sources nodes) c.args.left c.args.node c.in-Some.source c.requires.within used in
    (omega (arith, step.0, c.decreases), (c.is_network.ensures.used_live c.args.node c.in-Some.source used, (step.1, c.loop-wire.invariant)))
