use Rattle.std.proofs.Common.{◌≡◌, ◌∙◌, ap, length-set}
use Rattle.std.proofs.lemmas.List.{get_or_default}
use Rattle.sop_net.specs.Network.{wired, wires_of, sources}
use Rattle.sop_net.proofs.PlaceLemmas.{node-read}
use Rattle.sop_net.proofs.FlagLemmas.{in-at, flags-step}
use Rattle.sop_net.proofs.order.downstream.Goals as goal

pub place-at-requires-clause-live : goal.place-at-requires-clause-live
place-at-requires-clause-live c =
    c.requires.order.live c.x-item.result
    (rw (c.x-item.is ∙ get_or_default c.args.order.now c.loop-x.x-index c.x-item.result 0 c.loop-x-test.true) (in-at c.args.order.now c.loop-x.x-index c.loop-x-test.true))

pub is_downstream-requires-clause-wires : goal.is_downstream-requires-clause-wires
is_downstream-requires-clause-wires c =
    let wires : sources c.args.nodes.now c.x-item.result ≡ wired c.index-nodes-at.result.wires =
    ap (λ found. wired (wires_of found)) (node-read c.args.nodes.now c.x-item.result c.place-at.result c.index-nodes-at.result c.place-at.ensures.place c.place-at.ensures.within c.index-nodes-at.is) in
    λ y there. c.requires.wires c.x-item.result y (rw wires there)

pub loop-x-preserved : goal.loop-x-preserved
loop-x-preserved c = (
  length-set c.loop-x.flags.items c.place-at.result c.is_downstream.result ∙ c.loop-x.invariant.0,
  flags-step c.args.nodes.now c.args.order.now c.loop-x.flags.items c.args.node c.loop-x.x-index c.place-at.result c.x-item.result c.is_downstream.result c.index-nodes-at.result
      c.requires.order c.loop-x-test.true c.x-item.is c.place-at.ensures.place c.place-at.ensures.within c.loop-x.invariant.0 c.index-nodes-at.is c.loop-x.invariant.1
      (rw c.deref.ensures.value at c.is_downstream.ensures),
)
