use Rattle.sop_net.specs.Network.{wired}
use Rattle.sop_net.proofs.Membership.{in-contains}
use Rattle.sop_net.proofs.FlagLemmas.{wired-in}
use Rattle.sop_net.proofs.order.takes_from_flagged.Goals as goal

pub flag-requires-clause-live : goal.flag-requires-clause-live
flag-requires-clause-live c =
    c.requires.wires c.in-Some.source
    (in-contains (wired c.args.wires.now) c.in-Some.source
    (wired-in c.args.wires.now c.loop-wire.wire-index c.in-Some.source c.wire-item.result c.loop-wire-test.true c.wire-item.is c.in-Some.is))
