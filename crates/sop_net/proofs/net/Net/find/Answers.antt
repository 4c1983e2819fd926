use Rattle.std.proofs.Common.{sym}
use Rattle.sop_net.proofs.NameLemmas.{number-at, no-number}
use Rattle.sop_net.proofs.PlaceLemmas.{live-read}
use Rattle.sop_net.proofs.net.Net.find.Goals as goal

pub returns-in-Some-clause-node : goal.returns-in-Some-clause-node
returns-in-Some-clause-node c =
    rw (← c.self.view_is)
    (sym (number-at c.self.inside.nodes.items c.args.name.now c.in-Some.at c.index.result.now
    (sym (rw (← c.self.view_is) at c.in-Some.ensures.place)) (rw (← c.self.view_is) at c.in-Some.ensures.within) c.index.ensures))

pub returns-in-Some-clause-live : goal.returns-in-Some-clause-live
returns-in-Some-clause-live c =
    rw (← c.self.view_is)
    (live-read c.self.inside.nodes.items c.in-Some.at c.index.result.now c.self.invariant.0.network.rising (rw (← c.self.view_is) at c.in-Some.ensures.within) c.index.ensures)

pub returns-in-None-clause-node : goal.returns-in-None-clause-node
returns-in-None-clause-node c = sym (no-number c.args.self.now.nodes c.args.name.now (sym c.in-None.ensures.place))
