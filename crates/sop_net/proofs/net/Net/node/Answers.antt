use Rattle.sop_net.proofs.PlaceLemmas.{live-read}
use Rattle.sop_net.proofs.net.Net.node.Goals as goal

pub returns-clause-live : goal.returns-clause-live
returns-clause-live c =
    rw (← c.self.view_is)
    (live-read c.self.inside.nodes.items c.args.i c.index.result.now c.self.invariant.0.network.rising (rw (← c.self.view_is) at c.requires) c.index.ensures)
