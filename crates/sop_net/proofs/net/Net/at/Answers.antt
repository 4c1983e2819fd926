use Rattle.std.proofs.Common.{sym, subst}
use Rattle.sop_net.specs.Network.{IsNodeOf}
use Rattle.sop_net.proofs.PlaceLemmas.{node-read}
use Rattle.sop_net.proofs.net.Net.at.Goals as goal

pub returns-clause-found : goal.returns-clause-found
returns-clause-found c =
    rw (← c.self.view_is)
    (node-read c.self.inside.nodes.items c.args.node c.place.result c.index.result.now (rw c.deref.ensures.value at c.place.ensures.place) (rw c.deref.ensures.value at c.place.ensures.within) c.index.ensures)

pub returns-clause-fits : goal.returns-clause-fits
returns-clause-fits c =
    subst IsNodeOf (sym c.index.ensures) (c.self.invariant.0.network.nodes c.place.result c.index.result.now (rw c.deref.ensures.value at c.place.ensures.within))
