use Rattle.sop_net.specs.Network.{sources}
use Rattle.std.proofs.Common.{length}
use Rattle.sop_net.proofs.GraphLemmas.{searched-true, searched-reaches}
use Rattle.sop_net.proofs.OrderLemmas.{order-within}
use Rattle.sop_net.proofs.net.Net.search_finds_what_is_reached.Goals as goal

pub returns : goal.returns
returns c =
    rw (← c.self.view_is)
    (λ x y live. (
      searched-reaches (sources c.self.inside.nodes.items) (length c.self.inside.nodes.items) x y,
      λ reached. searched-true (sources c.self.inside.nodes.items) (length c.self.inside.nodes.items) reached.0 x y (order-within c.self.inside.nodes.items c.self.inside.order.nodes.items c.self.invariant.0.is_order x live) reached.1,
    ))
