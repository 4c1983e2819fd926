use Rattle.sop_net.proofs.OrderLemmas.{order-within, order-within_used, used-fewer}
use Rattle.sop_net.proofs.net.Net.is_network.Goals as goal

pub returns-clause-within : goal.returns-clause-within
returns-clause-within c = rw (← c.self.view_is) (order-within c.self.inside.nodes.items c.self.inside.order.nodes.items c.self.invariant.0.is_order)

pub returns-clause-within_used : goal.returns-clause-within_used
returns-clause-within_used c = rw (← c.self.view_is) (order-within_used c.self.inside.nodes.items c.self.inside.order.nodes.items c.self.invariant.0.is_order)

pub returns-clause-used_live : goal.returns-clause-used_live
returns-clause-used_live c = rw (← c.self.view_is) (λ x y i. c.self.invariant.0.network.live x y (used-fewer c.self.inside.nodes.items x y i))
