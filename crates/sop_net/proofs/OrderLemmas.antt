-- What an order of the nodes says of ways upstream.
use Rattle.std.proofs.Common.{◌≡◌, refl, ℕ, zero, suc, ◌-◌, ◌≤◌, inl, inr, List, [], ◌∷◌, true, length, arith}
use Rattle.std.specs.Prelude.{Option, None, Some, Contains, is_some}
use Rattle.sop_net.specs.declared.node_type.NodeType.{NodeType}
use Rattle.sop_net.specs.declared.node_type.NodeType.TheVariants as type
use Rattle.sop_net.specs.declared.node.Node.{Node}
use Rattle.sop_net.specs.Graph.{Within, HasNoCycle}
use Rattle.sop_net.specs.Network.{node_of, IsLive, wired, wires_of, wire_at, sources, used_wires, wires_used_by, used_sources, switch_input}
use Rattle.sop_net.specs.Order.{In, IsOrder}
use Rattle.sop_net.proofs.Membership.{contains-in, in-contains}
use Rattle.sop_net.proofs.GraphLemmas.{within-order, within-up, within-fewer, no-cycle}

pub order-within : (nodes : List Node) (order : List ℕ) → IsOrder (sources nodes) nodes order → (x : ℕ) → IsLive nodes x → Within (sources nodes) (length nodes) x
order-within nodes order o x live =
    let le : length order ≤ length nodes = o.short in
    within-up (sources nodes) (length nodes - length order) (length order) (length nodes) x (omega arith) (within-order (sources nodes) order x o.ordered (o.complete x live))

-- what takes from something stands
pub some-or : (o : Option Node) (y : ℕ) → In (wired (wires_of o)) y → is_some o ≡ true
some-or None y i = absurd i
some-or (Some n) y i = refl

pub order-no_cycle : (nodes : List Node) (order : List ℕ) → IsOrder (sources nodes) nodes order → HasNoCycle (sources nodes)
order-no_cycle nodes order o x (k, (m, (i, s))) =
    no-cycle (sources nodes) (length nodes) x (order-within nodes order o x (some-or (node_of nodes x) m (contains-in (sources nodes x) m i))) (k, (m, (i, s)))

-- used wires are among all
at-in : (wires : List (Option ℕ)) (i y : ℕ) → In (wired (wire_at wires i ∷ [])) y → In (wired wires) y
at-in [] i y j = absurd j
at-in (None ∷ wires) zero y j = absurd j
at-in (Some source ∷ wires) zero y (inl e) = inl e
at-in (Some source ∷ wires) zero y (inr none) = absurd none
at-in (None ∷ wires) (suc i) y j = at-in wires i y j
at-in (Some source ∷ wires) (suc i) y j = inr (at-in wires i y j)

used-by : (node_type : NodeType) (n : Node) (y : ℕ) → In (wired (wires_used_by node_type n)) y → In (wired n.wires) y
used-by type.Switch n y i = at-in n.wires (switch_input n) y i
used-by other n y i = i

used-of : (o : Option Node) (y : ℕ) → In (wired (used_wires o)) y → In (wired (wires_of o)) y
used-of None y i = i
used-of (Some n) y i = used-by n.node_type n y i

pub used-in : (nodes : List Node) (x y : ℕ) → In (used_sources nodes x) y → In (sources nodes x) y
used-in nodes x y i = used-of (node_of nodes x) y i

pub used-fewer : (nodes : List Node) (x y : ℕ) → Contains (used_sources nodes x) y → Contains (sources nodes x) y
used-fewer nodes x y c = in-contains (sources nodes x) y (used-in nodes x y (contains-in (used_sources nodes x) y c))

pub order-within_used : (nodes : List Node) (order : List ℕ) → IsOrder (sources nodes) nodes order → (x : ℕ) → IsLive nodes x → Within (used_sources nodes) (length nodes) x
order-within_used nodes order o x live = within-fewer (sources nodes) (used_sources nodes) (used-fewer nodes) (length nodes) x (order-within nodes order o x live)
