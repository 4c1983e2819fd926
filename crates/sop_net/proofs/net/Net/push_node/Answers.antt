use Rattle.std.proofs.Common.{◌≡◌, ◌∙◌, ap, None}
use Rattle.std.specs.Prelude.{string_bytes}
use Rattle.sop_net.specs.Network.{place_named}
use Rattle.sop_net.proofs.AddLemmas.{keys-added}
use Rattle.sop_net.proofs.KeptLemmas.{both-added}
use Rattle.sop_net.proofs.net.Net.push_node.Goals as goal

pub invariant_of-self-2 : goal.invariant_of-self-2
invariant_of-self-2 c =
    let free : place_named c.self.inside.nodes.items c.args.name.now ≡ None = ap (λ net. place_named net.nodes c.args.name.now) c.self.view_is ∙ c.requires.free in
    let keys = keys-added c.self.inside.names.keys c.insert.new.self.keys string_bytes c.self.inside.nodes.items c.args.name.now c.in_ok-key.key c.self.invariant.0.same_names free c.in_ok-key.ensures.ok c.in_ok-insert.ensures.keys in
    rw (c.push_reserved.ensures, c.in_ok-reserve.ensures.items, c.push_reserved-2.ensures.nodes, c.push_reserved-2.ensures.ranks, c.in_ok-reserve_one.ensures.nodes, c.in_ok-reserve_one.ensures.ranks, keys, c.in_ok-node.ensures, c.of_number-id.ensures)
    (both-added c.self.inside.nodes.items _ c.self.inside.order.nodes.items c.self.inside.order.ranks.items c.self.inside.added c.self.invariant c.args.node_type c.args.name.now c.requires.name free (rw (← c.self.view_is) at c.requires.few))
