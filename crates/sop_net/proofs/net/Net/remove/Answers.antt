use Rattle.std.proofs.Common.{◌≡◌, ◌∙◌, sym, ap, map}
use Rattle.std.specs.Prelude.{Ok, remove, string_bytes}
use Rattle.sop_net.specs.Steps.{unwired}
use Rattle.sop_net.proofs.ChangeLemmas.{on_named-at}
use Rattle.sop_net.proofs.KeptLemmas.{both-removed}
use Rattle.sop_net.proofs.RemoveLemmas.{map-remove}
use Rattle.sop_net.proofs.net.Net.remove.Goals as goal

pub invariant_of-self : goal.invariant_of-self
invariant_of-self c =
    let keys : map string_bytes c.shift_remove_index-name.new.self.keys ≡ remove (map string_bytes c.self.inside.names.keys) c.in-Some.at =
    ap (map string_bytes) c.shift_remove_index-name.ensures.keys ∙ map-remove string_bytes c.self.inside.names.keys c.in-Some.at in
    rw (c.unwire.ensures, c.remove-removed.ensures.items, c.remove.ensures.nodes, c.remove.ensures.ranks, keys)
    (both-removed c.self.inside.nodes.items _ c.self.inside.order.nodes.items c.self.inside.order.ranks.items c.self.inside.added c.self.invariant c.in-Some.at (rw (← c.self.view_is) at c.in-Some.ensures.within)
    c.remove-removed.result c.remove-removed.ensures.value)

pub returns-clause-ok : goal.returns-clause-ok
returns-clause-ok c =
    rw (← c.self.view_is, c.unwire.ensures, c.remove-removed.ensures.items)
    (on_named-at (record { nodes = c.self.inside.nodes.items; added = c.self.inside.added }) c.args.node.now c.in-Some.at c.remove-removed.result
    (λ at n. Ok (record { nodes = map (unwired n.number) (remove c.self.inside.nodes.items at); added = c.self.inside.added }))
    (sym (rw (← c.self.view_is) at c.in-Some.ensures.place)) (rw (← c.self.view_is) at c.in-Some.ensures.within) c.remove-removed.ensures.value)
