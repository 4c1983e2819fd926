use Rattle.std.proofs.Common.{◌∙◌, sym}
use Rattle.std.specs.Prelude.{◌∷◌, []}
use Rattle.sop_net.specs.NodeTable.{parms_of}
use Rattle.sop_net.proofs.Searches.{position-within}
use Rattle.sop_net.proofs.KeptLemmas.{both-set}
use Rattle.sop_net.proofs.SetLemmas.{place-room, set-pairs, one-fine, one-set}
use Rattle.sop_net.proofs.net.Net.set_parm.Goals as goal

pub set-requires : goal.set-requires
set-requires c =
    place-room c.self.inside.nodes.items _ c.self.inside.order.nodes.items c.self.inside.added c.in-Some.at c.self.invariant.0 (rw (← c.self.view_is) at c.in-Some.ensures.within)
    c.index.result.now c.index_mut-node.result.now c.index.ensures c.index_mut-node.ensures.value c.in_ok-next.next.at
    (position-within _ (parms_of c.index.result.now.node_type) c.in_ok-next.next.at c.in_ok-next.ensures.text.0)

pub invariant_of-self : goal.invariant_of-self
invariant_of-self c =
    both-set c.self.inside.nodes.items _ c.self.inside.order.nodes.items c.self.inside.order.ranks.items c.self.inside.added c.self.invariant c.in-Some.at (rw (← c.self.view_is) at c.in-Some.ensures.within)
    c.index.result.now c.index_mut-node.result.now c.index.ensures c.index_mut-node.ensures.value (c.args.parm.now ∷ c.args.value.now ∷ []) c.set.new.self
    (one-fine c.index.result.now.node_type c.args.parm.now c.args.value.now c.in_ok-next.ensures.ok)
    (one-set c.index.result.now.node_type c.index_mut-node.result.now.parms c.args.parm.now c.args.value.now c.in_ok-next.next c.in_ok-next.ensures.text.0 c.in_ok-next.ensures.text.1 ∙ sym c.set.ensures)

pub returns-clause-ok : goal.returns-clause-ok
returns-clause-ok c =
    rw (← c.self.view_is)
    (set-pairs c.self.inside.nodes.items _ c.self.inside.order.nodes.items c.self.inside.added c.in-Some.at c.self.invariant.0 (rw (← c.self.view_is) at c.in-Some.ensures.within)
    c.index.result.now c.index_mut-node.result.now c.index.ensures c.index_mut-node.ensures.value (c.args.parm.now ∷ c.args.value.now ∷ []) c.set.new.self
    (one-fine c.index.result.now.node_type c.args.parm.now c.args.value.now c.in_ok-next.ensures.ok)
    (one-set c.index.result.now.node_type c.index_mut-node.result.now.parms c.args.parm.now c.args.value.now c.in_ok-next.next c.in_ok-next.ensures.text.0 c.in_ok-next.ensures.text.1 ∙ sym c.set.ensures)
    c.args.node.now (sym (rw (← c.self.view_is) at c.in-Some.ensures.place)))
