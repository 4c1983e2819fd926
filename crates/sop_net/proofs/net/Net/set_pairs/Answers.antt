use Rattle.std.proofs.Common.{◌∙◌, sym, length}
use Rattle.sop_net.proofs.KeptLemmas.{both-set}
use Rattle.sop_net.proofs.SetLemmas.{as-many, set-pairs}
use Rattle.sop_net.proofs.net.Net.set_pairs.Goals as goal

pub set_staged-requires : goal.set_staged-requires
set_staged-requires c =
    as-many c.self.inside.nodes.items _ c.self.inside.order.nodes.items c.self.inside.added c.in-Some.at c.self.invariant.0 (rw (← c.self.view_is) at c.in-Some.ensures.within)
    c.index.result.now c.index_mut-node.result.now c.index.ensures c.index_mut-node.ensures.value (length c.in_ok-staged.staged.items) c.in_ok-staged.ensures.places

pub invariant_of-self : goal.invariant_of-self
invariant_of-self c =
    both-set c.self.inside.nodes.items _ c.self.inside.order.nodes.items c.self.inside.order.ranks.items c.self.inside.added c.self.invariant c.in-Some.at (rw (← c.self.view_is) at c.in-Some.ensures.within)
    c.index.result.now c.index_mut-node.result.now c.index.ensures c.index_mut-node.ensures.value c.args.pairs.now c.set_staged.new.self
    c.in_ok-staged.ensures.ok
    (c.in_ok-staged.ensures.texts c.index_mut-node.result.now.parms ∙ sym c.set_staged.ensures)

pub returns-clause-ok : goal.returns-clause-ok
returns-clause-ok c =
    rw (← c.self.view_is)
    (set-pairs c.self.inside.nodes.items _ c.self.inside.order.nodes.items c.self.inside.added c.in-Some.at c.self.invariant.0 (rw (← c.self.view_is) at c.in-Some.ensures.within)
    c.index.result.now c.index_mut-node.result.now c.index.ensures c.index_mut-node.ensures.value c.args.pairs.now c.set_staged.new.self
    c.in_ok-staged.ensures.ok
    (c.in_ok-staged.ensures.texts c.index_mut-node.result.now.parms ∙ sym c.set_staged.ensures)
    c.args.node.now (sym (rw (← c.self.view_is) at c.in-Some.ensures.place)))
