use Rattle.std.proofs.Common.{◌∙◌, ◌<◌, sym, ap, inl, inr, length, get_or}
use Rattle.std.specs.Prelude.{Result, Ok, Err, IfErr}
use Rattle.std.specs.Result.{IsErrAnd}
use Rattle.std.proofs.lemmas.List.{get_or_default}
use Rattle.sop_net.specs.declared.node.Node.{Node}
use Rattle.sop_net.proofs.PlaceLemmas.{live-read}
use Rattle.sop_net.proofs.KeptLemmas.{both-wired}
use Rattle.sop_net.proofs.WireSteps.{wire-bad_input, wire-cycle, wire-ok}
use Rattle.sop_net.proofs.net.Net.wire.Goals as goal

pub returns-in_default-input_below-clause-refused : goal.returns-in_default-input_below-clause-refused
returns-in_default-input_below-clause-refused c =
    let source_within : c.in-Some-place_named.source_at < length c.self.inside.nodes.items = rw (← c.self.view_is) at c.in-Some-place_named.ensures.within in
    let source : Node = get_or c.self.inside.nodes.items c.in-Some-place_named.source_at c.index-target.result.now in
    rw (← c.self.view_is)
    (inr (wire-bad_input c.self.inside.nodes.items c.self.inside.added c.args.node.now c.args.index.now c.args.source.now c.in-Some.at c.in-Some-place_named.source_at c.index-target.result.now source
    (sym (rw (← c.self.view_is) at c.in-Some.ensures.place)) (rw (← c.self.view_is) at c.in-Some.ensures.within) c.index-target.ensures
    (sym (rw (← c.self.view_is) at c.in-Some-place_named.ensures.place)) source_within
    (get_or_default c.self.inside.nodes.items c.in-Some-place_named.source_at c.index-target.result.now source source_within)
    (rw (c.as_bytes.ensures.value, c.len.ensures) at c.in_default-input_below.ensures.none)))

pub admit-requires-clause-wires : goal.admit-requires-clause-wires
admit-requires-clause-wires c = rw c.deref.ensures.value c.self.invariant.0.network.live

pub admit-requires-clause-node : goal.admit-requires-clause-node
admit-requires-clause-node c =
    rw c.deref.ensures.value
    (live-read c.self.inside.nodes.items c.in-Some.at c.index-target.result.now c.self.invariant.0.network.rising (rw (← c.self.view_is) at c.in-Some.ensures.within) c.index-target.ensures)

pub admit-requires-clause-source : goal.admit-requires-clause-source
admit-requires-clause-source c =
    rw c.deref.ensures.value
    (live-read c.self.inside.nodes.items c.in-Some-place_named.source_at c.index.result.now c.self.invariant.0.network.rising (rw (← c.self.view_is) at c.in-Some-place_named.ensures.within) c.index.ensures)

err-weaker : {A E : Type 0} {P Q : E → Type 0} (r : Result A E) → IsErrAnd r P → ((end : E) → P end → Q end) → IfErr r Q
err-weaker (Ok x) is weaker = tt
err-weaker (Err end) is weaker = weaker end is

pub returns-in_err-admit-clause-refused : goal.returns-in_err-admit-clause-refused
returns-in_err-admit-clause-refused c =
    err-weaker c.from_residual.result c.from_residual.ensures.1
    (λ end is. rw is
    (rw (← c.self.view_is)
    (elim (rw c.deref.ensures.value at c.in_err-admit.ensures.refused) [
      | inl memory ↦ inl memory
      | inr cycle ↦ inr (
          wire-cycle c.self.inside.nodes.items c.self.inside.added c.args.node.now c.args.index.now c.args.source.now c.in-Some.at c.in-Some-place_named.source_at c.index-target.result.now c.index.result.now
          (sym (rw (← c.self.view_is) at c.in-Some.ensures.place)) (rw (← c.self.view_is) at c.in-Some.ensures.within) c.index-target.ensures
          (sym (rw (← c.self.view_is) at c.in-Some-place_named.ensures.place)) (rw (← c.self.view_is) at c.in-Some-place_named.ensures.within) c.index.ensures
          c.in-Some-input_below.input (rw c.as_bytes.ensures.value at c.in-Some-input_below.ensures.some.0) (rw c.len.ensures at c.in-Some-input_below.ensures.some.1)
          cycle.1 ∙ ap Err (sym cycle.0))
    ])))

pub invariant_of-self-2 : goal.invariant_of-self-2
invariant_of-self-2 c =
    rw c.set.ensures
    (both-wired c.self.inside.nodes.items _ c.self.inside.order.nodes.items c.self.inside.order.ranks.items c.self.inside.added c.self.invariant c.in-Some.at (rw (← c.self.view_is) at c.in-Some.ensures.within)
    c.index-target.result.now c.index_mut-node.result.now c.index-target.ensures c.index_mut-node.ensures.value c.in-Some-input_below.input c.index.result.now.number _ _
    (live-read c.self.inside.nodes.items c.in-Some-place_named.source_at c.index.result.now c.self.invariant.0.network.rising (rw (← c.self.view_is) at c.in-Some-place_named.ensures.within) c.index.ensures)
    (rw c.deref.ensures.value at c.in_ok-admit.ensures.order) (rw c.deref.ensures.value at c.in_ok-admit.ensures.ranking) (rw c.deref.ensures.value at c.in_ok-admit.ensures.ranks))

pub returns-clause-ok : goal.returns-clause-ok
returns-clause-ok c =
    rw (← c.self.view_is, c.set.ensures)
    (wire-ok c.self.inside.nodes.items c.self.inside.added c.args.node.now c.args.index.now c.args.source.now c.in-Some.at c.in-Some-place_named.source_at c.index-target.result.now c.index.result.now
    (sym (rw (← c.self.view_is) at c.in-Some.ensures.place)) (rw (← c.self.view_is) at c.in-Some.ensures.within) c.index-target.ensures
    (sym (rw (← c.self.view_is) at c.in-Some-place_named.ensures.place)) (rw (← c.self.view_is) at c.in-Some-place_named.ensures.within) c.index.ensures
    c.in-Some-input_below.input (rw c.as_bytes.ensures.value at c.in-Some-input_below.ensures.some.0) (rw c.len.ensures at c.in-Some-input_below.ensures.some.1)
    (rw c.deref.ensures.value at c.in_ok-admit.ensures.free) c.index_mut-node.result.now c.index_mut-node.ensures.value)
