use Rattle.std.proofs.Common.{◌∙◌, ◌<◌, false, length, ap, sym, subst}
use Rattle.std.specs.Prelude.{All}
use Rattle.sop_model.specs.Rows.{picked}
use Rattle.sop_shape.proofs.OrderLemmas.{perm_below, vertices_in, has-reordered, is-reordered}
use Rattle.sop_shape.proofs.shape.Shape.reordered_prims.Goals as goal

pub pick-requires : goal.pick-requires
pick-requires c = subst (λ xs. All (λ n. n < length xs) c.args.perm.now) (sym c.closed_flags.ensures) (perm_below c.args.self.now c.args.perm.now c.requires)

pub pick-requires-2 : goal.pick-requires-2
pick-requires-2 c =
    let is = c.known.ensures in
    subst (λ xs. All (λ n. n < length xs) c.as_slice.result.now) (sym c.refers.ensures)
    (vertices_in c.args.self.now c.args.perm.now c.requires is c.as_slice.result.now (c.as_slice.ensures.value ∙ c.in_ok-moved.ensures.vertices is.geo is.has))

pub from_lists-requires : goal.from_lists-requires
from_lists-requires c =
    let s = c.args.self.now in
    let perm = c.args.perm.now in
    let is = c.known.ensures in
    is-reordered s perm c.requires c.in_ok-closed.closed.items c.in_ok-moved.moved.ends.items c.in_ok-refers.refers.items c.in_ok-moved.moved.vertices.items
    (c.in_ok-closed.ensures false ∙ ap (λ xs. picked xs false perm) c.closed_flags.ensures)
    (c.in_ok-refers.ensures 0 ∙ ap (λ xs. picked xs 0 c.as_slice.result.now) c.refers.ensures ∙ ap (picked s.refers 0) c.as_slice.ensures.value)
    is (c.in_ok-moved.ensures.ends is.geo is.has) (c.in_ok-moved.ensures.vertices is.geo is.has)

pub returns-clause-shape : goal.returns-clause-shape
returns-clause-shape c g has =
    let s = c.args.self.now in
    let perm = c.args.perm.now in
    has-reordered s perm c.requires c.in_ok-closed.closed.items c.in_ok-moved.moved.ends.items c.in_ok-refers.refers.items c.in_ok-moved.moved.vertices.items
    (c.in_ok-closed.ensures false ∙ ap (λ xs. picked xs false perm) c.closed_flags.ensures)
    (c.in_ok-refers.ensures 0 ∙ ap (λ xs. picked xs 0 c.as_slice.result.now) c.refers.ensures ∙ ap (picked s.refers 0) c.as_slice.ensures.value)
    g has (c.in_ok-moved.ensures.ends g has) (c.in_ok-moved.ensures.vertices g has)
    ∙ sym c.from_lists.ensures
