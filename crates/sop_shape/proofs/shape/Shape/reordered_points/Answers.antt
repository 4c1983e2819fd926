use Rattle.std.proofs.Common.{◌∙◌, ap, sym}
use Rattle.sop_model.specs.Rows.{picked}
use Rattle.sop_shape.proofs.OrderLemmas.{has-points_reordered, is-points_reordered}
use Rattle.sop_shape.proofs.shape.Shape.reordered_points.Goals as goal

pub from_lists-requires : goal.from_lists-requires
from_lists-requires c =
    is-points_reordered c.args.self.now c.args.perm.now _ _ _ c.in_ok-places.places.items c.requires.refers c.in_ok-places.ensures.each (c.in_ok-closed.ensures.items ∙ c.closed_flags.ensures) (c.in_ok-ends.ensures.items ∙ c.ends.ensures)
    (c.in_ok-refers.ensures 0 ∙ ap (λ xs. picked xs 0 c.refers.result.now) c.as_slice.ensures.value ∙ ap (picked c.in_ok-places.places.items 0) c.refers.ensures) c.known.ensures

pub returns : goal.returns
returns c g has =
    has-points_reordered c.args.self.now c.args.perm.now _ _ _ c.in_ok-places.places.items c.requires.refers c.in_ok-places.ensures.each (c.in_ok-closed.ensures.items ∙ c.closed_flags.ensures) (c.in_ok-ends.ensures.items ∙ c.ends.ensures)
    (c.in_ok-refers.ensures 0 ∙ ap (λ xs. picked xs 0 c.refers.result.now) c.as_slice.ensures.value ∙ ap (picked c.in_ok-places.places.items 0) c.refers.ensures) g has
    ∙ sym c.from_lists.ensures
