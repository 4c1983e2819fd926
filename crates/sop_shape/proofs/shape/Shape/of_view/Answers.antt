use Rattle.sop_shape.proofs.MakeLemmas.{read_is}
use Rattle.sop_shape.proofs.shape.Shape.of_view.Goals as goal

pub from_lists-requires : goal.from_lists-requires
from_lists-requires g c = read_is (g.V.GeoView.geo c.args.view.now) _ _ _ c.in_ok-closed.ensures c.in_ok-ends.ensures c.in_ok-refers.ensures c.requires
