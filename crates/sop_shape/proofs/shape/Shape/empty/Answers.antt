use Rattle.sop_shape.proofs.ReadLemmas.{empty_is}
use Rattle.sop_shape.proofs.shape.Shape.empty.Goals as goal

pub from_lists-requires : goal.from_lists-requires
from_lists-requires c = empty_is _ _ _ c.new.ensures.items c.new-2.ensures.items c.new-3.ensures.items
