use Rattle.std.proofs.Common.{◌∙◌}
use Rattle.sop_shape.proofs.ReadLemmas.{same_is}
use Rattle.sop_shape.proofs.shape.Shape.try_clone.Goals as goal

pub from_lists-requires : goal.from_lists-requires
from_lists-requires c =
    same_is c.args.self.now _ _ _ c.known.ensures (c.in_ok-closed.ensures.items ∙ c.closed_flags.ensures) (c.in_ok-ends.ensures.items ∙ c.ends.ensures) (c.in_ok-refers.ensures.items ∙ c.refers.ensures)
