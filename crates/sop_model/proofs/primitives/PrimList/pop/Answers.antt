use Rattle.sop_model.proofs.VerticesLemmas.{ends_left}
use Rattle.sop_model.proofs.primitives.PrimList.pop.Goals as goal

pub invariant_of-self : goal.invariant_of-self
invariant_of-self c =
    let inside = c.self.inside in
    ends_left inside.ends.items _ inside.prims.items _ _ _ c.self.invariant c.pop.ensures.rest c.pop-2.ensures.rest inside.ends.ok.0 inside.prims.ok.0
