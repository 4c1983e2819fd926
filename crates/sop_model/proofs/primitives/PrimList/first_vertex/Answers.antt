use Rattle.std.proofs.Common.{arith, length, ap}
use Rattle.sop_model.proofs.VerticesLemmas.{length-ends_of, end_before}
use Rattle.sop_model.proofs.primitives.PrimList.first_vertex.Goals as goal

pub index-requires : goal.index-requires
index-requires c =
    let inside = c.self.inside in
    omega (arith, ap length c.self.invariant, length-ends_of 0 inside.prims.items, inside.ends.ok.0, ap length c.self.view_is)

pub returns-else-i-eq0 : goal.returns-else-i-eq0
returns-else-i-eq0 c =
    let inside = c.self.inside in
    rw (← c.self.view_is) (end_before inside.ends.items inside.prims.items c.args.i _ c.self.invariant (omega arith) (omega (arith, ap length c.self.view_is)) c.index.ensures)
