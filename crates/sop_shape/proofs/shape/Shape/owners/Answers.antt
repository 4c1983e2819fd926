use Rattle.std.proofs.Common.{arith}
use Rattle.sop_shape.proofs.ReadLemmas.{prims_counted}
use Rattle.sop_shape.proofs.AddLemmas.{owners_more}
use Rattle.sop_shape.proofs.shape.Shape.owners.Goals as goal

pub loop-prim-preserved : goal.loop-prim-preserved
loop-prim-preserved c g has =
    owners_more g.prims c.loop-prim.prim c.end.result c.loop-prim.owners.len c.loop-prim.owners.items c.resize.new.self.items (omega (arith, prims_counted g c.args.self.now has, c.prims-prim-end.ensures.long)) (c.end.ensures g has) (c.loop-prim.owners.ok.0) (c.loop-prim.invariant g has) c.in_ok-resize.ensures.items
