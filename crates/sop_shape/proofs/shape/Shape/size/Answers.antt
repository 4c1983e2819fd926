use Rattle.std.proofs.Common.{arith}
use Rattle.sop_shape.proofs.ReadLemmas.{first_below, size_at}
use Rattle.sop_shape.proofs.shape.Shape.size.Goals as goal

pub overflow_sub-result : goal.overflow_sub-result
overflow_sub-result c =
    let is = c.known.ensures in
    let below = first_below is.geo c.args.self.now is.has c.args.prim c.first_vertex.result c.end.result c.requires (c.first_vertex.ensures is.geo is.has) (c.end.ensures is.geo is.has) in
    omega arith

pub returns : goal.returns
returns c g has = size_at g c.args.self.now has c.args.prim c.first_vertex.result c.end.result c.requires (c.first_vertex.ensures g has) (c.end.ensures g has)
