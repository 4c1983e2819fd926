use Rattle.std.proofs.Common.{arith}
use Rattle.sop_model.proofs.VerticesLemmas.{size_of-le}
use Rattle.sop_model.proofs.geo_view.GeoGeoView.size.Goals as goal

pub overflow_cast-result : goal.overflow_cast-result
overflow_cast-result c = omega (arith, size_of-le c.args.self.now.prims c.args.prim c.get.result.now c.get.ensures)
