use Rattle.std.proofs.Common.{arith}
use Rattle.sop_model.proofs.VerticesLemmas.{prim_in-le}
use Rattle.sop_model.proofs.geo_view.GeoGeoView.prim_of.Goals as goal

pub overflow_cast-result : goal.overflow_cast-result
overflow_cast-result c = omega (arith, prim_in-le c.args.self.now.prims c.from.result)
