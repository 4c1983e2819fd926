use Rattle.std.proofs.Common.{arith}
use Rattle.sop_model.proofs.VerticesLemmas.{first_vertex_in-le}
use Rattle.sop_model.proofs.geo_view.GeoGeoView.first_vertex.Goals as goal

pub overflow_cast-result : goal.overflow_cast-result
overflow_cast-result c = omega (arith, first_vertex_in-le c.args.self.now.prims c.args.prim)
