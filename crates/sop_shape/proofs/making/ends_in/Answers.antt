use Rattle.std.proofs.Common.{arith}
use Rattle.std.proofs.lemmas.List.{length-map}
use Rattle.sop_model.proofs.LimitsLemmas.{within_vertices}
use Rattle.sop_shape.proofs.MakeLemmas.{end_more, end_fits}
use Rattle.sop_shape.proofs.making.ends_in.Goals as goal

pub overflow_add-first_vertex : goal.overflow_add-first_vertex
overflow_add-first_vertex g c =
    let prims = (g.V.GeoView.geo c.args.view.now).prims in
    let few = end_fits prims c.loop-prim.prim c.first_vertex.result c.size.result (omega (arith, c.count-prims.ensures, length-map prims (λ p. p.row))) c.first_vertex.ensures c.size.ensures in
    omega (arith, within_vertices c.requires.within)

pub loop-prim-preserved : goal.loop-prim-preserved
loop-prim-preserved g c =
    let prims = (g.V.GeoView.geo c.args.view.now).prims in
    end_more prims c.loop-prim.prim c.first_vertex.result c.size.result c.loop-prim.ends.items c.push.new.self.items (omega (arith, c.count-prims.ensures, length-map prims (λ p. p.row))) c.first_vertex.ensures c.size.ensures c.loop-prim.invariant c.in_ok-push.ensures.items
