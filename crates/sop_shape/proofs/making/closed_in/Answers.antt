use Rattle.std.proofs.Common.{arith}
use Rattle.std.proofs.lemmas.List.{length-map}
use Rattle.sop_model.specs.declared.geo.Primitive.{Primitive}
use Rattle.sop_model.specs.Rows.{no_prim}
use Rattle.sop_shape.proofs.MakeLemmas.{made_more}
use Rattle.sop_shape.proofs.making.closed_in.Goals as goal

pub loop-prim-preserved : goal.loop-prim-preserved
loop-prim-preserved g c =
    let prims = (g.V.GeoView.geo c.args.view.now).prims in
    made_more (λ (p : Primitive). p.closed) prims c.loop-prim.prim no_prim c.closed.result c.loop-prim.closed.items c.push.new.self.items (omega (arith, c.count-prims.ensures, length-map prims (λ p. p.row))) c.closed.ensures c.loop-prim.invariant c.in_ok-push.ensures.items
