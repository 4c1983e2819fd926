use Rattle.std.proofs.Common.{arith}
use Rattle.std.proofs.lemmas.List.{length-map}
use Rattle.sop_model.specs.declared.geo.Corner.{Corner}
use Rattle.sop_model.specs.Geometry.{empty_row}
use Rattle.sop_model.specs.Vertices.{corners_of}
use Rattle.sop_shape.proofs.MakeLemmas.{made_more}
use Rattle.sop_shape.proofs.making.refers_in.Goals as goal

pub loop-vertex-preserved : goal.loop-vertex-preserved
loop-vertex-preserved g c =
    let corners = corners_of (g.V.GeoView.geo c.args.view.now).prims in
    made_more (λ (c : Corner). c.point) corners c.loop-vertex.vertex (record { point = 0; row = empty_row }) c.point_of.result c.loop-vertex.refers.items c.push.new.self.items (omega (arith, c.count-vertices.ensures, length-map corners (λ c. c.row))) c.point_of.ensures c.loop-vertex.invariant
    c.in_ok-push.ensures.items
