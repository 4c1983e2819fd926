use Rattle.std.proofs.Common.{◌≡◌, ◌+◌, ◌-◌, ◌++◌, suc, ap, ◌∙◌, arith}
use Rattle.std.specs.Prelude.{codes, decimal}
use Rattle.geo_text.specs.ObjText.{parts_text}
use Rattle.sop_model.specs.Vertices.{corners_of}
use Rattle.geo_text.proofs.ObjWriter.{reference_more}
use Rattle.geo_text.proofs.obj_writer.write_references.Goals as goal

pub loop-vertex-preserved : goal.loop-vertex-preserved
loop-vertex-preserved g c =
    let vertex = c.loop-vertex.vertex in
    let end = c.args.first + c.args.size in
    let count : end - vertex ≡ suc (end - (vertex + 1)) = omega arith in
    reference_more c.args.parts (corners_of (g.V.GeoView.geo c.args.view.now).prims) vertex (end - vertex) (end - (vertex + 1)) c.point_of.result c.loop-vertex.text.items c.write_reference.new.text.items _
    count c.point_of.ensures
    (c.in_ok-write_reference.ensures ∙ ap (λ n. c.loop-vertex.text.items ++ (codes " " ++ decimal (c.point_of.result + 1) ++ parts_text c.args.parts (n + 1))) c.from.ensures) c.loop-vertex.invariant
