use Rattle.std.proofs.Common.{◌<◌, ◌++◌, length, Some, arith, ap, ◌∙◌}
use Rattle.std.proofs.lemmas.List.{length-map}
use Rattle.sop_model.specs.declared.class.Class.TheVariants.{Vertex}
use Rattle.sop_model.specs.declared.geo.Corner.{Corner}
use Rattle.sop_model.specs.Vertices.{corners_of}
use Rattle.sop_model.specs.Geometry.{rows_of}
use Rattle.geo_text.specs.ObjText.{spaced_vector}
use Rattle.geo_text.proofs.ObjWriter.{rows_more, real_more, vector_written}
use Rattle.geo_text.proofs.obj_writer.write_vectors.Goals as goal

pub loop-vertex-preserved : goal.loop-vertex-preserved
loop-vertex-preserved g c =
    let geo = g.V.GeoView.geo c.args.view.now in
    let rows = rows_of geo Vertex in
    let i = c.loop-vertex.vertex in
    let within : i < length rows = omega (arith, c.loop-vertex-test.true, c.count-vertex-end.ensures, length-map (corners_of geo.prims) (λ (c : Corner). c.row)) in
    let so_far = c.loop-vertex.invariant in
    record {
      text = rows_more _ rows i c.args.text.now.items c.loop-vertex.text.items c.extend_from_slice-in-loop-vertex.new.self.items within
          (vector_written c.loop-vertex.text.items _ _ _ c.extend_from_slice.new.self.items c.write_vector.new.text.items c.extend_from_slice-in-loop-vertex.new.self.items
          c.in_ok-extend_from_slice.ensures.items (c.in_ok-write_vector.ensures ∙ ap (λ v. c.extend_from_slice.new.self.items ++ spaced_vector v) c.vector_at.ensures.value)
          c.in_ok-extend_from_slice-2.ensures.items) so_far.text;
      real = real_more (Some c.in-Some.head) rows i within so_far.real c.vector_at.ensures.real;
    }
