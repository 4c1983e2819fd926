use Rattle.std.proofs.Common.{◌≡◌, ◌++◌, take, Some}
use Rattle.sop_model.specs.declared.class.Class.TheVariants.{Vertex}
use Rattle.sop_model.specs.Geometry.{rows_of}
use Rattle.geo_text.specs.ObjText.{vector_lines}
use Rattle.geo_text.specs.ObjRange.{AreRealUnder}
use Rattle.geo_text.proofs.obj_writer.write_vectors.Given as goal

abbrev pub invariant-loop-vertex : goal.invariant-loop-vertex
invariant-loop-vertex g l =
    let rows = take l.vertex (rows_of (g.V.GeoView.geo l.view) Vertex) in
    record {
      text : l.text.items ≡ l.initial.text.items ++ vector_lines l.keyword (Some l.head) rows;
      real : AreRealUnder (Some l.head) rows;
    }
