use Rattle.std.proofs.Common.{◌++◌, ap, ◌∙◌}
use Rattle.std.specs.Prelude.{codes, slice_index_or}
use Rattle.sop_model.specs.Geometry.{empty_row}
use Rattle.geo_text.specs.ObjText.{spaced_vector, vector_under, colour_text}
use Rattle.geo_text.proofs.ObjWriter.{line_written}
use Rattle.geo_text.proofs.obj_writer.write_point.Goals as goal

pub returns-clause-written : goal.returns-clause-written
returns-clause-written g c =
    let row = slice_index_or (g.V.GeoView.geo c.args.view.now).points c.args.point empty_row in
    line_written c.args.text.now.items (codes "v") (spaced_vector (vector_under 0 row)) (colour_text c.args.colour row) (codes "\n")
    c.extend_from_slice.new.self.items c.write_vector.new.text.items c.write_colour.new.text.items c.extend_from_slice-2.new.self.items
    c.in_ok-extend_from_slice.ensures.items (c.in_ok-write_vector.ensures ∙ ap (λ v. c.extend_from_slice.new.self.items ++ spaced_vector v) c.vector_at.ensures.value) c.in_ok-write_colour.ensures.written c.in_ok-extend_from_slice-2.ensures.items
