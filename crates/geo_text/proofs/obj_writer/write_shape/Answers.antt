use Rattle.geo_text.proofs.Writing.{prim_inside}
use Rattle.geo_text.proofs.ObjWriter.{shape_written}
use Rattle.geo_text.proofs.obj_writer.write_shape.Goals as goal

pub write_references-requires-clause-in_range : goal.write_references-requires-clause-in_range
write_references-requires-clause-in_range g c =
    prim_inside (g.V.GeoView.geo c.args.view.now).prims c.args.prim c.first_vertex-first.result c.size-size.result c.size-size.ensures c.first_vertex-first.ensures

pub returns : goal.returns
returns g c =
    shape_written (g.V.GeoView.geo c.args.view.now) c.args.prim c.size-size.result c.first_vertex-first.result c.closed-closed.result c.args.parts c.parts_of.result
    c.args.text.now.items c.keyword.result.now c.extend_from_slice.new.self.items c.write_references.new.text.items c.extend_from_slice-2.new.self.items
    c.size-size.ensures c.closed-closed.ensures c.first_vertex-first.ensures c.requires.parts c.parts_of.ensures
    c.keyword.ensures c.in_ok-extend_from_slice.ensures.items c.in_ok-write_references.ensures c.in_ok-extend_from_slice-2.ensures.items
