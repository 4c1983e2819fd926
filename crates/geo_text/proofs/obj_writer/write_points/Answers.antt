use Rattle.std.proofs.Common.{◌<◌, length, Some, arith}
use Rattle.geo_text.specs.ObjText.{point_line}
use Rattle.geo_text.proofs.ObjWriter.{rows_more, real_more}
use Rattle.geo_text.proofs.obj_writer.write_points.Goals as goal

pub loop-point-preserved : goal.loop-point-preserved
loop-point-preserved g c =
    let points = (g.V.GeoView.geo c.args.view.now).points in
    let i = c.loop-point.point in
    let within : i < length points = omega (arith, c.loop-point-test.true, c.count-point-end.ensures) in
    let so_far = c.loop-point.invariant in
    let written = c.in_ok-write_point.ensures in
    let colour = c.vector_head-colour.result in
    record {
      text = rows_more (point_line colour) points i c.args.text.now.items c.loop-point.text.items c.write_point.new.text.items within written.written so_far.text;
      places = real_more (Some 0) points i within so_far.places written.place;
      colours = real_more colour points i within so_far.colours written.colour;
    }
