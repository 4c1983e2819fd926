use Rattle.std.proofs.Common.{◌≡◌, ◌++◌, take, Some}
use Rattle.std.specs.List.{flat_map}
use Rattle.geo_text.specs.ObjText.{point_line}
use Rattle.geo_text.specs.ObjRange.{AreRealUnder}
use Rattle.geo_text.proofs.obj_writer.write_points.Given as goal

abbrev pub invariant-loop-point : goal.invariant-loop-point
invariant-loop-point g l =
    let points = take l.point (g.V.GeoView.geo l.view).points in
    record {
      text : l.text.items ≡ l.initial.text.items ++ flat_map (point_line l.colour) points;
      places : AreRealUnder (Some 0) points;
      colours : AreRealUnder l.colour points;
    }
