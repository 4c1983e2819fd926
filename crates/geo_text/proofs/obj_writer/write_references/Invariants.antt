use Rattle.std.proofs.Common.{◌≡◌, ◌++◌, ◌+◌, ◌-◌, take, drop}
use Rattle.sop_model.specs.Vertices.{corners_of}
use Rattle.geo_text.specs.ObjText.{references_text}
use Rattle.geo_text.proofs.obj_writer.write_references.Given as goal

abbrev pub invariant-loop-vertex : goal.invariant-loop-vertex
invariant-loop-vertex g l =
    let corners = corners_of (g.V.GeoView.geo l.view).prims in
    l.text.items ++ references_text l.parts l.vertex (take (l.first + l.size - l.vertex) (drop l.vertex corners)) ≡ l.initial.text.items ++ references_text l.parts l.first (take l.size (drop l.first corners))
