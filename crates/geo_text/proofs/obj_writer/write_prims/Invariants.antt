use Rattle.std.proofs.Common.{◌≡◌, ◌++◌, drop}
use Rattle.sop_model.specs.Vertices.{first_vertex_in}
use Rattle.geo_text.specs.ObjText.{shapes_text, no_flags}
use Rattle.geo_text.specs.ObjFlags.{flags_before}
use Rattle.geo_text.proofs.obj_writer.write_prims.Given as goal

abbrev pub invariant-loop-prim : goal.invariant-loop-prim
invariant-loop-prim g l =
    let geo = g.V.GeoView.geo l.view in
    l.text.items ++ shapes_text geo (first_vertex_in geo.prims l.prim) (flags_before geo l.prim) (drop l.prim geo.prims) ≡ l.initial.text.items ++ shapes_text geo 0 (no_flags geo) geo.prims
