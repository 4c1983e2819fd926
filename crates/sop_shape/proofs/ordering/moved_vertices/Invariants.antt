use Rattle.std.proofs.Common.{◌≡◌, take}
use Rattle.sop_model.specs.declared.geo.Geo.{Geo}
use Rattle.sop_model.specs.Rows.{no_prim, picked}
use Rattle.sop_model.specs.Vertices.{ends_of}
use Rattle.sop_rows.specs.Parts.{vertices_with}
use Rattle.sop_shape.specs.Shapes.{HasShape}
use Rattle.sop_shape.proofs.ordering.moved_vertices.Given as goal

abbrev pub invariant-loop-prim : goal.invariant-loop-prim
invariant-loop-prim l = record {
  ends : (g : Geo) → HasShape g l.shape → l.ends.items ≡ ends_of 0 (picked g.prims no_prim (take l.prim-index l.perm));
  vertices : (g : Geo) → HasShape g l.shape → l.vertices.items ≡ vertices_with g.prims (take l.prim-index l.perm);
}
