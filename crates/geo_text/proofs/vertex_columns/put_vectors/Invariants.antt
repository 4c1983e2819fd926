use Rattle.std.proofs.Common.{◌≡◌, ◌++◌, map, take}
use Rattle.geo_text.specs.ObjColumns.{vector_at_vertex}
use Rattle.geo_text.proofs.vertex_columns.put_vectors.Given as goal

abbrev pub invariant-loop-vertex : goal.invariant-loop-vertex
invariant-loop-vertex l = l.vectors.items ≡ l.initial.vectors.items ++ map (vector_at_vertex l.vector) (take l.vertex-index l.vertices)
