use Rattle.std.proofs.Common.{◌≡◌, ◌++◌, map, take}
use Rattle.geo_text.proofs.vertex_columns.put_points.Given as goal

abbrev pub invariant-loop-vertex : goal.invariant-loop-vertex
invariant-loop-vertex l = l.points.items ≡ l.initial.points.items ++ map (λ v. v.point) (take l.vertex-index l.vertices)
