use Rattle.std.proofs.Common.{◌≡◌, map, take}
use Rattle.sop_model.specs.Vertices.{corners_of}
use Rattle.sop_shape.proofs.making.refers_in.Given as goal

abbrev pub invariant-loop-vertex : goal.invariant-loop-vertex
invariant-loop-vertex g l = l.refers.items ≡ map (λ c. c.point) (take l.vertex (corners_of (g.V.GeoView.geo l.view).prims))
