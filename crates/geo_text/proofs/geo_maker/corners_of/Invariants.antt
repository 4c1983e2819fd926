use Rattle.std.proofs.Common.{◌≡◌, map, take}
use Rattle.geo_text.specs.ObjTaking.{vertex_taken}
use Rattle.geo_text.proofs.geo_maker.corners_of.Given as goal

abbrev pub invariant-loop-vertex : goal.invariant-loop-vertex
invariant-loop-vertex l = l.corners ≡ map (vertex_taken l.has) (take l.vertex-index l.vertices)
