use Rattle.std.proofs.Common.{◌≡◌}
use Rattle.sop_shape.specs.Tests.{flags_of, vertex_test}
use Rattle.sop_shape.proofs.staying.vertices_left.Given as goal

abbrev pub invariant-loop-vertex : goal.invariant-loop-vertex
invariant-loop-vertex l = l.made.items ≡ flags_of (vertex_test l.marks l.owners l.refers) l.vertex
