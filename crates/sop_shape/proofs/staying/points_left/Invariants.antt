use Rattle.std.proofs.Common.{◌≡◌}
use Rattle.sop_shape.specs.Tests.{flags_of, is_touched, point_test}
use Rattle.sop_shape.proofs.staying.points_left.Given as goal

abbrev pub invariant-loop-point : goal.invariant-loop-point
invariant-loop-point l = l.made.items ≡ flags_of (point_test l.points (is_touched l.giving_up l.refers) (is_touched l.staying l.refers)) l.point
