use Rattle.std.proofs.Common.{◌≡◌}
use Rattle.sop_shape.specs.Tests.{flags_of, gives_up}
use Rattle.sop_shape.proofs.staying.giving_up.Given as goal

abbrev pub invariant-loop-prim : goal.invariant-loop-prim
invariant-loop-prim l = l.made.items ≡ flags_of (gives_up l.marks l.owners) l.prim-index
