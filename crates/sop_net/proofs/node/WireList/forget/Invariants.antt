use Rattle.std.proofs.Common.{◌≡◌, ◌++◌, take, drop, map}
use Rattle.sop_net.specs.Steps.{unless_from}
use Rattle.sop_net.proofs.node.WireList.forget.Given as goal

abbrev pub invariant-loop-wire : goal.invariant-loop-wire
invariant-loop-wire l = l.wire-items ≡ map (unless_from l.source) (take l.wire-index l.initial.wire-items) ++ drop l.wire-index l.initial.wire-items
