use Rattle.std.proofs.Common.{◌≡◌, ◌++◌, take, drop, map}
use Rattle.sop_net.specs.Steps.{unwired}
use Rattle.sop_net.proofs.net.unwire.Given as goal

abbrev pub invariant-loop-node : goal.invariant-loop-node
invariant-loop-node l = l.node-items ≡ map (unwired l.source) (take l.node-index l.initial.node-items) ++ drop l.node-index l.initial.node-items
