use Rattle.std.proofs.Common.{◌≡◌, ℕ, length, take}
use Rattle.sop_net.specs.Graph.{searched}
use Rattle.sop_net.specs.Network.{sources}
use Rattle.sop_net.specs.Order.{In, flag_of}
use Rattle.sop_net.proofs.order.downstream.Given as goal

abbrev pub invariant-loop-x : goal.invariant-loop-x
invariant-loop-x l =
    (length l.flags.items ≡ length l.nodes)
    × ((y : ℕ) → In (take l.x-index l.order) y → flag_of l.nodes l.flags.items y ≡ searched (length l.nodes) (sources l.nodes) y l.node)
