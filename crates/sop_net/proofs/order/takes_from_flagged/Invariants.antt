use Rattle.std.proofs.Common.{◌≡◌, drop}
use Rattle.std.specs.List.{list_any}
use Rattle.sop_net.specs.Network.{wired}
use Rattle.sop_net.specs.Order.{flag_of}
use Rattle.sop_net.proofs.order.takes_from_flagged.Given as goal

abbrev pub invariant-loop-wire : goal.invariant-loop-wire
invariant-loop-wire l = list_any (flag_of l.nodes l.flags) (wired (drop l.wire-index l.wires)) ≡ list_any (flag_of l.nodes l.flags) (wired l.wires)
