use Rattle.std.proofs.Common.{◌≡◌, ◌++◌, drop, filter, not}
use Rattle.sop_net.specs.Order.{flag_of}
use Rattle.sop_net.proofs.order.flagged_last.Given as goal

abbrev pub invariant-loop-x : goal.invariant-loop-x
invariant-loop-x l =
    (l.front.items ++ filter (λ x. not (flag_of l.nodes l.flags x)) (drop l.x-index l.order) ≡ filter (λ x. not (flag_of l.nodes l.flags x)) l.order)
    × (l.back.items ++ filter (flag_of l.nodes l.flags) (drop l.x-index l.order) ≡ filter (flag_of l.nodes l.flags) l.order)
