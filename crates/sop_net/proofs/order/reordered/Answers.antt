use Rattle.std.proofs.Common.{◌∙◌, sym}
use Rattle.sop_net.specs.Order.{flag_of}
use Rattle.sop_net.proofs.Membership.{contains-in}
use Rattle.sop_net.proofs.WireLemmas.{order-reordered}
use Rattle.sop_net.proofs.order.reordered.Goals as goal

pub flagged_last-requires-clause-live : goal.flagged_last-requires-clause-live
flagged_last-requires-clause-live c = λ x there. c.requires.order.live x (contains-in c.args.order.now x there)

pub returns-clause-order : goal.returns-clause-order
returns-clause-order c =
    rw (c.in_ok-flagged_last.ensures, c.deref-2.ensures.value)
    (order-reordered c.args.nodes.now c.args.order.now c.args.node c.args.source c.requires.order c.requires.wires (flag_of c.args.nodes.now c.in_ok-flags.flags.items) c.in_ok-flags.ensures.flags c.requires.source
    (rw (← c.deref.ensures.value) (sym c.flag.ensures ∙ c.if-flag.false)))
