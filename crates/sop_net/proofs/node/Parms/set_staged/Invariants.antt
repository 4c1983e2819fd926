use Rattle.std.proofs.Common.{◌≡◌, ◌≤◌, length}
use Rattle.sop_net.specs.Staged.{staged_over}
use Rattle.sop_net.proofs.node.Parms.set_staged.Given as goal

abbrev pub invariant-loop-text : goal.invariant-loop-text
invariant-loop-text l =
    (staged_over l.self-inside.texts.items l.staged.items ≡ staged_over l.fn.self l.fn.staged.items)
    × (length l.staged.items ≤ length l.self-inside.texts.items)

abbrev pub decreases-loop-text : goal.decreases-loop-text
decreases-loop-text l = length l.staged.items
