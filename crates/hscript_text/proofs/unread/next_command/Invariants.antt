use Rattle.std.proofs.Common.{◌≡◌, length}
use Rattle.hscript_text.specs.Parts.{reading_left, HasLines}
use Rattle.hscript_text.proofs.unread.next_command.Given as goal

abbrev pub invariant-loop-unread : goal.invariant-loop-unread
invariant-loop-unread l = HasLines l.unread × (reading_left l.unread ≡ reading_left l.fn.unread)

abbrev pub decreases-loop-unread : goal.decreases-loop-unread
decreases-loop-unread l = length l.unread.rest.now
