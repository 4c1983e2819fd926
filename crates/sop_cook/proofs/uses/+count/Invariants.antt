use Rattle.std.proofs.Common.{◌≡◌, length}
use Rattle.sop_cook.proofs.uses.+count.Given as goal

abbrev pub decreases-count : goal.decreases-count
decreases-count l = l.left

abbrev pub invariant-loop-wire : goal.invariant-loop-wire
invariant-loop-wire l = length l.uses ≡ length l.net.nodes
