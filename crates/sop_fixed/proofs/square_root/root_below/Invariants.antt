use Rattle.std.proofs.Common.{◌+◌, ◌*◌, ◌<◌, ◌≤◌}
use Rattle.sop_fixed.specs.declared.sizes.TheConstants.{LARGEST_DIFFERENCE}
use Rattle.sop_fixed.proofs.square_root.root_below.Given as goal

abbrev pub invariant-loop-root : goal.invariant-loop-root
invariant-loop-root l = (l.root ≤ LARGEST_DIFFERENCE) × (l.n < (l.root + 1) * (l.root + 1))

abbrev pub decreases-loop-root : goal.decreases-loop-root
decreases-loop-root l = l.root
