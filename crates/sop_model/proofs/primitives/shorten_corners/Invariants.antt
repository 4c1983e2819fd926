use Rattle.std.proofs.Common.{◌≡◌, length, take}
use Rattle.sop_model.proofs.primitives.shorten_corners.Given as goal

abbrev pub invariant-loop-corners : goal.invariant-loop-corners
invariant-loop-corners l = take l.size l.corners ≡ take l.size l.initial.corners

abbrev pub decreases-loop-corners : goal.decreases-loop-corners
decreases-loop-corners l = length l.corners
