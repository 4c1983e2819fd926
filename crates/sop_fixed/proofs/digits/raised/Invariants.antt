use Rattle.std.proofs.Common.{◌≡◌, ◌≤◌, ◌*◌, ◌^◌, min}
use Rattle.sop_fixed.proofs.digits.raised.Given as goal

abbrev pub invariant-loop-by : goal.invariant-loop-by
invariant-loop-by l = (l.number ≤ l.cap) × (min (l.number * 10 ^ l.by) l.cap ≡ min (l.initial.number * 10 ^ l.initial.by) l.cap)

abbrev pub decreases-loop-by : goal.decreases-loop-by
decreases-loop-by l = l.by
