use Rattle.std.proofs.Common.{◌≡◌, ◌≤◌, drop}
use Rattle.sop_fixed.proofs.Rounding.{going_on}
use Rattle.sop_fixed.proofs.digits.number_within.Given as goal

abbrev pub invariant-loop-digit : goal.invariant-loop-digit
invariant-loop-digit l = (l.number ≤ l.cap) × (going_on l.number (drop l.digit-index l.digits) l.cap ≡ going_on l.fn.start l.digits l.cap)
