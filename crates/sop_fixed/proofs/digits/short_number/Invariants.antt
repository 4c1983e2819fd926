use Rattle.std.proofs.Common.{drop}
use Rattle.sop_fixed.proofs.Short.{IsShort}
use Rattle.sop_fixed.proofs.digits.short_number.Given as goal

abbrev pub invariant-loop-digit : goal.invariant-loop-digit
invariant-loop-digit l = IsShort l.fn.start l.number l.digits (drop l.digit-index l.digits)
