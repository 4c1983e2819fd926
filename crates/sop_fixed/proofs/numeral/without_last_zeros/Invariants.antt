use Rattle.std.proofs.Common.{◌≡◌, ◌+◌, ◌≤◌, length, take}
use Rattle.std.specs.List.{suffix_len}
use Rattle.sop_fixed.specs.Numerals.{is_zero_digit}
use Rattle.sop_fixed.proofs.numeral.without_last_zeros.Given as goal

abbrev pub invariant-loop-kept : goal.invariant-loop-kept
invariant-loop-kept l = (l.kept ≤ length l.digits) × (l.kept + suffix_len is_zero_digit l.digits ≡ length l.digits + suffix_len is_zero_digit (take l.kept l.digits))

abbrev pub decreases-loop-kept : goal.decreases-loop-kept
decreases-loop-kept l = l.kept
