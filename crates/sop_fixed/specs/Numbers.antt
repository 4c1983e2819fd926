-- Arithmetic on whole numbers without bound, and the ranges of the two types of numbers.
use Rattle.std.specs.Prelude.{ℕ, ◌+◌, ◌*◌, ◌/◌, Bool, true, false, ◌&&◌, if◌then◌else◌, nat_le, ℤ, pos, negsuc, neg_ℤ, int_lt, int_le, unsigned_abs, Result, Ok, Err}
use Rattle.sop_fixed.specs.declared.fault.NumFault.{NumFault}
use Rattle.sop_fixed.specs.declared.fault.NumFault.TheVariants.{Range}

-- The whole number of this sign and size.
abbrev pub signed : Bool → ℕ → ℤ
signed true size = neg_ℤ (pos size)
signed false size = pos size

abbrev pub is_negative : ℤ → Bool
is_negative x = int_lt x (pos 0)

-- The millionths of one unit.
abbrev pub unit_size : ℕ
unit_size = 1000000

-- A Real is a whole number of millionths of at most this size: 10 ^ 15.
abbrev pub largest_size : ℕ
largest_size = 1000000000000000

abbrev pub is_real : ℤ → Bool
is_real x = nat_le (unsigned_abs x) largest_size

-- The Real of so many millionths, where there is one.
abbrev pub real_of : ℤ → Result ℤ NumFault
real_of x = if is_real x then Ok x else Err Range

-- An Int is a whole number between these two: from -(2 ^ 31) to 2 ^ 31 - 1.
abbrev pub smallest_int : ℤ
smallest_int = negsuc 2147483647

abbrev pub largest_int : ℤ
largest_int = pos 2147483647

abbrev pub is_int : ℤ → Bool
is_int n = int_le smallest_int n && int_le n largest_int

-- The Int of this number, where there is one.
abbrev pub int_of : ℤ → Result ℤ NumFault
int_of n = if is_int n then Ok n else Err Range

-- n / d to the nearest whole number, a half to the one above. A size is rounded so and keeps its sign:
-- halves go away from zero.
abbrev pub nearest : ℕ → ℕ → ℕ
nearest n d = (2 * n + d) / (2 * d)
