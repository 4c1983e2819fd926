-- Square roots, cut to whole numbers.
use Rattle.std.specs.Prelude.{ℕ, ◌+◌, ◌*◌, ◌/◌, ◌<◌, ◌≤◌, if◌then◌else◌, nat_le, zero, suc, ℤ, pos, ◌≤ℤ◌, unsigned_abs, Result, Err}
use Rattle.sop_fixed.specs.Numbers.{is_negative, real_of, unit_size}
use Rattle.sop_fixed.specs.declared.fault.NumFault.{NumFault}
use Rattle.sop_fixed.specs.declared.fault.NumFault.TheVariants.{Range}

-- The greatest whole number whose square is at most n.
pub record IsRoot (n root : ℕ) : Type 0 where
  pub within : root * root ≤ n
  pub next : n < (root + 1) * (root + 1)

-- It is the number r, which isn't below zero.
abbrev pub IsRootOf : ℕ → ℤ → Type 0
IsRootOf n r = (pos 0 ≤ℤ r) × IsRoot n (unsigned_abs r)

-- That number, reckoned from the root of a quarter of n: twice that one, or one more where its square still fits.
abbrev pub next_root : ℕ → ℕ → ℕ
next_root half n = if nat_le ((2 * half + 1) * (2 * half + 1)) n then 2 * half + 1 else 2 * half

-- The root of a number below 4 ^ digits.
abbrev pub root_in : ℕ → ℕ → ℕ
root_in zero n = 0
root_in (suc digits) n = next_root (root_in digits (n / 4)) n

-- The root of a number below 4 ^ 64, which every number here is.
unfoldable pub root_of : ℕ → ℕ
root_of n = root_in 64 n

-- The root of a Real. A root of millionths of millionths is one of millionths.
abbrev pub sqrt_of : ℤ → Result ℤ NumFault
sqrt_of x = if is_negative x then Err Range else real_of (pos (root_of (unsigned_abs x * unit_size)))

abbrev pub square : ℤ → ℕ
square x = unsigned_abs x * unsigned_abs x

-- The length of a vector.
abbrev pub length_of : ℤ → ℤ → ℤ → Result ℤ NumFault
length_of x y z = real_of (pos (root_of (square x + square y + square z)))
