-- What the operations on Reals and Ints give: a number, Range or DivZero. All is reckoned on whole numbers without bound.
use Rattle.std.specs.Prelude.{◌≡◌, ◌*◌, ◌≤◌, Bool, not, if◌then◌else◌, nat_eq, ℤ, pos, ◌+ℤ◌, ◌-ℤ◌, ◌*ℤ◌, ◌≤ℤ◌, ◌<ℤ◌, unsigned_abs, int_div, Result, Ok, Err}
use Rattle.std.specs.Bool.{beq}
use Rattle.std.specs.Int.{int_max, int_min, int_rem_euclid}
use Rattle.sop_fixed.specs.Numbers.{signed, is_negative, nearest, real_of, int_of, unit_size}
use Rattle.sop_fixed.specs.declared.fault.NumFault.{NumFault}
use Rattle.sop_fixed.specs.declared.fault.NumFault.TheVariants.{DivZero}

-- The millionths of one unit.
abbrev pub unit : ℤ
unit = pos unit_size

abbrev pub is_zero : ℤ → Bool
is_zero x = nat_eq (unsigned_abs x) 0

-- Whether just one of the two is below zero, so that their quotient isn't above it.
abbrev pub signs_differ : ℤ → ℤ → Bool
signs_differ a b = not (beq (is_negative a) (is_negative b))

-- a / b to the nearest whole number, halves away from zero.
abbrev pub rounded : ℤ → ℤ → ℤ
rounded a b = signed (signs_differ a b) (nearest (unsigned_abs a) (unsigned_abs b))

-- What `rounded` gives: no whole number is nearer to a / b than q is, and one as near isn't farther from zero.
pub record IsNearest (a b q : ℤ) : Type 0 where
  pub near : 2 * unsigned_abs (a -ℤ q *ℤ b) ≤ unsigned_abs b
  pub away : 2 * unsigned_abs (a -ℤ q *ℤ b) ≡ unsigned_abs b → unsigned_abs a ≤ unsigned_abs (q *ℤ b)

-- Two Reals. A product of millionths is one of millionths of millionths, so it is divided by a unit, and a dividend
-- is multiplied by one.
abbrev pub sum_of : ℤ → ℤ → Result ℤ NumFault
sum_of a b = real_of (a +ℤ b)

abbrev pub difference_of : ℤ → ℤ → Result ℤ NumFault
difference_of a b = real_of (a -ℤ b)

abbrev pub product_of : ℤ → ℤ → Result ℤ NumFault
product_of a b = real_of (rounded (a *ℤ b) unit)

abbrev pub quotient_of : ℤ → ℤ → Result ℤ NumFault
quotient_of a b = if is_zero b then Err DivZero else real_of (rounded (a *ℤ unit) b)

-- Two Reals, or two Ints: what a leaves after b is taken from it as often as the exact quotient says, cut toward zero.
abbrev pub remainder_of : ℤ → ℤ → Result ℤ NumFault
remainder_of a b = if is_zero b then Err DivZero else Ok (a -ℤ b *ℤ int_div a b)

-- The greatest whole number of units that is at most x.
abbrev pub floor_of : ℤ → ℤ
floor_of x = x -ℤ int_rem_euclid x unit

-- What `floor_of` gives.
pub record IsFloor (x floor : ℤ) : Type 0 where
  pub whole : floor ≡ int_div floor unit *ℤ unit
  pub most : floor ≤ℤ x
  pub next : x <ℤ (floor +ℤ unit)

-- The units of x, cut toward zero.
abbrev pub units_of : ℤ → ℤ
units_of x = int_div x unit

-- Two Ints. Their quotient is cut toward zero.
abbrev pub int_sum_of : ℤ → ℤ → Result ℤ NumFault
int_sum_of a b = int_of (a +ℤ b)

abbrev pub int_difference_of : ℤ → ℤ → Result ℤ NumFault
int_difference_of a b = int_of (a -ℤ b)

abbrev pub int_product_of : ℤ → ℤ → Result ℤ NumFault
int_product_of a b = int_of (a *ℤ b)

abbrev pub int_quotient_of : ℤ → ℤ → Result ℤ NumFault
int_quotient_of a b = if is_zero b then Err DivZero else int_of (int_div a b)

-- The Real of an Int.
abbrev pub real_of_int : ℤ → Result ℤ NumFault
real_of_int n = real_of (n *ℤ unit)

-- x, or the end that it lies beyond, of the range between a and b, whichever of these is less.
abbrev pub put_between : ℤ → ℤ → ℤ → ℤ
put_between a b x = int_max (int_min a b) (int_min x (int_max a b))

-- x moved from the range between omin and omax into the one between nmin and nmax. The quotient is rounded once.
abbrev pub fit_of : ℤ → ℤ → ℤ → ℤ → ℤ → ℤ
fit_of x omin omax nmin nmax =
    if is_zero (omax -ℤ omin) then nmin
    else nmin +ℤ rounded ((put_between omin omax x -ℤ omin) *ℤ (nmax -ℤ nmin)) (omax -ℤ omin)
