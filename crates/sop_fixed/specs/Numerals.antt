-- Numerals: the number that a text says, and the text that a number prints as.
use Rattle.std.specs.Prelude.{ℕ, ◌+◌, ◌-◌, ◌*◌, ◌/◌, ◌%◌, ◌^◌, Bool, true, false, if◌then◌else◌, ◌&&◌, ◌||◌, not, nat_le, nat_lt, ◌==◌, List, [], ◌∷◌, ◌++◌, length, take, replicate, ℤ, unsigned_abs, Option, Some, None, Result, Ok, Err, is_some, position, decimal}
use Rattle.std.specs.List.{list_all, before_first, after_first, suffix_len}
use Rattle.std.specs.Char.{is_ascii_digit}
use Rattle.sop_fixed.specs.Numbers.{signed, is_negative, is_real, is_int, nearest, unit_size}
use Rattle.sop_fixed.specs.declared.fault.NumeralFault.{NumeralFault}
use Rattle.sop_fixed.specs.declared.fault.NumeralFault.TheVariants.{NotNumeral, OutOfRange}

-- `+` or `-`
abbrev pub is_sign : ℕ → Bool
is_sign b = (b == 43) || (b == 45)

abbrev pub has_minus : List ℕ → Bool
has_minus [] = false
has_minus (b ∷ text) = b == 45

abbrev pub after_sign : List ℕ → List ℕ
after_sign [] = []
after_sign (b ∷ text) = if is_sign b then text else b ∷ text

abbrev pub is_point : ℕ → Bool
is_point b = b == 46

-- `e` or `E`
abbrev pub is_exponent_mark : ℕ → Bool
is_exponent_mark b = (b == 101) || (b == 69)

abbrev pub are_digits : List ℕ → Bool
are_digits text = list_all is_ascii_digit text

abbrev pub is_some_digits : List ℕ → Bool
is_some_digits text = nat_lt 0 (length text) && are_digits text

-- The sum of the digits, each times its power of ten.
abbrev pub number_of : List ℕ → ℕ
number_of [] = 0
number_of (digit ∷ digits) = (digit - 48) * 10 ^ length digits + number_of digits

-- The number that 1 to `most` digits say, where a text is that.
abbrev pub number_in : ℕ → List ℕ → Option ℕ
number_in most text = if is_some_digits text && nat_le (length text) most then Some (number_of text) else None

-- A text is a sign or none, a mantissa, and an exponent behind its mark, or none.
abbrev pub mantissa_of : List ℕ → List ℕ
mantissa_of text = before_first is_exponent_mark (after_sign text)

abbrev pub has_exponent : List ℕ → Bool
has_exponent text = is_some (position is_exponent_mark (after_sign text))

abbrev pub exponent_of : List ℕ → List ℕ
exponent_of text = after_first is_exponent_mark (after_sign text)

-- A mantissa's digits stand before and behind its point.
abbrev pub whole_of : List ℕ → List ℕ
whole_of mantissa = before_first is_point mantissa

abbrev pub fraction_of : List ℕ → List ℕ
fraction_of mantissa = after_first is_point mantissa

abbrev pub digits_of : List ℕ → List ℕ
digits_of mantissa = whole_of mantissa ++ fraction_of mantissa

-- A numeral is a sign or none, then digits with at most one point and at least one digit, then nothing, or the
-- mark of an exponent, a sign or none, and at least one digit.
abbrev pub is_numeral : List ℕ → Bool
is_numeral text = is_some_digits (digits_of (mantissa_of text)) && (not (has_exponent text) || is_some_digits (after_sign (exponent_of text)))

-- By how many places an exponent, with its sign, raises a number, and lowers it.
abbrev pub places_up : List ℕ → ℕ
places_up exponent = if has_minus exponent then 0 else number_of (after_sign exponent)

abbrev pub places_down : List ℕ → ℕ
places_down exponent = if has_minus exponent then number_of (after_sign exponent) else 0

-- The size in millionths that a mantissa and an exponent say, to the nearest: all digits as one number, times a power
-- of ten, over another.
abbrev pub size_of : List ℕ → List ℕ → ℕ
size_of mantissa exponent = nearest (number_of (digits_of mantissa) * 10 ^ (6 + places_up exponent)) (10 ^ (length (fraction_of mantissa) + places_down exponent))

-- The exact number of a numeral, rounded to millionths.
abbrev pub rounded_of : List ℕ → ℤ
rounded_of text = signed (has_minus text) (size_of (mantissa_of text) (exponent_of text))

abbrev pub in_range : ℤ → Result ℤ NumeralFault
in_range x = if is_real x then Ok x else Err OutOfRange

-- The Real that a text says. A numeral is in range by its rounded number.
abbrev pub value_of : List ℕ → Result ℤ NumeralFault
value_of text = if is_numeral text then in_range (rounded_of text) else Err NotNumeral

-- The Int that a text says: `-` or nothing, then digits, at least one.
abbrev pub after_minus : List ℕ → List ℕ
after_minus [] = []
after_minus (b ∷ text) = if b == 45 then text else b ∷ text

abbrev pub int_in_range : ℤ → Result ℤ NumeralFault
int_in_range n = if is_int n then Ok n else Err OutOfRange

abbrev pub whole_number_of : List ℕ → Result ℤ NumeralFault
whole_number_of text =
    if is_some_digits (after_minus text) then int_in_range (signed (has_minus text) (number_of (after_minus text))) else Err NotNumeral

-- The six digits of so many millionths, fewer than a million.
abbrev pub six_digits : ℕ → List ℕ
six_digits n = replicate (6 - length (decimal n)) 48 ++ decimal n

abbrev pub is_zero_digit : ℕ → Bool
is_zero_digit b = b == 48

-- The digits without the zeros at their end.
abbrev pub without_last_zeros : List ℕ → List ℕ
without_last_zeros digits = take (length digits - suffix_len is_zero_digit digits) digits

-- A point and the digits behind it, or nothing where there are none.
abbrev pub fraction_text : List ℕ → List ℕ
fraction_text [] = []
fraction_text (digit ∷ digits) = 46 ∷ digit ∷ digits

abbrev pub sign_text : Bool → List ℕ
sign_text true = 45 ∷ []
sign_text false = []

-- The text that a number of millionths prints as, its shortest plain decimal: a minus where it is below zero, the
-- whole units, then a point and the digits of the fraction up to the last that isn't zero, where there is one.
abbrev pub decimal_of : ℤ → List ℕ
decimal_of x =
    sign_text (is_negative x)
    ++ decimal (unsigned_abs x / unit_size)
    ++ fraction_text (without_last_zeros (six_digits (unsigned_abs x % unit_size)))
