-- Worked examples: what the definitions say of texts and numbers, by computation.
use Rattle.std.specs.Prelude.{◌≡◌, refl, pos, negsuc, Ok, Err, Some, None, codes}
use Rattle.std.specs.Fmt.{digits}
use Rattle.sop_fixed.specs.Arithmetic.{sum_of, product_of, quotient_of, remainder_of, floor_of, units_of, fit_of, int_sum_of, int_difference_of, int_product_of, int_quotient_of, real_of_int}
use Rattle.sop_fixed.specs.Numbers.{real_of, int_of}
use Rattle.sop_fixed.specs.Roots.{root_of, sqrt_of, length_of}
use Rattle.sop_fixed.specs.Numerals.{value_of, decimal_of, whole_number_of, number_in}
use Rattle.sop_fixed.specs.declared.fault.NumeralFault.TheVariants.{NotNumeral, OutOfRange}
use Rattle.sop_fixed.specs.declared.fault.NumFault.TheVariants.{Range, DivZero}

half_up : value_of (codes "0.0000005") ≡ Ok (pos 1)
half_up = refl

half_down : value_of (codes "-0.0000005") ≡ Ok (negsuc 0)
half_down = refl

under_a_half : value_of (codes "1e-9") ≡ Ok (pos 0)
under_a_half = refl

point_last : value_of (codes "5.") ≡ Ok (pos 5000000)
point_last = refl

point_first : value_of (codes ".5") ≡ Ok (pos 500000)
point_first = refl

plus : value_of (codes "+.5") ≡ Ok (pos 500000)
plus = refl

raised : value_of (codes "-1.25E+2") ≡ Ok (negsuc 124999999)
raised = refl

lowered : value_of (codes "125e-2") ≡ Ok (pos 1250000)
lowered = refl

zero_raised : value_of (codes "0e99") ≡ Ok (pos 0)
zero_raised = refl

zero_has_no_sign : value_of (codes "-0.0000001") ≡ Ok (pos 0)
zero_has_no_sign = refl

empty : value_of (codes "") ≡ Err NotNumeral
empty = refl

point_alone : value_of (codes ".") ≡ Err NotNumeral
point_alone = refl

plus_alone : value_of (codes "+") ≡ Err NotNumeral
plus_alone = refl

two_points : value_of (codes "1.2.3") ≡ Err NotNumeral
two_points = refl

two_signs : value_of (codes "+-1") ≡ Err NotNumeral
two_signs = refl

exponent_without_digits : value_of (codes "1e") ≡ Err NotNumeral
exponent_without_digits = refl

exponent_of_a_sign : value_of (codes "1e+") ≡ Err NotNumeral
exponent_of_a_sign = refl

exponent_alone : value_of (codes "e5") ≡ Err NotNumeral
exponent_alone = refl

exponent_with_a_point : value_of (codes "1e5.") ≡ Err NotNumeral
exponent_with_a_point = refl

blank : value_of (codes " 1") ≡ Err NotNumeral
blank = refl

greatest : value_of (codes "1000000000") ≡ Ok (pos 1000000000000000)
greatest = refl

rounded_into_range : value_of (codes "1000000000.0000004") ≡ Ok (pos 1000000000000000)
rounded_into_range = refl

rounded_out_of_range : value_of (codes "1000000000.0000005") ≡ Err OutOfRange
rounded_out_of_range = refl

below_range : value_of (codes "-1e10") ≡ Err OutOfRange
below_range = refl

form_before_range : value_of (codes "1e10x") ≡ Err NotNumeral
form_before_range = refl

half : decimal_of (pos 500000) ≡ codes "0.5"
unfolding digits
half = refl

one_millionth_below : decimal_of (negsuc 0) ≡ codes "-0.000001"
unfolding digits
one_millionth_below = refl

nothing : decimal_of (pos 0) ≡ codes "0"
unfolding digits
nothing = refl

whole : decimal_of (pos 120000000) ≡ codes "120"
unfolding digits
whole = refl

zeros_inside : decimal_of (negsuc 10020299999) ≡ codes "-10020.3"
unfolding digits
zeros_inside = refl

zero_within : decimal_of (pos 1050000) ≡ codes "1.05"
unfolding digits
zero_within = refl

last : decimal_of (pos 1000000000000000) ≡ codes "1000000000"
unfolding digits
last = refl

greatest_int : int_of (pos 2147483647) ≡ Ok (pos 2147483647)
greatest_int = refl

above_int : int_of (pos 2147483648) ≡ Err Range
above_int = refl

smallest_int : int_of (negsuc 2147483647) ≡ Ok (negsuc 2147483647)
smallest_int = refl

below_int : int_of (negsuc 2147483648) ≡ Err Range
below_int = refl

smallest_real : real_of (negsuc 999999999999999) ≡ Ok (negsuc 999999999999999)
smallest_real = refl

above_real : real_of (pos 1000000000000001) ≡ Err Range
above_real = refl

half_a_millionth : product_of (pos 1) (pos 500000) ≡ Ok (pos 1)
half_a_millionth = refl

half_a_millionth_prints : decimal_of (pos 1) ≡ codes "0.000001"
unfolding digits
half_a_millionth_prints = refl

half_below : product_of (negsuc 0) (pos 500000) ≡ Ok (negsuc 0)
half_below = refl

under_a_half_millionth : product_of (negsuc 0) (pos 499999) ≡ Ok (pos 0)
under_a_half_millionth = refl

third : quotient_of (pos 1000000) (pos 3000000) ≡ Ok (pos 333333)
third = refl

two_thirds : quotient_of (pos 2000000) (pos 3000000) ≡ Ok (pos 666667)
two_thirds = refl

half_of_five : quotient_of (pos 5) (pos 2000000) ≡ Ok (pos 3)
half_of_five = refl

half_of_three_below : quotient_of (pos 3) (negsuc 1999999) ≡ Ok (negsuc 1)
half_of_three_below = refl

no_divisor : quotient_of (pos 1000000000000000) (pos 0) ≡ Err DivZero
no_divisor = refl

small_divisor : quotient_of (pos 1000000000000000) (pos 1) ≡ Err Range
small_divisor = refl

greatest_product : product_of (pos 1000000000000000) (negsuc 999999) ≡ Ok (negsuc 999999999999999)
greatest_product = refl

product_rounded_into_range : product_of (pos 2000000000000) (pos 500000000) ≡ Ok (pos 1000000000000000)
product_rounded_into_range = refl

product_above : product_of (pos 2000000000001) (pos 500000000) ≡ Err Range
product_above = refl

sum_above : sum_of (pos 1000000000000000) (pos 1) ≡ Err Range
sum_above = refl

left_below : remainder_of (negsuc 7499999) (pos 2000000) ≡ Ok (negsuc 1499999)
left_below = refl

left_above : remainder_of (pos 7500000) (negsuc 1999999) ≡ Ok (pos 1500000)
left_above = refl

left_by_none : remainder_of (pos 7500000) (pos 0) ≡ Err DivZero
left_by_none = refl

root_of_two : sqrt_of (pos 2000000) ≡ Ok (pos 1414213)
unfolding root_of
root_of_two = refl

root_of_four : sqrt_of (pos 4000000) ≡ Ok (pos 2000000)
unfolding root_of
root_of_four = refl

root_below : sqrt_of (negsuc 0) ≡ Err Range
root_below = refl

three_four : length_of (pos 3000000) (negsuc 3999999) (pos 0) ≡ Ok (pos 5000000)
unfolding root_of
three_four = refl

too_long : length_of (pos 1000000000000000) (pos 1000000000000000) (pos 0) ≡ Err Range
unfolding root_of
too_long = refl

floor_below : floor_of (negsuc 1499999) ≡ negsuc 1999999
floor_below = refl

floor_above : floor_of (pos 1500000) ≡ pos 1000000
floor_above = refl

floor_of_whole : floor_of (negsuc 1999999) ≡ negsuc 1999999
floor_of_whole = refl

units_below : units_of (negsuc 1999998) ≡ negsuc 0
units_below = refl

fit_middle : fit_of (pos 500000) (pos 0) (pos 1000000) (pos 10000000) (pos 20000000) ≡ pos 15000000
fit_middle = refl

fit_half_up : fit_of (pos 500000) (pos 0) (pos 1000000) (pos 0) (pos 1) ≡ pos 1
fit_half_up = refl

fit_half_down : fit_of (pos 500000) (pos 0) (pos 1000000) (pos 1) (pos 0) ≡ pos 0
fit_half_down = refl

fit_beyond : fit_of (pos 3000000) (pos 0) (pos 1000000) (pos 10000000) (pos 20000000) ≡ pos 20000000
fit_beyond = refl

fit_turned : fit_of (pos 250000) (pos 1000000) (pos 0) (pos 10000000) (pos 20000000) ≡ pos 17500000
fit_turned = refl

fit_no_width : fit_of (pos 5) (pos 7) (pos 7) (pos 10000000) (pos 20000000) ≡ pos 10000000
fit_no_width = refl

int_sum_above : int_sum_of (pos 2147483647) (pos 1) ≡ Err Range
int_sum_above = refl

int_difference_below : int_difference_of (negsuc 2147483647) (pos 1) ≡ Err Range
int_difference_below = refl

int_product_below : int_product_of (pos 65536) (negsuc 32767) ≡ Ok (negsuc 2147483647)
int_product_below = refl

int_quotient_cut : int_quotient_of (negsuc 6) (pos 2) ≡ Ok (negsuc 2)
int_quotient_cut = refl

int_left : remainder_of (negsuc 6) (pos 2) ≡ Ok (negsuc 0)
int_left = refl

int_no_divisor : int_quotient_of (pos 1) (pos 0) ≡ Err DivZero
int_no_divisor = refl

int_quotient_above : int_quotient_of (negsuc 2147483647) (negsuc 0) ≡ Err Range
int_quotient_above = refl

int_left_none : remainder_of (negsuc 2147483647) (negsuc 0) ≡ Ok (pos 0)
int_left_none = refl

greatest_int_as_real : real_of_int (pos 1000000000) ≡ Ok (pos 1000000000000000)
greatest_int_as_real = refl

int_above_real : real_of_int (negsuc 1000000000) ≡ Err Range
int_above_real = refl

-- whole-number texts

whole_with_minus : whole_number_of (codes "-007") ≡ Ok (negsuc 6)
whole_with_minus = refl

whole_minus_zero : whole_number_of (codes "-0") ≡ Ok (pos 0)
whole_minus_zero = refl

whole_smallest : whole_number_of (codes "-2147483648") ≡ Ok (negsuc 2147483647)
whole_smallest = refl

whole_too_large : whole_number_of (codes "2147483648") ≡ Err OutOfRange
whole_too_large = refl

whole_plus : whole_number_of (codes "+1") ≡ Err NotNumeral
whole_plus = refl

whole_minus_alone : whole_number_of (codes "-") ≡ Err NotNumeral
whole_minus_alone = refl

digits_few : number_in 4 (codes "0042") ≡ Some 42
digits_few = refl

digits_many : number_in 4 (codes "00042") ≡ None
digits_many = refl
