-- What a number prints as reads back as that number.
use Rattle.std.proofs.Common.{◌≡◌, ℕ, ◌+◌, ◌-◌, ◌*◌, ◌/◌, ◌%◌, ◌^◌, ◌≤◌, ◌<◌, min, List, None, is_some, position, [], ◌∷◌, ◌++◌, length, length-append, append-nil, take, drop, replicate, reverse, get_or, ap, sym, ◌∙◌, arith, rules, Bool, true, false, not, ◌||◌, ◌==◌, if◌then◌else◌, refl, suc, zero, decimal, ℤ, pos, negsuc, unsigned_abs, Ok, Err, nat_le, nat_lt}
use Rattle.std.proofs.lemmas.Nat.{pow-add}
use Rattle.std.proofs.lemmas.Bool.{and_from, and_parts}
use Rattle.std.proofs.lemmas.Grind.{common_steps}
use Rattle.std.proofs.lemmas.Fmt.{digits_decimal, digits_value-decimal, decimal_nonempty, length-decimal-le}
use Rattle.std.proofs.lemmas.Str.Parse.{IsNumeralModel, numerals_by_weight}
use Rattle.std.proofs.lemmas.List.{drop_all, take-append-drop, length-drop, length-replicate, length-take-le, get_or-reverse, get_or-replicate, get_or-drop}
use Rattle.std.proofs.lemmas.List.Folds.{list_all-append}
use Rattle.std.proofs.lemmas.List.Sums.{prefix_len_passes, suffix_len-le-length}
use Rattle.std.proofs.Math.Seq.{take-append_seam, drop-append-add, take-length}
use Rattle.std.specs.List.{list_all, prefix_len, suffix_len, before_first, after_first}
use Rattle.std.specs.Char.{is_ascii_digit}
use Rattle.sop_fixed.specs.Numbers.{signed, is_negative, nearest, largest_size}
use Rattle.sop_fixed.specs.Numerals.{number_of, is_sign, is_point, is_exponent_mark, is_some_digits, has_minus, after_sign, whole_of, fraction_of, in_range, value_of, mantissa_of, exponent_of, has_exponent, six_digits, is_zero_digit, without_last_zeros, fraction_text, sign_text, decimal_of}
use Rattle.sop_fixed.specs.declared.fault.NumeralFault.TheVariants.{OutOfRange}
use Rattle.sop_fixed.proofs.NumberOf.{number_of-append}
use Rattle.sop_fixed.proofs.Rounding.{nearest_whole}
use Rattle.sop_fixed.proofs.Reading.{value_of_parts}

own : IsNumeralModel (λ ds. list_all is_ascii_digit ds ≡ true) number_of
own = numerals_by_weight _ (search rules) number_of (search rules)

digits-decimal : (n : ℕ) → n < 2 ^ 64 → list_all is_ascii_digit (decimal n) ≡ true
digits-decimal n h = digits_decimal own n h

number_of-decimal : (n : ℕ) → n < 2 ^ 64 → number_of (decimal n) ≡ n
number_of-decimal n h = digits_value-decimal own n h

-- a run of zeros

number_of_zeros : (xs : List ℕ) → ((j : ℕ) → j < length xs → is_zero_digit (get_or xs j 0) ≡ true) → number_of xs ≡ 0
number_of_zeros [] zeros = refl
number_of_zeros (x ∷ xs) zeros =
    let first : x ≡ 48 = (let z : is_zero_digit x ≡ true = zeros 0 (omega arith) in grind (arith, common_steps)) in
    let rest : number_of xs ≡ 0 = number_of_zeros xs (λ j h. zeros (suc j) (omega (arith, h))) in
    ap (λ y. (y - 48) * 10 ^ length xs + number_of xs) first ∙ omega (arith, rest)

number_of_replicate : (n : ℕ) → number_of (replicate n 48) ≡ 0
number_of_replicate n = number_of_zeros (replicate n 48) (λ j h. ap is_zero_digit (get_or-replicate n j 48 0 (omega (arith, h, length-replicate {A = ℕ} n 48))))

digits_of_replicate : (n : ℕ) → list_all is_ascii_digit (replicate n 48) ≡ true
digits_of_replicate zero = refl
digits_of_replicate (suc n) = digits_of_replicate n

-- each place behind the last digit that isn't zero holds a zero
zero_behind : (xs : List ℕ) (j : ℕ) → length xs - suffix_len is_zero_digit xs ≤ j → j < length xs → is_zero_digit (get_or xs j 0) ≡ true
zero_behind xs j behind within =
    let most : suffix_len is_zero_digit xs ≤ length xs = suffix_len-le-length is_zero_digit xs in
    let back : length xs - 1 - j < prefix_len is_zero_digit (reverse xs) = omega arith in
    let e : get_or (reverse xs) (length xs - 1 - j) 0 ≡ get_or xs j 0 = get_or-reverse xs (length xs - 1 - j) 0 (omega arith) ∙ ap (λ k. get_or xs k 0) (omega arith) in
    ap is_zero_digit (sym e) ∙ prefix_len_passes is_zero_digit (reverse xs) (length xs - 1 - j) 0 back

-- the zeros at the end, cut and put back
number_of-without_last_zeros : (xs : List ℕ) → number_of xs ≡ number_of (without_last_zeros xs) * 10 ^ (length xs - length (without_last_zeros xs))
number_of-without_last_zeros xs =
    let kept = length xs - suffix_len is_zero_digit xs in
    let zeros : number_of (drop kept xs) ≡ 0 = number_of_zeros (drop kept xs) (λ j h.
    ap is_zero_digit (get_or-drop kept xs j 0) ∙ zero_behind xs (kept + j) (omega arith) (omega (arith, h, length-drop kept xs))) in
    let len : length xs - length (take kept xs) ≡ length (drop kept xs) = omega (arith, length-take-le kept xs (omega arith), length-drop kept xs) in
    ap number_of (sym (take-append-drop kept xs)) ∙ number_of-append (take kept xs) (drop kept xs)
    ∙ ap (λ n. number_of (take kept xs) * 10 ^ length (drop kept xs) + n) zeros
    ∙ ap (λ n. number_of (take kept xs) * 10 ^ n + 0) (sym len)
    ∙ (let z : number_of (take kept xs) * 10 ^ (length xs - length (take kept xs)) + 0 ≡ number_of (take kept xs) * 10 ^ (length xs - length (take kept xs)) = omega arith in z)

digits_of-without_last_zeros : (xs : List ℕ) → list_all is_ascii_digit xs ≡ true → list_all is_ascii_digit (without_last_zeros xs) ≡ true
digits_of-without_last_zeros xs h =
    let kept = length xs - suffix_len is_zero_digit xs in
    (and_parts _ (list_all is_ascii_digit (drop kept xs)) (sym (list_all-append is_ascii_digit (take kept xs) (drop kept xs)) ∙ ap (list_all is_ascii_digit) (take-append-drop kept xs) ∙ h)).0

-- the six digits of a fraction

length-six_digits : (n : ℕ) → n < 1000000 → length (six_digits n) ≡ 6
length-six_digits n h =
    let few : length (decimal n) ≤ 6 = length-decimal-le 6 n (omega arith) h (omega arith) in
    omega (arith, few, length-append (replicate (6 - length (decimal n)) 48) (decimal n), length-replicate {A = ℕ} (6 - length (decimal n)) 48)

number_of-six_digits : (n : ℕ) → n < 1000000 → number_of (six_digits n) ≡ n
number_of-six_digits n h =
    number_of-append (replicate (6 - length (decimal n)) 48) (decimal n)
    ∙ ap (λ k. k * 10 ^ length (decimal n) + number_of (decimal n)) (number_of_replicate (6 - length (decimal n)))
    ∙ (let z : 0 * 10 ^ length (decimal n) + number_of (decimal n) ≡ n = omega (arith, number_of-decimal n (omega arith)) in z)

digits_of-six_digits : (n : ℕ) → n < 1000000 → list_all is_ascii_digit (six_digits n) ≡ true
digits_of-six_digits n h = list_all-append is_ascii_digit (replicate (6 - length (decimal n)) 48) (decimal n) ∙ and_from _ _ (digits_of_replicate (6 - length (decimal n))) (digits-decimal n (omega arith))

some_digits : (units places : List ℕ) → 0 < length units → list_all is_ascii_digit units ≡ true → list_all is_ascii_digit places ≡ true → is_some_digits (units ++ places) ≡ true
some_digits units places some u p =
    and_from _ _ (let z : nat_lt 0 (length (units ++ places)) ≡ true = grind (arith, length-append units places) in z) (list_all-append is_ascii_digit units places ∙ and_from _ _ u p)

-- where a text has no byte that passes

weaker : (p q : ℕ → Bool) → ((b : ℕ) → p b ≡ true → q b ≡ true) → (xs : List ℕ) → list_all p xs ≡ true → list_all q xs ≡ true
weaker p q more [] h = refl
weaker p q more (x ∷ xs) h = and_from (q x) (list_all q xs) (more x (and_parts (p x) (list_all p xs) h).0) (weaker p q more xs (and_parts (p x) (list_all p xs) h).1)

prefix_len_all : (p : ℕ → Bool) (xs : List ℕ) → list_all p xs ≡ true → prefix_len p xs ≡ length xs
prefix_len_all p [] h = refl
prefix_len_all p (x ∷ xs) h =
    let rest : prefix_len p xs ≡ length xs = prefix_len_all p xs (and_parts (p x) (list_all p xs) h).1 in
    ap (λ b. if b then 1 + prefix_len p xs else 0) (and_parts (p x) (list_all p xs) h).0 ∙ omega (arith, rest)

prefix_len_seam : (p : ℕ → Bool) (xs : List ℕ) (b : ℕ) (ys : List ℕ) → list_all p xs ≡ true → p b ≡ false → prefix_len p (xs ++ b ∷ ys) ≡ length xs
prefix_len_seam p [] b ys h fails = ap (λ c. if c then 1 + prefix_len p ys else 0) fails
prefix_len_seam p (x ∷ xs) b ys h fails =
    let rest : prefix_len p (xs ++ b ∷ ys) ≡ length xs = prefix_len_seam p xs b ys (and_parts (p x) (list_all p xs) h).1 fails in
    ap (λ c. if c then 1 + prefix_len p (xs ++ b ∷ ys) else 0) (and_parts (p x) (list_all p xs) h).0 ∙ omega (arith, rest)

digit_no_mark : (b : ℕ) → is_ascii_digit b ≡ true → not (is_exponent_mark b) ≡ true
digit_no_mark b h = grind (arith, common_steps)

digit_no_point : (b : ℕ) → is_ascii_digit b ≡ true → not (is_point b) ≡ true
digit_no_point b h = grind (arith, common_steps)

digit_no_sign : (b : ℕ) → is_ascii_digit b ≡ true → is_sign b ≡ false
digit_no_sign b h = grind (arith, common_steps)

digit_no_minus : (b : ℕ) → is_ascii_digit b ≡ true → (b == 45) ≡ false
digit_no_minus b h = grind (arith, common_steps)

-- the parts of a printed text: digits of the units, and digits behind a point or nothing

no_mark : (units places : List ℕ) → list_all is_ascii_digit units ≡ true → list_all is_ascii_digit places ≡ true → list_all (λ b. not (is_exponent_mark b)) (units ++ fraction_text places) ≡ true
no_mark units [] u p = list_all-append (λ b. not (is_exponent_mark b)) units [] ∙ and_from _ _ (weaker is_ascii_digit _ digit_no_mark units u) refl
no_mark units (d ∷ ds) u p = list_all-append (λ b. not (is_exponent_mark b)) units (46 ∷ d ∷ ds) ∙ and_from _ _ (weaker is_ascii_digit _ digit_no_mark units u) (weaker is_ascii_digit _ digit_no_mark (d ∷ ds) p)

mantissa-printed : (xs : List ℕ) → list_all (λ b. not (is_exponent_mark b)) xs ≡ true → before_first is_exponent_mark xs ≡ xs
mantissa-printed xs h = ap (λ n. take n xs) (prefix_len_all (λ b. not (is_exponent_mark b)) xs h) ∙ take-length xs

exponent-printed : (xs : List ℕ) → list_all (λ b. not (is_exponent_mark b)) xs ≡ true → after_first is_exponent_mark xs ≡ []
exponent-printed xs h = ap (λ n. drop (n + 1) xs) (prefix_len_all (λ b. not (is_exponent_mark b)) xs h) ∙ drop_all (length xs + 1) xs (omega arith)

no_exponent-printed : (xs : List ℕ) → list_all (λ b. not (is_exponent_mark b)) xs ≡ true → is_some (position is_exponent_mark xs) ≡ false
no_exponent-printed xs h =
    let e : prefix_len (λ b. not (is_exponent_mark b)) xs ≡ length xs = prefix_len_all (λ b. not (is_exponent_mark b)) xs h in
    let none : position is_exponent_mark xs ≡ None = grind (arith, common_steps) in
    ap is_some none

whole-printed : (units places : List ℕ) → list_all is_ascii_digit units ≡ true → whole_of (units ++ fraction_text places) ≡ units
whole-printed units [] u = ap whole_of (append-nil units) ∙ ap (λ n. take n units) (prefix_len_all (λ b. not (is_point b)) units (weaker is_ascii_digit _ digit_no_point units u)) ∙ take-length units
whole-printed units (d ∷ ds) u =
    ap (λ n. take n (units ++ 46 ∷ d ∷ ds)) (prefix_len_seam (λ b. not (is_point b)) units 46 (d ∷ ds) (weaker is_ascii_digit _ digit_no_point units u) refl) ∙ take-append_seam units (46 ∷ d ∷ ds)

fraction-printed : (units places : List ℕ) → list_all is_ascii_digit units ≡ true → fraction_of (units ++ fraction_text places) ≡ places
fraction-printed units [] u = ap fraction_of (append-nil units) ∙ ap (λ n. drop (n + 1) units) (prefix_len_all (λ b. not (is_point b)) units (weaker is_ascii_digit _ digit_no_point units u)) ∙ drop_all (length units + 1) units (omega arith)
fraction-printed units (d ∷ ds) u =
    ap (λ n. drop (n + 1) (units ++ 46 ∷ d ∷ ds)) (prefix_len_seam (λ b. not (is_point b)) units 46 (d ∷ ds) (weaker is_ascii_digit _ digit_no_point units u) refl) ∙ drop-append-add units (46 ∷ d ∷ ds) 1

after_sign-printed : (negative : Bool) (units rest : List ℕ) → 0 < length units → list_all is_ascii_digit units ≡ true → after_sign (sign_text negative ++ units ++ rest) ≡ units ++ rest
after_sign-printed true units rest some h = refl
after_sign-printed false [] rest some h = absurd (omega arith)
after_sign-printed false (d ∷ ds) rest some h = ap (λ b. if b then ds ++ rest else d ∷ (ds ++ rest)) (digit_no_sign d (and_parts (is_ascii_digit d) (list_all is_ascii_digit ds) h).0)

has_minus-printed : (negative : Bool) (units rest : List ℕ) → 0 < length units → list_all is_ascii_digit units ≡ true → has_minus (sign_text negative ++ units ++ rest) ≡ negative
has_minus-printed true units rest some h = refl
has_minus-printed false [] rest some h = absurd (omega arith)
has_minus-printed false (d ∷ ds) rest some h = digit_no_minus d (and_parts (is_ascii_digit d) (list_all is_ascii_digit ds) h).0

size-printed : (units places : List ℕ) (whole fraction : ℕ) → number_of units ≡ whole → length places ≤ 6 → fraction ≡ number_of places * 10 ^ (6 - length places)
    → nearest (number_of (units ++ places) * 10 ^ (6 + 0)) (10 ^ (length places + 0)) ≡ whole * 1000000 + fraction
size-printed units places whole fraction u short p =
    let t = length places in
    let both : number_of (units ++ places) ≡ number_of units * 10 ^ t + number_of places = number_of-append units places in
    let power : 10 ^ t * 10 ^ (6 - t) ≡ 1000000 = sym (pow-add 10 t (6 - t)) ∙ ap (λ n. 10 ^ n) (let e : t + (6 - t) ≡ 6 = omega arith in e) in
    ap (λ n. nearest (number_of (units ++ places) * 10 ^ 6) (10 ^ n)) (let z : t + 0 ≡ t = omega arith in z)
    ∙ nearest_whole (number_of (units ++ places)) 6 t short
    ∙ ap (λ n. n * 10 ^ (6 - t)) both
    ∙ (let spread : (number_of units * 10 ^ t + number_of places) * 10 ^ (6 - t) ≡ number_of units * (10 ^ t * 10 ^ (6 - t)) + number_of places * 10 ^ (6 - t) = omega arith in spread)
    ∙ ap (λ n. number_of units * n + number_of places * 10 ^ (6 - t)) power
    ∙ omega (arith, u, p)

in_range_real : (x : ℤ) → unsigned_abs x ≤ largest_size → in_range x ≡ Ok x
in_range_real x h =
    let within : nat_le (unsigned_abs x) largest_size ≡ true = grind arith in
    ap (λ b. if b then Ok x else Err OutOfRange) within

signed_of_abs : (x : ℤ) → signed (is_negative x) (unsigned_abs x) ≡ x
signed_of_abs (pos n) = grind (arith, common_steps)
signed_of_abs (negsuc n) = refl

pub reads_back : (x : ℤ) → unsigned_abs x ≤ largest_size → value_of (decimal_of x) ≡ Ok x
reads_back x h =
    let size = unsigned_abs x in
    let units = decimal (size / 1000000) in
    let six = six_digits (size % 1000000) in
    let places = without_last_zeros six in
    let text = units ++ fraction_text places in
    let fits : size % 1000000 < 1000000 = omega arith in
    let u : list_all is_ascii_digit units ≡ true = digits-decimal (size / 1000000) (omega arith) in
    let some : 0 < length units = decimal_nonempty (size / 1000000) (omega arith) in
    let p : list_all is_ascii_digit places ≡ true = digits_of-without_last_zeros six (digits_of-six_digits (size % 1000000) fits) in
    let after : after_sign (decimal_of x) ≡ text = after_sign-printed (is_negative x) units (fraction_text places) some u in
    let minus : has_minus (decimal_of x) ≡ is_negative x = has_minus-printed (is_negative x) units (fraction_text places) some u in
    let unmarked = no_mark units places u p in
    let mantissa : mantissa_of (decimal_of x) ≡ text = ap (before_first is_exponent_mark) after ∙ mantissa-printed text unmarked in
    let exponent : exponent_of (decimal_of x) ≡ [] = ap (after_first is_exponent_mark) after ∙ exponent-printed text unmarked in
    let plain : has_exponent (decimal_of x) ≡ false = ap (λ l. is_some (position is_exponent_mark l)) after ∙ no_exponent-printed text unmarked in
    let six_long = length-six_digits (size % 1000000) fits in
    let short : length places ≤ 6 = omega (arith, six_long, length-take-le (length six - suffix_len is_zero_digit six) six (omega arith)) in
    let fraction : size % 1000000 ≡ number_of places * 10 ^ (6 - length places) =
    sym (number_of-six_digits (size % 1000000) fits) ∙ number_of-without_last_zeros six ∙ ap (λ n. number_of places * 10 ^ (n - length places)) six_long in
    let printed : size ≡ min (nearest (number_of (units ++ places) * 10 ^ (6 + 0)) (10 ^ (length places + 0))) 10000000000000000 =
    omega (arith, size-printed units places (size / 1000000) (size % 1000000) (number_of-decimal (size / 1000000) (omega arith)) short fraction) in
    sym (value_of_parts (decimal_of x) units places [] 0 0 (length (units ++ places) + 32) 10000000000000000 size
    (sym (ap whole_of mantissa ∙ whole-printed units places u)) (sym (ap fraction_of mantissa ∙ fraction-printed units places u)) (sym exponent)
    (some_digits units places some u p)
    (ap (λ b. not b || is_some_digits []) plain)
    (omega arith) (omega arith) (omega arith) (omega arith) (omega arith) printed)
    ∙ ap (λ b. in_range (signed b size)) minus ∙ ap in_range (signed_of_abs x) ∙ in_range_real x h
