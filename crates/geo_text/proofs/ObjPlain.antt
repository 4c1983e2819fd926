-- The words of a text that is written are plain.
use Rattle.std.proofs.Common.{◌≡◌, ℕ, zero, suc, ◌-◌, ◌/◌, ◌%◌, ◌^◌, ◌<◌, ◌≤◌, List, [], ◌∷◌, ◌++◌, length, take, replicate, refl, arith, rules, Bool, true, false, not, ℤ, unsigned_abs}
use Rattle.std.specs.Prelude.{◌&&◌, ◌==◌, codes, decimal, if◌then◌else◌}
use Rattle.std.specs.List.{list_all, suffix_len, items_where_true}
use Rattle.std.specs.Char.{is_ascii_digit}
use Rattle.std.proofs.lemmas.Bool.{and_parts, and_from}
use Rattle.std.proofs.lemmas.Bool.Decides.{nat_tests}
use Rattle.std.proofs.lemmas.Fmt.{digits_decimal, decimal_nonempty}
use Rattle.std.proofs.lemmas.Str.Parse.{IsNumeralModel, numerals_by_weight}
use Rattle.sop_fixed.specs.declared.vec3.Vec3.{Vec3}
use Rattle.sop_fixed.specs.Numbers.{is_negative, largest_size}
use Rattle.sop_fixed.specs.Numerals.{number_of, six_digits, is_zero_digit, without_last_zeros, fraction_text, sign_text, decimal_of}
use Rattle.sop_model.specs.Names.{is_name, starts_name, continues_name}
use Rattle.geo_text.specs.declared.obj_writer.Parts.{Parts}
use Rattle.geo_text.specs.ObjText.{parts_text}
use Rattle.geo_text.specs.ObjWords.{is_plain_byte, is_plain_word, are_plain_words, vector_words}
use Rattle.geo_text.specs.ObjRange.{IsRealVector}

own : IsNumeralModel (λ ds. list_all is_ascii_digit ds ≡ true) number_of
own = numerals_by_weight _ (search rules) number_of (search rules)

abbrev is_inside : List ℕ → Bool
is_inside word = list_all is_plain_byte word

digit_plain : (b : ℕ) → is_ascii_digit b ≡ true → is_plain_byte b ≡ true
digit_plain b h = grind (arith, nat_tests)

digit_word : (b : ℕ) → is_ascii_digit b ≡ true → not (b == 35) ≡ true
digit_word b h = grind (arith, nat_tests)

digits_inside : (ds : List ℕ) → list_all is_ascii_digit ds ≡ true → is_inside ds ≡ true
digits_inside [] h = refl
digits_inside (d ∷ ds) h =
    let parts = and_parts (is_ascii_digit d) (list_all is_ascii_digit ds) h in and_from (is_plain_byte d) (is_inside ds) (digit_plain d parts.0) (digits_inside ds parts.1)

inside_append : (xs ys : List ℕ) → is_inside xs ≡ true → is_inside ys ≡ true → is_inside (xs ++ ys) ≡ true
inside_append [] ys a b = b
inside_append (x ∷ xs) ys a b = let parts = and_parts (is_plain_byte x) (is_inside xs) a in and_from (is_plain_byte x) (is_inside (xs ++ ys)) parts.0 (inside_append xs ys parts.1 b)

pub plain_append : (xs ys : List ℕ) → is_plain_word xs ≡ true → is_inside ys ≡ true → is_plain_word (xs ++ ys) ≡ true
plain_append [] ys a b = cc
plain_append (x ∷ xs) ys a b =
    let parts = and_parts (not (x == 35)) (is_inside (x ∷ xs)) a in and_from (not (x == 35)) (is_inside (x ∷ xs ++ ys)) parts.0 (inside_append (x ∷ xs) ys parts.1 b)

digits_word : (ds : List ℕ) → 0 < length ds → list_all is_ascii_digit ds ≡ true → is_plain_word ds ≡ true
digits_word [] some h = absurd (omega arith)
digits_word (d ∷ ds) some h =
    let parts = and_parts (is_ascii_digit d) (list_all is_ascii_digit ds) h in
    and_from (not (d == 35)) (is_inside (d ∷ ds)) (digit_word d parts.0) (digits_inside (d ∷ ds) h)

pub decimal_plain : (n : ℕ) → n < 2 ^ 64 → is_plain_word (decimal n) ≡ true
decimal_plain n h = digits_word (decimal n) (decimal_nonempty n h) (digits_decimal own n h)

decimal_inside : (n : ℕ) → n < 2 ^ 64 → is_inside (decimal n) ≡ true
decimal_inside n h = digits_inside (decimal n) (digits_decimal own n h)

zeros_inside : (n : ℕ) → is_inside (replicate n 48) ≡ true
zeros_inside zero = refl
zeros_inside (suc n) = zeros_inside n

take_inside : (n : ℕ) (xs : List ℕ) → is_inside xs ≡ true → is_inside (take n xs) ≡ true
take_inside zero xs h = refl
take_inside (suc n) [] h = refl
take_inside (suc n) (x ∷ xs) h = let parts = and_parts (is_plain_byte x) (is_inside xs) h in and_from (is_plain_byte x) (is_inside (take n xs)) parts.0 (take_inside n xs parts.1)

fraction_inside : (places : List ℕ) → is_inside places ≡ true → is_inside (fraction_text places) ≡ true
fraction_inside [] h = refl
fraction_inside (d ∷ places) h = h

signed_plain : (negative : Bool) (units rest : List ℕ) → is_plain_word units ≡ true → is_inside rest ≡ true → is_plain_word (sign_text negative ++ units ++ rest) ≡ true
signed_plain false units rest u r = plain_append units rest u r
signed_plain true [] rest u r = cc
signed_plain true (b ∷ units) rest u r =
    let parts = and_parts (not (b == 35)) (is_inside (b ∷ units)) u in inside_append (b ∷ units) rest parts.1 r

pub real_plain : (x : ℤ) → unsigned_abs x ≤ largest_size → is_plain_word (decimal_of x) ≡ true
real_plain x h =
    let size = unsigned_abs x in
    let rest = size % 1000000 in
    let fits : rest < 1000000 = omega arith in
    let small : rest < 2 ^ 64 = omega (arith, fits) in
    let units = decimal_plain (size / 1000000) (omega arith) in
    let six = inside_append (replicate (6 - length (decimal rest)) 48) (decimal rest) (zeros_inside (6 - length (decimal rest))) (decimal_inside rest small) in
    signed_plain (is_negative x) (decimal (size / 1000000)) (fraction_text (without_last_zeros (six_digits rest))) units
    (fraction_inside (without_last_zeros (six_digits rest)) (take_inside (length (six_digits rest) - suffix_len is_zero_digit (six_digits rest)) (six_digits rest) six))

pub vector_plain : (v : Vec3) → IsRealVector v → are_plain_words (vector_words v) ≡ true
vector_plain v real =
    and_from (is_plain_word (decimal_of v.x)) (are_plain_words (decimal_of v.y ∷ decimal_of v.z ∷ [])) (real_plain v.x real.0)
    (and_from (is_plain_word (decimal_of v.y)) (are_plain_words (decimal_of v.z ∷ [])) (real_plain v.y real.1) (and_from (is_plain_word (decimal_of v.z)) true (real_plain v.z real.2) refl))

parts_inside : (parts : Parts) (k : ℕ) → k < 2 ^ 64 → is_inside (parts_text parts k) ≡ true
parts_inside parts k h = cases parts.texture parts.normal
  where
    cases : (t n : Bool) → is_inside (if t then (if n then codes "/" ++ decimal k ++ codes "/" ++ decimal k else codes "/" ++ decimal k) else (if n then codes "//" ++ decimal k else [])) ≡ true
    cases true true = inside_append (codes "/" ++ decimal k ++ codes "/") (decimal k) (inside_append (codes "/" ++ decimal k) (codes "/") (decimal_inside k h) refl) (decimal_inside k h)
    cases true false = decimal_inside k h
    cases false true = decimal_inside k h
    cases false false = refl

pub reference_plain : (parts : Parts) (point k : ℕ) → point < 2 ^ 64 → k < 2 ^ 64 → is_plain_word (decimal point ++ parts_text parts k) ≡ true
reference_plain parts point k h i = plain_append (decimal point) (parts_text parts k) (decimal_plain point h) (parts_inside parts k i)

-- ---- names
name_byte : (b : ℕ) → continues_name b ≡ true → is_plain_byte b ≡ true
name_byte b h = grind (arith, nat_tests)

name_first : (b : ℕ) → starts_name b ≡ true → (not (b == 35) && is_plain_byte b) ≡ true
name_first b h = grind (arith, nat_tests)

name_inside : (name : List ℕ) → list_all continues_name name ≡ true → is_inside name ≡ true
name_inside [] h = refl
name_inside (b ∷ name) h = let parts = and_parts (continues_name b) (list_all continues_name name) h in and_from (is_plain_byte b) (is_inside name) (name_byte b parts.0) (name_inside name parts.1)

pub name_plain : (name : List ℕ) → is_name name ≡ true → is_plain_word name ≡ true
name_plain [] h = cc
name_plain (b ∷ name) h =
    let outer = and_parts (starts_name b && list_all continues_name name) _ h in
    let inner = and_parts (starts_name b) (list_all continues_name name) outer.0 in
    let first = and_parts (not (b == 35)) (is_plain_byte b) (name_first b inner.0) in
    and_from (not (b == 35)) (is_inside (b ∷ name)) first.0 (and_from (is_plain_byte b) (is_inside name) first.1 (name_inside name inner.1))

pub chosen_plain : (flags : List Bool) (names : List (List ℕ)) → list_all is_name names ≡ true → are_plain_words (items_where_true flags names) ≡ true
chosen_plain [] names h = refl
chosen_plain (f ∷ flags) [] h = refl
chosen_plain (true ∷ flags) (name ∷ names) h =
    let parts = and_parts (is_name name) (list_all is_name names) h in and_from (is_plain_word name) (are_plain_words (items_where_true flags names)) (name_plain name parts.0) (chosen_plain flags names parts.1)
chosen_plain (false ∷ flags) (name ∷ names) h = chosen_plain flags names (and_parts (is_name name) (list_all is_name names) h).1
