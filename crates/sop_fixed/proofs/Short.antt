-- Digits that are read one by one into 64 bits.
use Rattle.std.proofs.Common.{◌≡◌, ℕ, ◌+◌, ◌-◌, ◌*◌, ◌^◌, ◌≤◌, ◌<◌, List, ◌∷◌, length, drop, drop-cons, get_or, add-one, ◌++◌, Bool, if◌then◌else◌, Some, None, ap, sym, ◌∙◌, subst, arith, true, false, refl}
use Rattle.std.proofs.lemmas.Bool.{and_from}
use Rattle.std.proofs.lemmas.Grind.{common_steps}
use Rattle.std.proofs.Math.Nat.{one-le-pow, pow-succ', mul-le-mul_right, mul-le-mul_left, pow-le-pow_right}
use Rattle.std.proofs.lemmas.Nat.{pow-add}
use Rattle.std.specs.Char.{is_ascii_digit}
use Rattle.sop_fixed.specs.Numerals.{are_digits, number_of}
use Rattle.sop_fixed.proofs.NumberOf.{digit_below, few_below, number_below, number_of-append}

-- n is what the digits before `rest` make of the start, and all of them fit
abbrev pub IsShort : (start n : ℕ) (digits rest : List ℕ) → Type 0
IsShort start n digits rest =
    ((n + 1) * 10 ^ length rest ≤ 10 ^ 19)
    × (n * 10 ^ length rest + number_of rest ≡ start * 10 ^ length digits + number_of digits)
    × (are_digits rest ≡ are_digits digits)

short_more : (start n b : ℕ) (digits rest : List ℕ) → is_ascii_digit b ≡ true → IsShort start n digits (b ∷ rest) → IsShort start (n * 10 + (b - 48)) digits rest
short_more start n b digits rest digit h =
    let p : 10 ^ length (b ∷ rest) ≡ 10 * 10 ^ length rest = pow-succ' 10 (length rest) in
    let low = (digit_below b true (and_from _ _ digit refl)).0 in
    let room : (n + 1) * (10 * 10 ^ length rest) ≤ 10 ^ 19 = subst (λ k. (n + 1) * k ≤ 10 ^ 19) p h.0 in
    let less : (n * 10 + (b - 48) + 1) * 10 ^ length rest ≤ ((n + 1) * 10) * 10 ^ length rest = mul-le-mul_right (10 ^ length rest) (omega (arith, low)) in
    let value : n * (10 * 10 ^ length rest) + ((b - 48) * 10 ^ length rest + number_of rest) ≡ start * 10 ^ length digits + number_of digits = sym (ap (λ k. n * k + ((b - 48) * 10 ^ length rest + number_of rest)) p) ∙ h.1 in
    let same : are_digits (b ∷ rest) ≡ are_digits rest = rw digit refl in
    (omega (arith, room, less), omega (arith, value), sym same ∙ h.2)

short_from : (digits : List ℕ) (i : ℕ) → i < length digits → drop i digits ≡ get_or digits i 0 ∷ drop (i + 1) digits
short_from digits i h = rw (add-one, drop-cons digits i 0) refl

pub short_on : (start n i : ℕ) (digits : List ℕ) → i < length digits → is_ascii_digit (get_or digits i 0) ≡ true → IsShort start n digits (drop i digits) → IsShort start (n * 10 + (get_or digits i 0 - 48)) digits (drop (i + 1) digits)
short_on start n i digits h digit kept = short_more start n (get_or digits i 0) digits (drop (i + 1) digits) digit (subst (IsShort start n digits) (short_from digits i h) kept)

-- ten times as much fits
pub short_room : (start n i : ℕ) (digits : List ℕ) → i < length digits → IsShort start n digits (drop i digits) → n * 10 + 10 ≤ 10 ^ 19
short_room start n i digits h kept =
    let room : (n + 1) * 10 ^ length (get_or digits i 0 ∷ drop (i + 1) digits) ≤ 10 ^ 19 = (subst (IsShort start n digits) (short_from digits i h) kept).0 in
    let p : 10 ^ length (get_or digits i 0 ∷ drop (i + 1) digits) ≡ 10 * 10 ^ length (drop (i + 1) digits) = pow-succ' 10 (length (drop (i + 1) digits)) in
    let least : (n + 1) * 10 * 1 ≤ (n + 1) * 10 * 10 ^ length (drop (i + 1) digits) = mul-le-mul_left ((n + 1) * 10) (one-le-pow (length (drop (i + 1) digits)) 10 (omega arith)) in
    let all : (n + 1) * (10 * 10 ^ length (drop (i + 1) digits)) ≤ 10 ^ 19 = subst (λ k. (n + 1) * k ≤ 10 ^ 19) p room in
    omega (arith, least, all)

-- and the digit behind it
pub short_digit_room : (start n i digit : ℕ) (digits : List ℕ) → i < length digits → is_ascii_digit (get_or digits i 0) ≡ true → digit ≡ get_or digits i 0 - 48 → IsShort start n digits (drop i digits) → n * 10 + digit < 10 ^ 19
short_digit_room start n i digit digits h is d kept = omega (arith, short_room start n i digits h kept, d, (digit_below (get_or digits i 0) true (and_from _ _ is refl)).0)

some_of : (b : Bool) (n m : ℕ) → (if b then Some n else None) ≡ Some m → (b ≡ true) × (m ≡ n)
some_of true n m h = (refl, (let e : m ≡ n = grind (arith, common_steps, h) in e))
some_of false n m h = absurd (let f : ⊥ = grind (arith, common_steps, h) in f)

-- what is told by an answer
pub short_some : (start number : ℕ) (digits : List ℕ) → (if are_digits digits then Some (start * 10 ^ length digits + number_of digits) else None) ≡ Some number
    → (are_digits digits ≡ true) × (number ≡ start * 10 ^ length digits + number_of digits)
short_some start number digits = some_of (are_digits digits) (start * 10 ^ length digits + number_of digits) number

-- the second part's digits fit behind the first's
pub second_fits : (whole : List ℕ) (front k : ℕ) → are_digits whole ≡ true → front ≡ 0 * 10 ^ length whole + number_of whole → length whole ≤ 12 → k ≤ 6 → (front + 1) * 10 ^ k ≤ 10 ^ 19
second_fits whole front k all f few short =
    let below : number_of whole < 10 ^ 12 = few_below whole 12 all few in
    let least : 10 ^ k ≤ 10 ^ 6 = pow-le-pow_right (omega arith) short in
    let a : (front + 1) * 10 ^ k ≤ 10 ^ 12 * 10 ^ k = mul-le-mul_right (10 ^ k) (omega (arith, f, below)) in
    let b : 10 ^ 12 * 10 ^ k ≤ 10 ^ 12 * 10 ^ 6 = mul-le-mul_left (10 ^ 12) least in
    omega (arith, a, b)

-- and all of them, raised to millionths
pub raised_fits : (whole : List ℕ) (front number : ℕ) (digits : List ℕ) → are_digits whole ≡ true → front ≡ 0 * 10 ^ length whole + number_of whole → length whole ≤ 12
    → are_digits digits ≡ true → number ≡ front * 10 ^ length digits + number_of digits → length digits ≤ 6 → number * 10 ^ (6 - length digits) < 10 ^ 18
raised_fits whole front number digits all f few alls n short =
    let k = length digits in
    let below : number_of whole < 10 ^ 12 = few_below whole 12 all few in
    let rest : number_of digits < 10 ^ k = number_below digits alls in
    let p : 10 ^ k * 10 ^ (6 - k) ≡ 10 ^ 6 = sym (pow-add 10 k (6 - k)) ∙ ap (λ e. 10 ^ e) (let e : k + (6 - k) ≡ 6 = omega (arith, short) in e) in
    let m : (front + 1) * 10 ^ k ≤ 10 ^ 12 * 10 ^ k = mul-le-mul_right (10 ^ k) (omega (arith, f, below)) in
    let less : number + 1 ≤ 10 ^ 12 * 10 ^ k = omega (arith, n, rest, m) in
    let up : (number + 1) * 10 ^ (6 - k) ≤ (10 ^ 12 * 10 ^ k) * 10 ^ (6 - k) = mul-le-mul_right (10 ^ (6 - k)) less in
    let one : 1 ≤ 10 ^ (6 - k) = one-le-pow (6 - k) 10 (omega arith) in
    let q : (10 ^ 12 * 10 ^ k) * 10 ^ (6 - k) ≡ 10 ^ 12 * (10 ^ k * 10 ^ (6 - k)) = omega arith in
    let r : 10 ^ 12 * (10 ^ k * 10 ^ (6 - k)) ≡ 10 ^ 12 * 10 ^ 6 = ap (λ x. 10 ^ 12 * x) p in
    omega (arith, up, one, q, r)

-- the number of both parts
pub both_parts : (whole digits : List ℕ) (front number : ℕ) → front ≡ 0 * 10 ^ length whole + number_of whole → number ≡ front * 10 ^ length digits + number_of digits → number ≡ number_of (whole ++ digits)
both_parts whole digits front number f n =
    n ∙ ap (λ x. x * 10 ^ length digits + number_of digits) (f ∙ (let e : 0 * 10 ^ length whole + number_of whole ≡ number_of whole = omega arith in e))
    ∙ sym (number_of-append whole digits)
