-- The number that digits say, and how many digits bound it.
use Rattle.std.proofs.Common.{◌≡◌, ℕ, ◌+◌, ◌-◌, ◌*◌, ◌^◌, ◌≤◌, ◌<◌, List, [], ◌∷◌, ◌++◌, length, length-append, ap, ◌∙◌, arith, Bool, true, ◌&&◌}
use Rattle.std.proofs.lemmas.Nat.{pow-add}
use Rattle.std.proofs.lemmas.Grind.{common_steps}
use Rattle.std.proofs.Math.Nat.{pow-succ', mul-le-mul_right, pow-le-pow_right}
use Rattle.std.specs.List.{list_all}
use Rattle.std.specs.Char.{is_ascii_digit}
use Rattle.sop_fixed.specs.Numerals.{are_digits, number_of}

-- what two runs of digits say together
pub number_of-append : (xs ys : List ℕ) → number_of (xs ++ ys) ≡ number_of xs * 10 ^ length ys + number_of ys
number_of-append [] ys = omega arith
number_of-append (x ∷ xs) ys =
    let ih : number_of (xs ++ ys) ≡ number_of xs * 10 ^ length ys + number_of ys = number_of-append xs ys in
    let p : 10 ^ length (xs ++ ys) ≡ 10 ^ length xs * 10 ^ length ys = ap (λ n. 10 ^ n) (length-append xs ys) ∙ pow-add 10 (length xs) (length ys) in
    let q : (x - 48) * 10 ^ length (xs ++ ys) ≡ (x - 48) * (10 ^ length xs * 10 ^ length ys) = ap (λ n. (x - 48) * n) p in
    omega (arith, ih, q)

pub digit_below : (b : ℕ) (rest : Bool) → is_ascii_digit b && rest ≡ true → (b - 48 ≤ 9) × (rest ≡ true)
digit_below b rest h = grind (arith, common_steps)

-- so many digits say less than that power of ten
pub number_below : (digits : List ℕ) → list_all is_ascii_digit digits ≡ true → number_of digits < 10 ^ length digits
number_below [] h = omega arith
number_below (b ∷ digits) h =
    let first = digit_below b (list_all is_ascii_digit digits) h in
    let rest : number_of digits < 10 ^ length digits = number_below digits first.1 in
    let most : (b - 48) * 10 ^ length digits ≤ 9 * 10 ^ length digits = mul-le-mul_right (10 ^ length digits) first.0 in
    let e : 10 ^ length (b ∷ digits) ≡ 10 * 10 ^ length digits = pow-succ' 10 (length digits) in
    omega (arith, most, rest, e)

-- at most so many digits say less than that power of ten
pub few_below : (digits : List ℕ) (most : ℕ) → are_digits digits ≡ true → length digits ≤ most → number_of digits < 10 ^ most
few_below digits most all few =
    let below : number_of digits < 10 ^ length digits = number_below digits all in
    let more : 10 ^ length digits ≤ 10 ^ most = pow-le-pow_right (omega arith) few in
    omega (arith, below, more)
