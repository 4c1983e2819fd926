-- Square roots, cut to whole numbers: there is one, and `root_of` is it.
use Rattle.std.proofs.Common.{◌≡◌, ℕ, ◌+◌, ◌*◌, ◌-◌, ◌/◌, ◌^◌, min, ◌<◌, ◌≤◌, inl, inr, zero, suc, sym, subst, arith}
use Rattle.std.proofs.lemmas.Bool.{cases_lt}
use Rattle.std.proofs.Math.Nat.{div-lt_iff_lt-mul, mul-le-mul, mul-le-mul_left, pow-succ'}
use Rattle.std.proofs.Common.{pos, Ok}
use Rattle.std.specs.Prelude.{IsOkAnd}
use Rattle.std.proofs.lemmas.Int.{ints}
use Rattle.sop_fixed.specs.Numbers.{real_of}
use Rattle.sop_fixed.specs.Roots.{IsRoot, IsRootOf, next_root, root_in, root_of}

next_low : (r n : ℕ) → n < (2 * r + 1) * (2 * r + 1) → next_root r n ≡ 2 * r
next_low r n h = grind arith

next_high : (r n : ℕ) → (2 * r + 1) * (2 * r + 1) ≤ n → next_root r n ≡ 2 * r + 1
next_high r n h = grind arith

root_next : (r n : ℕ) → IsRoot (n / 4) r → IsRoot n (next_root r n)
root_next r n h =
    let within = h.within in
    let next = h.next in
    let low : 2 * r * (2 * r) ≤ n = omega (arith, within) in
    let high : n < (2 * r + 2) * (2 * r + 2) = omega (arith, next) in
    elim (cases_lt n ((2 * r + 1) * (2 * r + 1))) [
      | inl under ↦ subst (IsRoot n) (sym (next_low r n under)) (record { within = low; next = under })
      | inr over ↦ subst (IsRoot n) (sym (next_high r n over)) (record { within = over; next = omega (arith, high) })
    ]

root_in_is : (digits n : ℕ) → n < 4 ^ digits → IsRoot n (root_in digits n)
root_in_is zero n h = record { within = omega arith; next = omega (arith, h) }
root_in_is (suc digits) n h =
    let e : 4 ^ suc digits ≡ 4 * 4 ^ digits = pow-succ' 4 digits in
    root_next (root_in digits (n / 4)) n (root_in_is digits (n / 4) (omega (arith, h, e)))

root_of_is : (n : ℕ) → n ≤ 4000000000000000000000000000000 → IsRoot n (root_of n)
unfolding root_of
root_of_is n h = root_in_is 64 n (omega (arith, h))

not_less : (n r s : ℕ) → IsRoot n r → IsRoot n s → r < s → ⊥
not_less n r s a b less =
    let most : (r + 1) * (r + 1) ≤ s * s = mul-le-mul (omega (arith, less)) (omega (arith, less)) in
    let next = a.next in
    let within = b.within in
    omega (arith, most, next, within)

-- a number has one root
root_one : (n r s : ℕ) → IsRoot n r → IsRoot n s → r ≡ s
root_one n r s a b = elim (cases_lt r s) [
  | inl less ↦ absurd (not_less n r s a b less)
  | inr more ↦ elim (cases_lt s r) [
    | inl less ↦ absurd (not_less n s r b a less)
    | inr least ↦ omega (arith, more, least)
  ]
]

-- so it is the one that is reckoned
pub root_is : (n root : ℕ) → n ≤ 4000000000000000000000000000000 → IsRoot n root → root ≡ root_of n
root_is n root within is = root_one n root (root_of n) is (root_of_is n within)

root_small : (n root : ℕ) → root * root ≤ n → n ≤ 1000000000000000000000 → root ≤ 1000000000000000
root_small n root h b = grind arith

real_of_size : (root : ℕ) → root ≤ 1000000000000000 → real_of (pos root) ≡ Ok (pos root)
real_of_size root h = grind arith

pub sqrt_greatest : (n root : ℕ) → n ≤ 1000000000000000000000 → IsRoot n root → IsOkAnd (real_of (pos root)) (λ r. IsRootOf n r)
sqrt_greatest n root b h = rw (real_of_size root (root_small n root h.within b)) (omega (arith, ints), h)

-- of two numbers with a given middle the product is at most the square of the middle
under_middle : (a b c : ℕ) → a ≤ c → a + b ≤ 2 * c → a * b ≤ c * c
under_middle a b c low sum =
    let e : c ≡ a + (c - a) = omega (arith, low) in
    let most : a * b ≤ a * (a + 2 * (c - a)) = mul-le-mul_left a (omega (arith, low, sum)) in
    subst (λ m. a * b ≤ m * m) (sym e) (omega (arith, most))

product_under_middle : (a b c : ℕ) → a + b ≤ 2 * c → a * b ≤ c * c
product_under_middle a b c sum = elim (cases_lt c a) [
  | inr low ↦ under_middle a b c low sum
  | inl high ↦ let swapped : b * a ≤ c * c = under_middle b a c (omega (arith, high, sum)) (omega (arith, sum)) in omega (arith, swapped)
]

-- Newton's step from x isn't below the root of n
newton_above : (n x : ℕ) → 0 < x → n < ((x + n / x) / 2 + 1) * ((x + n / x) / 2 + 1)
newton_above n x some =
    let over : n < (n / x + 1) * x = (div-lt_iff_lt-mul {k = x} {x = n} {y = n / x + 1} some).0 (omega arith) in
    let middle : n / x + 1 + x ≤ 2 * ((x + n / x) / 2 + 1) = omega arith in
    let under : (n / x + 1) * x ≤ ((x + n / x) / 2 + 1) * ((x + n / x) / 2 + 1) = product_under_middle (n / x + 1) x ((x + n / x) / 2 + 1) middle in
    omega (arith, over, under)

-- nor is it where it stops at the root of the greatest n
pub newton_capped : (n x step : ℕ) → 0 < x → n ≤ 4000000000000000000000000000000 → step ≡ min ((x + n / x) / 2) 2000000000000000 → n < (step + 1) * (step + 1)
newton_capped n x step some within is = elim (cases_lt 2000000000000000 ((x + n / x) / 2)) [
  | inl over ↦ let e : step ≡ 2000000000000000 = omega (arith, is, over) in subst (λ k. n < (k + 1) * (k + 1)) (sym e) (omega (arith, within))
  | inr under ↦ let e : step ≡ (x + n / x) / 2 = omega (arith, is, under) in subst (λ k. n < (k + 1) * (k + 1)) (sym e) (newton_above n x some)
]
