-- Rounding keeps order.
use Rattle.std.proofs.Common.{ℕ, ◌+◌, ◌*◌, ◌/◌, ◌<◌, ◌≤◌, suc, ℤ, pos, negsuc, ◌≤ℤ◌, arith}
use Rattle.std.proofs.lemmas.Int.{ints}
use Rattle.std.proofs.Math.Nat.{div-lt_iff_lt-mul}
use Rattle.sop_fixed.specs.Numbers.{nearest}
use Rattle.sop_fixed.specs.Arithmetic.{rounded}

quotients_in_order : (n m k : ℕ) → 0 < k → n ≤ m → n / k ≤ m / k
quotients_in_order n m k h l =
    let over : m < (m / k + 1) * k = (div-lt_iff_lt-mul {k = k} {x = m} {y = m / k + 1} h).0 (omega arith) in
    let under : n / k < m / k + 1 = (div-lt_iff_lt-mul {k = k} {x = n} {y = m / k + 1} h).1 (omega (arith, l, over)) in
    omega (arith, under)

pub nearest_in_order : (n m d : ℕ) → 0 < d → n ≤ m → nearest n d ≤ nearest m d
nearest_in_order n m d h l = quotients_in_order (2 * n + d) (2 * m + d) (2 * d) (omega (arith, h)) (omega (arith, l))

pub rounded_in_order : (a b : ℤ) (d : ℕ) → 0 < d → a ≤ℤ b → rounded a (pos d) ≤ℤ rounded b (pos d)
rounded_in_order (pos n) (pos m) d h l = let o = nearest_in_order n m d h (omega (arith, ints, l)) in grind (arith, ints)
rounded_in_order (pos n) (negsuc m) d h l = absurd (grind (arith, ints))
rounded_in_order (negsuc n) (pos m) d h l = grind (arith, ints)
rounded_in_order (negsuc n) (negsuc m) d h l = let o = nearest_in_order (suc m) (suc n) d h (grind (arith, ints)) in grind (arith, ints)
