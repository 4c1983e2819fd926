-- Quotients and remainders, cut toward zero.
use Rattle.std.proofs.Common.{◌≡◌, ℕ, ◌/◌, ◌%◌, ◌≤◌, false, zero, suc, ℤ, pos, negsuc, neg_ℤ, ◌+ℤ◌, ◌-ℤ◌, ◌*ℤ◌, ◌≤ℤ◌, unsigned_abs, w64, Ok, refl, ap, ◌∙◌, arith}
use Rattle.std.specs.Prelude.{int_div, int_rem, nat_eq}
use Rattle.std.specs.Int.{cast_signed, cast_unsigned}
use Rattle.std.proofs.lemmas.Int.{ints, quot_is, rem_is, quot-rem, fits_signed_from_abs}
use Rattle.std.proofs.Math.IntN.{*ℤ_comm}
use Rattle.std.proofs.Math.Nat.{div-le_self, mod-le}
use Rattle.sop_fixed.specs.Numbers.{int_of, smallest_int, largest_int}
use Rattle.sop_fixed.specs.Arithmetic.{is_zero, int_quotient_of, remainder_of}

pub abs_neg : (n : ℕ) → unsigned_abs (neg_ℤ (pos n)) ≡ n
abs_neg zero = refl
abs_neg (suc n) = refl

pub quotient_small : (a d : ℤ) → unsigned_abs (int_div a d) ≤ unsigned_abs a
quotient_small (pos a) (pos d) = div-le_self a d
quotient_small (pos a) (negsuc d) = omega (arith, abs_neg (a / suc d), div-le_self a (suc d))
quotient_small (negsuc a) (pos d) = omega (arith, abs_neg (suc a / d), div-le_self (suc a) d)
quotient_small (negsuc a) (negsuc d) = div-le_self (suc a) (suc d)

pub remainder_small : (a d : ℤ) → unsigned_abs (int_rem a d) ≤ unsigned_abs a
remainder_small (pos a) d = mod-le a (unsigned_abs d)
remainder_small (negsuc a) d = omega (arith, abs_neg (suc a % unsigned_abs d), mod-le (suc a) (unsigned_abs d))

-- the operands of 64 bits, where the sizes are small
pub quotient_is : (a d : ℤ) → unsigned_abs a ≤ 1000000000000000 → unsigned_abs d ≤ 1000000000000000
    → cast_signed w64 (cast_unsigned w64 (int_div (cast_signed w64 (cast_unsigned w64 a)) (cast_signed w64 (cast_unsigned w64 d)))) ≡ int_div a d
quotient_is a d h k = quot_is w64 a d (fits_signed_from_abs w64 a (omega (arith, h))) (fits_signed_from_abs w64 d (omega (arith, k))) (fits_signed_from_abs w64 (int_div a d) (omega (arith, h, quotient_small a d)))

pub remainder_is : (a d : ℤ) → unsigned_abs a ≤ 1000000000000000 → unsigned_abs d ≤ 1000000000000000
    → cast_signed w64 (cast_unsigned w64 (int_rem (cast_signed w64 (cast_unsigned w64 a)) (cast_signed w64 (cast_unsigned w64 d)))) ≡ int_rem a d
remainder_is a d h k = rem_is w64 a d (fits_signed_from_abs w64 a (omega (arith, h))) (fits_signed_from_abs w64 d (omega (arith, k)))

difference_left : (a p q r : ℤ) → p ≡ q → q +ℤ r ≡ a → a -ℤ p ≡ r
difference_left a p q r h k = omega (arith, ints, h, k)

-- what a quotient leaves
pub remainder_left : (a d : ℤ) → a -ℤ d *ℤ int_div a d ≡ int_rem a d
remainder_left a d = difference_left a (d *ℤ int_div a d) (int_div a d *ℤ d) (int_rem a d) (*ℤ_comm d (int_div a d)) (quot-rem a d)

pub int_small : (n : ℤ) → (smallest_int ≤ℤ n) × (n ≤ℤ largest_int) → unsigned_abs n ≤ 1000000000000000
int_small n h = let low = h.0 in let high = h.1 in grind (arith, ints)

pub not_zero : (n : ℕ) → (n ≡ 0 → ⊥) → nat_eq n 0 ≡ false
not_zero n h = grind arith

pub nonzero : (z : ℤ) → (cast_unsigned w64 z ≡ 0 → ⊥) → is_zero z ≡ false
nonzero (pos n) h = not_zero n h
nonzero (negsuc n) h = not_zero (suc n) (λ e. omega (arith, e))

pub quotient_of_ints : (a d : ℤ) → unsigned_abs a ≤ 1000000000000000 → unsigned_abs d ≤ 1000000000000000 → (cast_unsigned w64 d ≡ 0 → ⊥)
    → int_of (cast_signed w64 (cast_unsigned w64 (int_div (cast_signed w64 (cast_unsigned w64 a)) (cast_signed w64 (cast_unsigned w64 d))))) ≡ int_quotient_of a d
quotient_of_ints a d h k some = ap int_of (quotient_is a d h k) ∙ rw (nonzero d some) refl

pub remainder_of_both : (a d : ℤ) → unsigned_abs a ≤ 1000000000000000 → unsigned_abs d ≤ 1000000000000000 → (cast_unsigned w64 d ≡ 0 → ⊥)
    → remainder_of a d ≡ Ok (cast_signed w64 (cast_unsigned w64 (int_rem (cast_signed w64 (cast_unsigned w64 a)) (cast_signed w64 (cast_unsigned w64 d)))))
remainder_of_both a d h k some = rw (nonzero d some, remainder_left a d, remainder_is a d h k) refl
