-- A number that is moved from one range into another.
use Rattle.std.proofs.Common.{◌≡◌, ℕ, ◌+◌, ◌*◌, ◌<◌, ◌≤◌, zero, suc, Bool, true, false, ℤ, pos, negsuc, neg_ℤ, ◌+ℤ◌, ◌-ℤ◌, ◌*ℤ◌, ◌≤ℤ◌, ◌<ℤ◌, unsigned_abs, refl, ap, sym, ◌∙◌, arith}
use Rattle.std.proofs.lemmas.Int.{ints, clamps, by_lt_z}
use Rattle.std.proofs.Math.Nat.{div-eq_of_lt, div-lt_iff_lt-mul, mul-le-mul_right}
use Rattle.std.proofs.Math.IntN.{zero-*ℤ}
use Rattle.sop_fixed.proofs.Division.{not_zero}
use Rattle.sop_fixed.specs.Numbers.{signed, is_negative, nearest}
use Rattle.sop_fixed.specs.Arithmetic.{fit_of, put_between, rounded}

-- a share of a number that is no more than the whole
pub nearest_within : (p q w : ℕ) → 0 < w → p ≤ w → nearest (p * q) w ≤ q
nearest_within p q w h l = let m : p * q ≤ w * q = mul-le-mul_right q l in let less : nearest (p * q) w < q + 1 = (div-lt_iff_lt-mul {k = 2 * w} {x = 2 * (p * q) + w} {y = q + 1} (omega (arith, h))).1 (omega (arith, m, h)) in omega (arith, less)

pub part_within : (x a b : ℤ) → unsigned_abs (put_between a b x -ℤ a) ≤ unsigned_abs (b -ℤ a)
part_within x a b = omega (arith, ints, clamps)

pub part_up : (x a b : ℤ) → a ≤ℤ b → pos 0 ≤ℤ (put_between a b x -ℤ a)
part_up x a b h = omega (arith, ints, clamps, h)

pub part_down : (x a b : ℤ) → b ≤ℤ a → (put_between a b x -ℤ a) ≤ℤ pos 0
part_down x a b h = omega (arith, ints, clamps, h)

nearest_nothing : (w : ℕ) → 0 < w → nearest 0 w ≡ 0
nearest_nothing w h = div-eq_of_lt (let l : 0 + w < 2 * w = omega (arith, h) in l)

nothing : (negative : Bool) (w : ℕ) → 0 < w → signed negative (nearest 0 w) ≡ pos 0
nothing true w h = ap (signed true) (nearest_nothing w h)
nothing false w h = ap (signed false) (nearest_nothing w h)

pub above : (n : ℕ) → is_negative (pos n) ≡ false
above n = grind arith

-- a size with the sign put back, over a number above zero, and below it
over_above : (s d : ℕ) → 0 < d → rounded (neg_ℤ (pos s)) (pos d) ≡ signed true (nearest s d)
over_above zero d h = nothing _ d h ∙ sym (nothing true d h)
over_above (suc s) d h = rw (above d) refl

over_below : (s d : ℕ) → rounded (neg_ℤ (pos s)) (negsuc d) ≡ signed false (nearest s (suc d))
over_below zero d = nothing true (suc d) (omega arith) ∙ sym (nothing false (suc d) (omega arith))
over_below (suc s) d = refl

pub up : (p d : ℕ) (q : ℤ) → 0 < d → signed (is_negative q) (nearest (p * unsigned_abs q) d) ≡ rounded (pos p *ℤ q) (pos d)
up p d (pos q) h = rw (above q, above (p * q), above d) refl
up p d (negsuc q) h = sym (over_above (p * suc q) d h)

pub down : (p d : ℕ) (q : ℤ) → signed (is_negative q) (nearest (suc p * unsigned_abs q) (suc d)) ≡ rounded (negsuc p *ℤ q) (negsuc d)
down p d (pos q) = rw (above q) (sym (over_below (suc p * q) d))
down p d (negsuc q) = rw (above (suc p * suc q)) refl

at_start : (p w : ℕ) (q : ℤ) → p ≡ 0 → signed (is_negative q) (nearest (p * unsigned_abs q) (suc w)) ≡ rounded (pos p *ℤ q) (negsuc w)
at_start p w q h =
    let e : p * unsigned_abs q ≡ 0 * unsigned_abs q = ap (λ n. n * unsigned_abs q) h in
    let none : p * unsigned_abs q ≡ 0 = omega (arith, e) in
    let z : pos p *ℤ q ≡ pos 0 = ap (λ n. pos n *ℤ q) h ∙ zero-*ℤ q in
    ap (λ n. signed (is_negative q) (nearest n (suc w))) none ∙ nothing (is_negative q) (suc w) (omega arith)
    ∙ sym (ap (λ x. rounded x (negsuc w)) z ∙ nothing true (suc w) (omega arith))

-- the share of q that p is of w, where p lies between zero and w
share_up : (p w q : ℤ) → pos 0 ≤ℤ p → pos 0 <ℤ w → signed (is_negative q) (nearest (unsigned_abs p * unsigned_abs q) (unsigned_abs w)) ≡ rounded (p *ℤ q) w
share_up (pos p) (pos w) q low some = up p w q (omega (arith, ints, some))
share_up (negsuc p) w q low some = absurd (let f : ⊥ = omega (arith, ints, low) in f)
share_up (pos p) (negsuc w) q low some = absurd (let f : ⊥ = omega (arith, ints, some) in f)

share_down : (p w q : ℤ) → p ≤ℤ pos 0 → w <ℤ pos 0 → signed (is_negative q) (nearest (unsigned_abs p * unsigned_abs q) (unsigned_abs w)) ≡ rounded (p *ℤ q) w
share_down (negsuc p) (negsuc w) q low some = down p w q
share_down (pos p) (negsuc w) q low some = at_start p w q (omega (arith, ints, low))
share_down p (pos w) q low some = absurd (let f : ⊥ = omega (arith, ints, some) in f)

below : (w : ℤ) → w ≤ℤ pos 0 → (unsigned_abs w ≡ 0 → ⊥) → w <ℤ pos 0
below w h some = grind (arith, ints)

share : (x a b q : ℤ) → (unsigned_abs (b -ℤ a) ≡ 0 → ⊥)
    → signed (is_negative q) (nearest (unsigned_abs (put_between a b x -ℤ a) * unsigned_abs q) (unsigned_abs (b -ℤ a))) ≡ rounded ((put_between a b x -ℤ a) *ℤ q) (b -ℤ a)
share x a b q some = by_lt_z a b
    (λ h. share_up (put_between a b x -ℤ a) (b -ℤ a) q (part_up x a b (omega (arith, ints, h))) (omega (arith, ints, h)))
    (λ h. share_down (put_between a b x -ℤ a) (b -ℤ a) q (part_down x a b h) (below (b -ℤ a) (omega (arith, ints, h)) some))

pub fit_is : (x a b m n : ℤ) (width part rise size : ℕ) → width ≡ unsigned_abs (b -ℤ a) → (width ≡ 0 → ⊥) → part ≡ unsigned_abs (put_between a b x -ℤ a) → rise ≡ unsigned_abs (n -ℤ m)
    → size ≡ nearest (part * rise) width → m +ℤ signed (is_negative (n -ℤ m)) size ≡ fit_of x a b m n
fit_is x a b m n width part rise size w some p r s =
    let wide : unsigned_abs (b -ℤ a) ≡ 0 → ⊥ = λ e. some (w ∙ e) in
    let sized : size ≡ nearest (unsigned_abs (put_between a b x -ℤ a) * unsigned_abs (n -ℤ m)) (unsigned_abs (b -ℤ a)) = s ∙ (λ i. nearest (p i * r i) (w i)) in
    rw (not_zero (unsigned_abs (b -ℤ a)) wide) (ap (λ k. m +ℤ signed (is_negative (n -ℤ m)) k) sized ∙ ap (λ z. m +ℤ z) (share x a b (n -ℤ m) wide))

pub fit_within : (x a b : ℤ) (width part rise size : ℕ) → width ≡ unsigned_abs (b -ℤ a) → (width ≡ 0 → ⊥) → part ≡ unsigned_abs (put_between a b x -ℤ a)
    → size ≡ nearest (part * rise) width → size ≤ rise
fit_within x a b width part rise size w some p s =
    let l : part ≤ width = omega (arith, w, p, part_within x a b) in
    let k : 0 < width = grind arith in
    omega (arith, s, nearest_within part rise width k l)
