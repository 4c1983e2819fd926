-- Digits times powers of ten, rounded: the first digit that is cut decides, and a cap keeps what lies below it.
use Rattle.std.proofs.Common.{◌≡◌, ℕ, ◌+◌, ◌-◌, ◌*◌, ◌/◌, ◌^◌, ◌≤◌, ◌<◌, List, ◌∷◌, ◌++◌, length, take, drop, refl, ap, sym, ◌∙◌, subst, arith, true, ◌&&◌, suc}
use Rattle.std.proofs.lemmas.Nat.{pow-add, div-mul-add}
use Rattle.std.proofs.lemmas.Grind.{common_steps}
use Rattle.std.proofs.Math.Nat.{one-le-pow, pow-succ', mul-le-mul_right, mul-le-mul_left, mul-div-mul_right}
use Rattle.std.proofs.Common.{◌⊎◌, inl, inr, drop-cons, add-one, get_or, min, if◌then◌else◌, nat_le}
use Rattle.std.proofs.lemmas.Bool.{cases_lt, and_parts}
use Rattle.std.specs.List.{list_all}
use Rattle.std.proofs.lemmas.List.{take-append-drop, length-drop}
use Rattle.std.proofs.lemmas.List.Folds.{list_all-append}
use Rattle.std.proofs.Math.Nat.{pow-le-pow_right}
use Rattle.std.proofs.Math.Seq.{take-append-add}
use Rattle.std.specs.Char.{is_ascii_digit}
use Rattle.sop_fixed.specs.Numbers.{nearest}
use Rattle.sop_fixed.specs.Numerals.{number_of}
use Rattle.sop_fixed.proofs.NumberOf.{digit_below, number_below, number_of-append}

-- what the first digit that is cut adds
abbrev pub round_up : ℕ → ℕ
round_up d = if nat_le 5 (d - 48) then 1 else 0

-- below a half
pub half_down : (q r p : ℕ) → 2 * r < p → nearest (q * p + r) p ≡ q
half_down q r p h =
    let e : 2 * (q * p + r) + p ≡ q * (2 * p) + (2 * r + p) = omega arith in
    ap (λ n. n / (2 * p)) e ∙ div-mul-add q (2 * p) (2 * r + p) (omega arith)

-- from a half on
pub half_up : (q r p : ℕ) → p ≤ 2 * r → r < p → nearest (q * p + r) p ≡ q + 1
half_up q r p h l =
    let e : 2 * (q * p + r) + p ≡ (q + 1) * (2 * p) + (2 * r - p) = omega arith in
    ap (λ n. n / (2 * p)) e ∙ div-mul-add (q + 1) (2 * p) (2 * r - p) (omega arith)

-- a factor on both sides
pub nearest_factor : (n p k : ℕ) → 0 < k → 0 < p → nearest (n * k) (p * k) ≡ nearest n p
nearest_factor n p k h l =
    let a : 2 * (n * k) + p * k ≡ (2 * n + p) * k = omega arith in
    let b : 2 * (p * k) ≡ 2 * p * k = omega arith in
    ap (λ x. x / (2 * (p * k))) a ∙ ap (λ y. (2 * n + p) * k / y) b ∙ mul-div-mul_right (2 * n + p) (2 * p) h

-- the first digit that is cut tells whether the rest is a half
pub first_digit : (d r p : ℕ) → r < p → d ≤ 4 → 2 * (d * p + r) < 10 * p
first_digit d r p h l = let m : d * p ≤ 4 * p = mul-le-mul_right p l in omega (arith, m)

pub first_digit_up : (d r p : ℕ) → 5 ≤ d → 10 * p ≤ 2 * (d * p + r)
first_digit_up d r p l = let m : 5 * p ≤ d * p = mul-le-mul_right p l in omega (arith, m)

-- q before a first digit d and further digits
pub cut_at_digit : (q d : ℕ) (rest : List ℕ) → is_ascii_digit d && list_all is_ascii_digit rest ≡ true → nearest (q * 10 ^ length (d ∷ rest) + number_of (d ∷ rest)) (10 ^ length (d ∷ rest)) ≡ q + round_up d
cut_at_digit q d rest h =
    let first = digit_below d (list_all is_ascii_digit rest) h in
    let small : number_of rest < 10 ^ length rest = number_below rest first.1 in
    let all : number_of (d ∷ rest) < 10 ^ length (d ∷ rest) = number_below (d ∷ rest) h in
    let e : 10 ^ length (d ∷ rest) ≡ 10 * 10 ^ length rest = pow-succ' 10 (length rest) in
    elim (cases_lt (d - 48) 5) [
      | inl low ↦
          let under : 2 * number_of (d ∷ rest) < 10 * 10 ^ length rest = first_digit (d - 48) (number_of rest) (10 ^ length rest) small (omega arith) in
          half_down q (number_of (d ∷ rest)) (10 ^ length (d ∷ rest)) (omega (arith, under, e)) ∙ (let z : q ≡ q + round_up d = grind (arith, common_steps) in z)
      | inr high ↦
          let over : 10 * 10 ^ length rest ≤ 2 * number_of (d ∷ rest) = first_digit_up (d - 48) (number_of rest) (10 ^ length rest) high in
          half_up q (number_of (d ∷ rest)) (10 ^ length (d ∷ rest)) (omega (arith, over, e)) all ∙ (let z : q + 1 ≡ q + round_up d = grind (arith, common_steps) in z)
    ]

-- the digits before place n, and the digit there, where the rest is cut
pub nearest_cut : (digits : List ℕ) (n : ℕ) → n < length digits → list_all is_ascii_digit digits ≡ true
    → nearest (number_of digits) (10 ^ (length digits - n)) ≡ number_of (take n digits) + round_up (get_or digits n 0)
nearest_cut digits n h all =
    let split : digits ≡ take n digits ++ (get_or digits n 0 ∷ drop (n + 1) digits) =
    sym (take-append-drop n digits) ∙ ap (λ l. take n digits ++ l) (let e : drop n digits ≡ get_or digits n 0 ∷ drop (n + 1) digits = rw (add-one, drop-cons digits n 0) in e) in
    let len : length digits - n ≡ length (get_or digits n 0 ∷ drop (n + 1) digits) = omega (arith, length-drop {A = ℕ}) in
    let parts : (list_all is_ascii_digit (take n digits) && list_all is_ascii_digit (get_or digits n 0 ∷ drop (n + 1) digits)) ≡ true = sym (list_all-append is_ascii_digit (take n digits) _) ∙ ap (list_all is_ascii_digit) (sym split) ∙ all in
    ap (λ k. nearest (number_of digits) (10 ^ k)) len
    ∙ ap (λ m. nearest m (10 ^ length (get_or digits n 0 ∷ drop (n + 1) digits))) (ap number_of split ∙ number_of-append (take n digits) _)
    ∙ cut_at_digit (number_of (take n digits)) (get_or digits n 0) (drop (n + 1) digits) (and_parts _ _ parts).1

-- more digits are cut than there are
pub nearest_none : (digits : List ℕ) (k : ℕ) → length digits < k → list_all is_ascii_digit digits ≡ true → nearest (number_of digits) (10 ^ k) ≡ 0
nearest_none digits k h all =
    let below : number_of digits < 10 ^ length digits = number_below digits all in
    let more : 10 ^ (length digits + 1) ≤ 10 ^ k = pow-le-pow_right (omega arith) (omega arith) in
    let e : 10 ^ (length digits + 1) ≡ 10 * 10 ^ length digits = rw add-one (pow-succ' 10 (length digits)) in
    ap (λ n. nearest n (10 ^ k)) (let z : number_of digits ≡ 0 * 10 ^ k + number_of digits = omega arith in z) ∙ half_down 0 (number_of digits) (10 ^ k) (omega (arith, below, more, e))

-- no digit is cut
pub nearest_whole : (m up down : ℕ) → down ≤ up → nearest (m * 10 ^ up) (10 ^ down) ≡ m * 10 ^ (up - down)
nearest_whole m up down h =
    let p : 10 ^ up ≡ 10 ^ (up - down) * 10 ^ down = ap (λ n. 10 ^ n) (let e : up ≡ (up - down) + down = omega arith in e) ∙ pow-add 10 (up - down) down in
    let q : m * 10 ^ up ≡ m * 10 ^ (up - down) * 10 ^ down + 0 = ap (λ n. m * n) p ∙ (let r : m * (10 ^ (up - down) * 10 ^ down) ≡ m * 10 ^ (up - down) * 10 ^ down + 0 = omega arith in r) in
    ap (λ n. nearest n (10 ^ down)) q ∙ half_down (m * 10 ^ (up - down)) 0 (10 ^ down) (one-le-pow down 10 (omega arith))

-- digits are cut
pub nearest_less : (m up down : ℕ) → up ≤ down → nearest (m * 10 ^ up) (10 ^ down) ≡ nearest m (10 ^ (down - up))
nearest_less m up down h =
    let p : 10 ^ down ≡ 10 ^ (down - up) * 10 ^ up = ap (λ n. 10 ^ n) (let e : down ≡ (down - up) + up = omega arith in e) ∙ pow-add 10 (down - up) up in
    ap (nearest (m * 10 ^ up)) p ∙ nearest_factor m (10 ^ (down - up)) (10 ^ up) (one-le-pow up 10 (omega arith)) (one-le-pow (down - up) 10 (omega arith))

-- a number that stopped at the cap, with more behind it
pub capped_on : (a k r cap : ℕ) → 0 < k → min (min a cap * k + r) cap ≡ min (a * k + r) cap
capped_on a k r cap h =
    let e : k ≡ (k - 1) + 1 = omega arith in
    let P : ℕ → Type 0 = λ n. min (min a cap * n + r) cap ≡ min (a * n + r) cap in
    subst P (sym e) (elim (cases_lt cap a) [
      | inl over ↦ let m : cap * (k - 1) ≤ a * (k - 1) = mul-le-mul_right (k - 1) (omega arith) in let l : min a cap ≡ cap = omega arith in rw l (omega (arith, m))
      | inr under ↦ let l : min a cap ≡ a = omega arith in rw l refl
    ])

low : (a d j r cap : ℕ) → a * 10 + d ≤ cap → min (min (a * 10 + d) cap * (j + 1) + r) cap ≡ min (a * (10 * (j + 1)) + (d * (j + 1) + r)) cap
low a d j r cap h =
    let e : min (a * 10 + d) cap ≡ a * 10 + d = omega arith in
    rw e (ap (λ x. min x cap) (let ring : (a * 10 + d) * (j + 1) + r ≡ a * (10 * (j + 1)) + (d * (j + 1) + r) = omega arith in ring))

high : (a d e j r cap : ℕ) → a * 10 + d ≡ cap + e → min (min (a * 10 + d) cap * (j + 1) + r) cap ≡ min (a * (10 * (j + 1)) + (d * (j + 1) + r)) cap
high a d e j r cap h =
    let m : min (a * 10 + d) cap ≡ cap = omega arith in
    let p : (a * 10 + d) * (j + 1) ≡ (cap + e) * (j + 1) = ap (λ x. x * (j + 1)) h in
    rw m (omega (arith, p))

-- one more digit before a number below k is written behind it
pub capped_more : (a d k r cap : ℕ) → 0 < k → min (min (a * 10 + d) cap * k + r) cap ≡ min (a * (10 * k) + (d * k + r)) cap
capped_more a d k r cap h =
    let e : k ≡ (k - 1) + 1 = omega arith in
    let P : ℕ → Type 0 = λ n. min (min (a * 10 + d) cap * n + r) cap ≡ min (a * (10 * n) + (d * n + r)) cap in
    subst P (sym e) (elim (cases_lt cap (a * 10 + d)) [
      | inl over ↦ high a d (a * 10 + d - cap) (k - 1) r cap (omega arith)
      | inr under ↦ low a d (k - 1) r cap under
    ])

-- what digits say that go on from a number, up to the cap
abbrev pub going_on : ℕ → List ℕ → ℕ → ℕ
going_on a digits cap = min (a * 10 ^ length digits + number_of digits) cap

pub going_on-cons : (a b : ℕ) (digits : List ℕ) (cap : ℕ) → going_on (min (a * 10 + (b - 48)) cap) digits cap ≡ going_on a (b ∷ digits) cap
going_on-cons a b digits cap =
    capped_more a (b - 48) (10 ^ length digits) (number_of digits) cap (one-le-pow (length digits) 10 (omega arith))
    ∙ ap (λ k. min (a * k + ((b - 48) * 10 ^ length digits + number_of digits)) cap) (sym (pow-succ' 10 (length digits)))

pub going_on-drop : (a : ℕ) (digits : List ℕ) (i cap : ℕ) → i < length digits → going_on (min (a * 10 + (get_or digits i 0 - 48)) cap) (drop (i + 1) digits) cap ≡ going_on a (drop i digits) cap
going_on-drop a digits i cap h = going_on-cons a (get_or digits i 0) (drop (i + 1) digits) cap ∙ ap (λ l. going_on a l cap) (let e : get_or digits i 0 ∷ drop (i + 1) digits ≡ drop i digits = rw (add-one, drop-cons digits i 0) in e)

-- a number that is raised stays below the cap or stops there
pub raised_more : (n by cap : ℕ) → 0 < by → min (min (n * 10) cap * 10 ^ (by - 1)) cap ≡ min (n * 10 ^ by) cap
raised_more n by cap h =
    let p : 10 ^ by ≡ 10 * 10 ^ (by - 1) = ap (λ k. 10 ^ k) (let e : by ≡ suc (by - 1) = omega arith in e) ∙ pow-succ' 10 (by - 1) in
    let c : min (min (n * 10) cap * 10 ^ (by - 1) + 0) cap ≡ min (n * 10 * 10 ^ (by - 1) + 0) cap = capped_on (n * 10) (10 ^ (by - 1)) 0 cap (one-le-pow (by - 1) 10 (omega arith)) in
    let q : n * 10 ^ by ≡ n * 10 * 10 ^ (by - 1) + 0 = ap (λ k. n * k) p ∙ (let r : n * (10 * 10 ^ (by - 1)) ≡ n * 10 * 10 ^ (by - 1) + 0 = omega arith in r) in
    (let z : min (min (n * 10) cap * 10 ^ (by - 1)) cap ≡ min (min (n * 10) cap * 10 ^ (by - 1) + 0) cap = ap (λ x. min x cap) (omega arith) in z) ∙ c ∙ ap (λ x. min x cap) (sym q)

pub raised_full : (by cap : ℕ) → min (cap * 10 ^ by) cap ≡ cap
raised_full by cap =
    let one : 1 ≤ 10 ^ by = one-le-pow by 10 (omega arith) in
    let m : cap * 1 ≤ cap * 10 ^ by = mul-le-mul_left cap one in
    omega (arith, m)

-- all of the first part, and some of the second
pub front_of_both : (xs ys : List ℕ) (kept cap a b : ℕ) → length xs ≤ kept → a ≡ min (0 * 10 ^ length xs + number_of xs) cap
    → b ≡ min (a * 10 ^ length (take (kept - length xs) ys) + number_of (take (kept - length xs) ys)) cap → b ≡ min (number_of (take kept (xs ++ ys))) cap
front_of_both xs ys kept cap a b h first second =
    let rest = take (kept - length xs) ys in
    let f : a ≡ min (number_of xs) cap = first ∙ ap (λ x. min x cap) (omega arith) in
    let t : take kept (xs ++ ys) ≡ xs ++ rest = ap (λ n. take n (xs ++ ys)) (let e : kept ≡ length xs + (kept - length xs) = omega arith in e) ∙ take-append-add xs ys (kept - length xs) in
    second ∙ ap (λ x. min (x * 10 ^ length rest + number_of rest) cap) f
    ∙ capped_on (number_of xs) (10 ^ length rest) (number_of rest) cap (one-le-pow (length rest) 10 (omega arith))
    ∙ ap (λ x. min x cap) (sym (number_of-append xs rest)) ∙ ap (λ l. min (number_of l) cap) (sym t)

-- both parts
pub number_of_both : (xs ys : List ℕ) (cap a b : ℕ) → a ≡ min (0 * 10 ^ length xs + number_of xs) cap → b ≡ min (a * 10 ^ length ys + number_of ys) cap → b ≡ min (number_of (xs ++ ys)) cap
number_of_both xs ys cap a b first second =
    let f : a ≡ min (number_of xs) cap = first ∙ ap (λ x. min x cap) (omega arith) in
    second ∙ ap (λ x. min (x * 10 ^ length ys + number_of ys) cap) f
    ∙ capped_on (number_of xs) (10 ^ length ys) (number_of ys) cap (one-le-pow (length ys) 10 (omega arith))
    ∙ ap (λ x. min x cap) (sym (number_of-append xs ys))

capped_sum : (a b cap : ℕ) → min (min a cap + b) cap ≡ min (a + b) cap
capped_sum a b cap = omega arith

pub cut_some : (digits : List ℕ) (n by cap a b : ℕ) → n < length digits → length digits - n ≡ by → list_all is_ascii_digit digits ≡ true → a ≡ min (number_of (take n digits)) cap → b ≡ round_up (get_or digits n 0)
    → min (a + b) cap ≡ min (nearest (number_of digits) (10 ^ by)) cap
cut_some digits n by cap a b h k all first second =
    let e : nearest (number_of digits) (10 ^ by) ≡ number_of (take n digits) + round_up (get_or digits n 0) = ap (λ k. nearest (number_of digits) (10 ^ k)) (sym k) ∙ nearest_cut digits n h all in
    let f : a + b ≡ min (number_of (take n digits)) cap + round_up (get_or digits n 0) = ap (λ x. x + b) first ∙ ap (λ y. min (number_of (take n digits)) cap + y) second in
    ap (λ x. min x cap) f ∙ capped_sum (number_of (take n digits)) (round_up (get_or digits n 0)) cap ∙ ap (λ x. min x cap) (sym e)

-- no digit is cut: the number is raised
pub whole_raised : (digits : List ℕ) (up down cap a b : ℕ) → down ≤ up → a ≡ min (number_of digits) cap → b ≡ min (a * 10 ^ (up - down)) cap → b ≡ min (nearest (number_of digits * 10 ^ up) (10 ^ down)) cap
whole_raised digits up down cap a b h first second =
    let one : 1 ≤ 10 ^ (up - down) = one-le-pow (up - down) 10 (omega arith) in
    let c : min (min (number_of digits) cap * 10 ^ (up - down) + 0) cap ≡ min (number_of digits * 10 ^ (up - down) + 0) cap = capped_on (number_of digits) (10 ^ (up - down)) 0 cap one in
    second ∙ ap (λ x. min (x * 10 ^ (up - down)) cap) first ∙ (let z : min (min (number_of digits) cap * 10 ^ (up - down)) cap ≡ min (min (number_of digits) cap * 10 ^ (up - down) + 0) cap = ap (λ x. min x cap) (omega arith) in z)
    ∙ c ∙ ap (λ x. min x cap) (let y : number_of digits * 10 ^ (up - down) + 0 ≡ nearest (number_of digits * 10 ^ up) (10 ^ down) = omega (arith, nearest_whole (number_of digits) up down h) in y)

-- a number that is raised beyond the cap
pub nearest_far_up : (n up down cap k : ℕ) → 0 < n → down + k ≤ up → cap ≤ 10 ^ k → min (nearest (n * 10 ^ up) (10 ^ down)) cap ≡ cap
nearest_far_up n up down cap k some far least =
    let more : 10 ^ k ≤ 10 ^ (up - down) = pow-le-pow_right (omega arith) (omega arith) in
    let factor : 1 * 10 ^ (up - down) ≤ n * 10 ^ (up - down) = mul-le-mul_right (10 ^ (up - down)) some in
    omega (arith, nearest_whole n up down (omega arith), more, factor, least)

-- a number that is lowered beyond its digits
pub nearest_far_down : (digits : List ℕ) (up down : ℕ) → up + length digits < down → list_all is_ascii_digit digits ≡ true → nearest (number_of digits * 10 ^ up) (10 ^ down) ≡ 0
nearest_far_down digits up down far all = nearest_less (number_of digits) up down (omega arith) ∙ nearest_none digits (down - up) (omega arith) all

nearest_zero : (n up down : ℕ) → n ≡ 0 → nearest (n * 10 ^ up) (10 ^ down) ≡ 0
nearest_zero n up down h = ap (λ m. nearest (m * 10 ^ up) (10 ^ down)) h ∙ ap (λ m. nearest m (10 ^ down)) (let z : 0 * 10 ^ up ≡ 0 * 10 ^ down + 0 = omega arith in z) ∙ half_down 0 0 (10 ^ down) (one-le-pow down 10 (omega arith))

-- places beyond `far` change nothing more, for a text that is shorter
pub places_capped : (digits : List ℕ) (fraction up down far cap : ℕ) → list_all is_ascii_digit digits ≡ true → fraction ≤ length digits → (up ≡ 0) ⊎ (down ≡ 0) → length digits + 32 ≤ far → cap ≤ 10 ^ 16
    → min (nearest (number_of digits * 10 ^ (6 + min up far)) (10 ^ (fraction + min down far))) cap ≡ min (nearest (number_of digits * 10 ^ (6 + up)) (10 ^ (fraction + down))) cap
places_capped digits fraction up down far cap all within one room small =
    let scale : ℕ → ℕ → ℕ = λ u d. min (nearest (number_of digits * 10 ^ (6 + u)) (10 ^ (fraction + d))) cap in
    elim (cases_lt 0 (number_of digits)) [
      | inr none ↦ ap (λ n. min n cap) (nearest_zero (number_of digits) (6 + min up far) (fraction + min down far) (omega (arith, none)) ∙ sym (nearest_zero (number_of digits) (6 + up) (fraction + down) (omega (arith, none))))
      | inl some ↦ elim one [
        | inl no_up ↦ elim (cases_lt far down) [
          | inl beyond ↦ ap (λ n. min n cap) (nearest_far_down digits (6 + min up far) (fraction + min down far) (omega arith) all ∙ sym (nearest_far_down digits (6 + up) (fraction + down) (omega arith) all))
          | inr near ↦ ap (λ u. scale u (min down far)) (let u : min up far ≡ up = omega arith in u) ∙ ap (scale up) (let d : min down far ≡ down = omega arith in d)
        ]
        | inr no_down ↦ elim (cases_lt far up) [
          | inl beyond ↦ nearest_far_up (number_of digits) (6 + min up far) (fraction + min down far) cap 16 some (omega arith) small ∙ sym (nearest_far_up (number_of digits) (6 + up) (fraction + down) cap 16 some (omega arith) small)
          | inr near ↦ ap (λ u. scale u (min down far)) (let u : min up far ≡ up = omega arith in u) ∙ ap (scale up) (let d : min down far ≡ down = omega arith in d)
        ]
      ]
    ]
