-- Numbers of lines, boxes and grids: parts with another sign, and rows and columns counted through.
use Rattle.std.proofs.Common.{◌≡◌, ℕ, zero, suc, ◌+◌, ◌-◌, ◌*◌, ◌/◌, ◌%◌, ◌<◌, Bool, true, false, nat_le, List, [], ◌∷◌, ◌++◌, map, ℤ, pos, negsuc, neg_ℤ, ◌-ℤ◌, ◌*ℤ◌, refl, sym, ap, ◌∙◌, arith}
use Rattle.std.specs.Prelude.{if◌then◌else◌, flat_map}
use Rattle.std.specs.List.{range_with_len}
use Rattle.std.proofs.lemmas.Int.{ints}
use Rattle.std.proofs.lemmas.Nat.{div-mul-add, mod-mul-add}
use Rattle.std.proofs.Math.Nat.{div-eq_of_lt}
use Rattle.std.proofs.Math.IntN.{*ℤ-one, *ℤ-negsuc}
use Rattle.sop_fixed.specs.Numbers.{signed, nearest}
use Rattle.sop_fixed.specs.Arithmetic.{rounded, signs_differ}
use Rattle.sop_fixed.proofs.Fitting.{above}
use Rattle.sop_basic.specs.Grid.{across, each_cell}

nearest_nothing : (d : ℕ) → 0 < d → nearest 0 d ≡ 0
nearest_nothing d h = div-eq_of_lt (let l : 0 + d < 2 * d = omega (arith, h) in l)

nothing : (b : Bool) (d : ℕ) → 0 < d → signed b (nearest 0 d) ≡ pos 0
nothing true d h = ap (signed true) (nearest_nothing d h)
nothing false d h = ap (signed false) (nearest_nothing d h)

minus_minus : (n : ℕ) → neg_ℤ (neg_ℤ (pos n)) ≡ pos n
minus_minus zero = refl
minus_minus (suc n) = refl

rounded_minus : (a : ℤ) (d : ℕ) → 0 < d → rounded (neg_ℤ a) (pos d) ≡ neg_ℤ (rounded a (pos d))
rounded_minus (pos zero) d h = nothing (signs_differ (pos 0) (pos d)) d h ∙ sym (ap neg_ℤ (nothing (signs_differ (pos 0) (pos d)) d h))
rounded_minus (pos (suc n)) d h = rw (above d, above (suc n)) refl
rounded_minus (negsuc n) d h = rw (above (suc n), above d) (sym (minus_minus (nearest (suc n) d)))

pub across_is : (size : ℤ) (count i : ℕ) → 1 < count → across size count i ≡ rounded (size *ℤ (pos (2 * i) -ℤ pos (count - 1))) (pos (2 * (count - 1)))
across_is size count i lt =
    let more : nat_le count 1 ≡ false = grind (arith, lt) in
    ap (λ b. if b then pos 0 else rounded (size *ℤ (pos (2 * i) -ℤ pos (count - 1))) (pos (2 * (count - 1)))) more

-- before the middle
pub across_low : (size : ℤ) (i steps : ℕ) → 2 * i < steps → rounded (size *ℤ (pos (2 * i) -ℤ pos steps)) (pos (2 * steps)) ≡ neg_ℤ (rounded (size *ℤ pos (steps - 2 * i)) (pos (2 * steps)))
across_low size i steps lt =
    let below : pos (2 * i) -ℤ pos steps ≡ negsuc (steps - 2 * i - 1) = omega (arith, ints, lt) in
    let same : suc (steps - 2 * i - 1) ≡ steps - 2 * i = omega (arith, lt) in
    ap (λ z. rounded (size *ℤ z) (pos (2 * steps))) below ∙ ap (λ z. rounded z (pos (2 * steps))) (*ℤ-negsuc size (steps - 2 * i - 1))
    ∙ rounded_minus (size *ℤ pos (suc (steps - 2 * i - 1))) (2 * steps) (omega (arith, lt)) ∙ ap (λ n. neg_ℤ (rounded (size *ℤ pos n) (pos (2 * steps)))) same

pub half_is : (size : ℤ) → rounded (size *ℤ pos 1) (pos 2) ≡ rounded size (pos 2)
unfolding lib.IntN.one
half_is size = ap (λ z. rounded z (pos 2)) (*ℤ-one size)

-- ---- rows and columns
shifted : {A : Type 0} (g h : ℕ → A) (a k n : ℕ) → ((j : ℕ) → j < k + n → g (a + j) ≡ h j) → map g (range_with_len (a + k) n) ≡ map h (range_with_len k n)
shifted g h a k zero same = refl
shifted g h a k (suc n) same =
    let next : (a + k) + 1 ≡ a + (k + 1) = omega arith in
    let rest = shifted g h a (k + 1) n (λ j lt. same j (omega arith)) in
    ap (λ x. x ∷ map g (range_with_len ((a + k) + 1) n)) (same k (omega arith)) ∙ ap (λ m. h k ∷ map g (range_with_len m n)) next ∙ ap (λ xs. h k ∷ xs) rest

range_split : (a m n : ℕ) → range_with_len a (m + n) ≡ range_with_len a m ++ range_with_len (a + m) n
range_split a zero n = let e : 0 + n ≡ n = omega arith in let f : a ≡ a + 0 = omega arith in ap (range_with_len a) e ∙ ap (λ k. range_with_len k n) f
range_split a (suc m) n =
    let e : suc m + n ≡ suc (m + n) = omega arith in
    let f : (a + 1) + m ≡ a + suc m = omega arith in
    ap (range_with_len a) e ∙ ap (λ xs. a ∷ xs) (range_split (a + 1) m n) ∙ ap (λ k. a ∷ (range_with_len (a + 1) m ++ range_with_len k n)) f

map_both : {A : Type 0} (g : ℕ → A) (xs ys : List ℕ) → map g (xs ++ ys) ≡ map g xs ++ map g ys
map_both g [] ys = refl
map_both g (x ∷ xs) ys = ap (λ r. g x ∷ r) (map_both g xs ys)

module _ {A : Type 0} (f : ℕ → ℕ → A) (cols : ℕ) (some : 0 < cols) where
  abbrev counted : ℕ → A
  counted i = f (i / cols) (i % cols)

  in_row : (r j : ℕ) → j < cols → counted (r * cols + j) ≡ f r j
  in_row r j lt = ap (λ q. f q ((r * cols + j) % cols)) (div-mul-add r cols j lt) ∙ ap (f r) (mod-mul-add r cols j lt)

  one_row : (r : ℕ) → map counted (range_with_len (r * cols) cols) ≡ map (f r) (range_with_len 0 cols)
  one_row r =
      let start : r * cols ≡ r * cols + 0 = omega arith in
      ap (λ a. map counted (range_with_len a cols)) start ∙ shifted counted (f r) (r * cols) 0 cols (λ j lt. in_row r j (omega arith))

  rows_counted : (r rows : ℕ) → flat_map (λ r. map (f r) (range_with_len 0 cols)) (range_with_len r rows) ≡ map counted (range_with_len (r * cols) (rows * cols))
  rows_counted r zero = let none : 0 * cols ≡ 0 = omega arith in sym (ap (λ n. map counted (range_with_len (r * cols) n)) none)
  rows_counted r (suc rows) =
      let more : suc rows * cols ≡ cols + rows * cols = omega arith in
      let next : (r + 1) * cols ≡ r * cols + cols = omega arith in
      ap (λ xs. map (f r) (range_with_len 0 cols) ++ xs) (rows_counted (r + 1) rows)
      ∙ ap (λ a. map (f r) (range_with_len 0 cols) ++ map counted (range_with_len a (rows * cols))) next
      ∙ ap (λ xs. xs ++ map counted (range_with_len (r * cols + cols) (rows * cols))) (sym (one_row r))
      ∙ sym (map_both counted (range_with_len (r * cols) cols) (range_with_len (r * cols + cols) (rows * cols)))
      ∙ ap (map counted) (sym (range_split (r * cols) cols (rows * cols)))
      ∙ ap (λ n. map counted (range_with_len (r * cols) n)) (sym more)

  pub cells_counted : (rows : ℕ) → each_cell rows cols f ≡ map (λ i. f (i / cols) (i % cols)) (range_with_len 0 (rows * cols))
  cells_counted rows = let none : 0 * cols ≡ 0 = omega arith in rows_counted 0 rows ∙ ap (λ a. map counted (range_with_len a (rows * cols))) none

no_cells_from : {A : Type 0} (f : ℕ → ℕ → A) (r rows : ℕ) → flat_map (λ r. map (f r) (range_with_len 0 0)) (range_with_len r rows) ≡ []
no_cells_from f r zero = refl
no_cells_from f r (suc rows) = no_cells_from f (r + 1) rows

-- the same where there may be no column
pub any_cells : {A : Type 0} (f : ℕ → ℕ → A) (rows cols : ℕ) → each_cell rows cols f ≡ map (λ i. f (i / cols) (i % cols)) (range_with_len 0 (rows * cols))
any_cells f rows zero = let none : rows * 0 ≡ 0 = omega arith in no_cells_from f 0 rows ∙ sym (ap (λ n. map (λ i. f (i / 0) (i % 0)) (range_with_len 0 n)) none)
any_cells f rows (suc cols) = cells_counted f (suc cols) (omega arith) rows
