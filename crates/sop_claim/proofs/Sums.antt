-- Sums over the views of all passes.
use Rattle.std.proofs.Common.{◌≡◌, ◌≢◌, ℕ, zero, suc, ◌+◌, ◌<◌, ◌≤◌, List, [], ◌∷◌, ◌++◌, set, refl, ap, sym, arith, ◌⊎◌, inl, inr}
use Rattle.std.proofs.lemmas.Bool.Decides.{nat_tests}
use Rattle.std.specs.Prelude.{slice_index}
use mathlib.Core.Option.{some, some-injective, some-ne-none}
use mathlib.Core.Logic.{dite}
use native.Mathlib.Decide.{ℕ_discrete}
use lib.ListN.{get_elem?}
use Rattle.sop_claim.specs.Views.{times}
use Rattle.sop_claim.specs.BoardRule.{total, once_below}

module _ {V : Type 0} where
  -- the total where one view is replaced
  pub total_set : (f : V → ℕ) (views : List V) (i : ℕ) (v w : V) → get_elem? views i ≡ some v → total f (set views i w) + f v ≡ total f views + f w
  total_set f [] i v w e = absurd (some-ne-none v (sym e))
  total_set f (x ∷ xs) zero v w e = let is : f x ≡ f v = ap f (some-injective x v e) in omega arith
  total_set f (x ∷ xs) (suc i) v w e = let r = total_set f xs i v w e in omega arith

  pub total_snoc : (f : V → ℕ) (views : List V) (w : V) → total f (views ++ w ∷ []) ≡ total f views + f w
  total_snoc f [] w = omega arith
  total_snoc f (x ∷ xs) w = let r = total_snoc f xs w in omega arith

  -- the total where one view is replaced and another is new
  pub total_split : (f : V → ℕ) (views : List V) (i : ℕ) (v left right : V) → get_elem? views i ≡ some v → total f (set views i left ++ right ∷ []) + f v ≡ total f views + f left + f right
  total_split f views i v left right at =
      let a = total_set f views i v left at in let b = total_snoc f (set views i left) right in omega arith

  -- the total where two views are replaced in turn
  pub total_both : (f : V → ℕ) (views : List V) (i j : ℕ) (v w both spent : V) → get_elem? views i ≡ some v → get_elem? (set views i both) j ≡ some w → total f (set (set views i both) j spent) + f w + f v ≡ total f views + f both + f spent
  total_both f views i j v w both spent at there =
      let a = total_set f views i v both at in let b = total_set f (set views i both) j w spent there in omega arith

  pub total_at : (f : V → ℕ) (views : List V) (i : ℕ) (v : V) → get_elem? views i ≡ some v → f v ≤ total f views
  total_at f [] i v e = absurd (some-ne-none v (sym e))
  total_at f (x ∷ xs) zero v e = let is : f x ≡ f v = ap f (some-injective x v e) in omega arith
  total_at f (x ∷ xs) (suc i) v e = let r = total_at f xs i v e in omega arith

  -- where f is nowhere more than g, the totals differ by no less than f and g do at one view
  pub total_less : (f g : V → ℕ) (views : List V) (i : ℕ) (v : V) → get_elem? views i ≡ some v → ((j : ℕ) (w : V) → get_elem? views j ≡ some w → f w ≤ g w) → total f views + g v ≤ total g views + f v
  total_less f g [] i v e less = absurd (some-ne-none v (sym e))
  total_less f g (x ∷ xs) zero v e less =
      let is : f x ≡ f v = ap f (some-injective x v e) in let same : g x ≡ g v = ap g (some-injective x v e) in let r = total_le xs (λ j w h. less (suc j) w h) in omega arith
    where
      total_le : (ys : List V) → ((j : ℕ) (w : V) → get_elem? ys j ≡ some w → f w ≤ g w) → total f ys ≤ total g ys
      total_le [] h = omega arith
      total_le (y ∷ ys) h = let a = h 0 y refl in let b = total_le ys (λ j w e. h (suc j) w e) in omega arith
  total_less f g (x ∷ xs) (suc i) v e less =
      let a = less 0 x refl in let b = total_less f g xs i v e (λ j w h. less (suc j) w h) in omega arith

  -- where f is 0 of each other view, its total is that of one
  pub total_alone : (f : V → ℕ) (views : List V) (i : ℕ) (v : V) → get_elem? views i ≡ some v → ((j : ℕ) (w : V) → j ≢ i → get_elem? views j ≡ some w → f w ≡ 0) → total f views ≡ f v
  total_alone f [] i v e none = absurd (some-ne-none v (sym e))
  total_alone f (x ∷ xs) zero v e none =
      let is : f x ≡ f v = ap f (some-injective x v e) in let r = all_none xs (λ j w g. none (suc j) w (λ h. omega arith) g) in omega arith
    where
      all_none : (ys : List V) → ((j : ℕ) (w : V) → get_elem? ys j ≡ some w → f w ≡ 0) → total f ys ≡ 0
      all_none [] h = refl
      all_none (y ∷ ys) h = let a = h 0 y refl in let b = all_none ys (λ j w g. h (suc j) w g) in omega arith
  total_alone f (x ∷ xs) (suc i) v e none =
      let a = none 0 x (λ h. omega arith) refl in let b = total_alone f xs i v e (λ j w n g. none (suc j) w (λ h. n (omega arith)) g) in omega arith

  -- two views are no more than all
  pub total_two : (f : V → ℕ) (views : List V) (i j : ℕ) (v w : V) → j ≢ i → get_elem? views i ≡ some v → get_elem? views j ≡ some w → f v + f w ≤ total f views
  total_two f [] i j v w n e g = absurd (some-ne-none v (sym e))
  total_two f (x ∷ xs) zero zero v w n e g = absurd (n refl)
  total_two f (x ∷ xs) zero (suc j) v w n e g = let is : f x ≡ f v = ap f (some-injective x v e) in let h = total_at f xs j w g in omega arith
  total_two f (x ∷ xs) (suc i) zero v w n e g = let is : f x ≡ f w = ap f (some-injective x w g) in let h = total_at f xs i v e in omega arith
  total_two f (x ∷ xs) (suc i) (suc j) v w n e g = let h = total_two f xs i j v w (λ (q : j ≡ i). n (ap suc q)) e g in omega arith

pub times-append : (x : ℕ) (ys zs : List ℕ) → times x (ys ++ zs) ≡ times x ys + times x zs
times-append x [] zs = omega arith
times-append x (y ∷ ys) zs = let r = times-append x ys zs in omega arith

pub times_here : (x k : ℕ) → x ≡ k → times x (k ∷ []) ≡ 1
times_here x k e = grind (arith, nat_tests)

pub times_else : (x k : ℕ) → x ≢ k → times x (k ∷ []) ≡ 0
times_else x k e = grind (arith, nat_tests)

-- where x stands once more, it stood there before or is the new one
pub times_snoc : (x k : ℕ) (xs : List ℕ) → 1 ≤ times x (xs ++ k ∷ []) → (1 ≤ times x xs) ⊎ (x ≡ k)
times_snoc x k xs any = dite (ℕ_discrete x k) (λ e. inr e) (λ ne. inl (let a = times-append x xs (k ∷ []) in let b = times_else x k ne in omega arith))

-- one number more is below the bound
pub once_more : (x k : ℕ) → once_below x (k + 1) ≡ once_below x k + times x (k ∷ [])
once_more x k = grind (arith, nat_tests)

pub once_within : (x n : ℕ) → 1 ≤ once_below x n → x < n
once_within x n h = grind (arith, nat_tests)

pub once_le : (x n : ℕ) → once_below x n ≤ 1
once_le x n = grind (arith, nat_tests)

pub index_at : (ns : List ℕ) (i n : ℕ) → get_elem? ns i ≡ some n → slice_index ns i ≡ n
index_at [] i n e = absurd (some-ne-none n (sym e))
index_at (m ∷ ns) zero n e = some-injective m n e
index_at (m ∷ ns) (suc i) n e = index_at ns i n e
