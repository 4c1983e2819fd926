-- Lists in order: what stands in order by a total order is determined by its elements.
use Rattle.std.proofs.Common.{◌≡◌, ℕ, zero, suc, ◌+◌, ◌≤◌, Bool, false, List, [], ◌∷◌, refl, sym, ap, subst, arith, ltb, eqb, ◌||◌, ◌&&◌, get_or, drop}
use Rattle.std.specs.Prelude.{sum_by, All, IsSorted}
use Rattle.std.specs.List.Sorted.{IsSortedBy}
use Rattle.std.specs.List.{AllPairs}
use Rattle.std.specs.Ordering.{is_lt, nat_cmp, ordering_then}
use Rattle.std.specs.declared.cmp.Ordering.{Ordering}
use Rattle.std.proofs.lemmas.List.Sums.{sum_by-cons}
use Rattle.std.proofs.lemmas.List.Elements.{All-nil, All-cons, All-weaker}
use Rattle.std.proofs.lemmas.Bool.Decides.{nat_tests}
use Rattle.sop_nearest.specs.declared.hits.Hit.{Hit}
use Rattle.sop_nearest.specs.Cells.{share}
use Rattle.sop_nearest.proofs.Sums.{sum_by-alike, sum_by-none}

-- ---- pairs, by recursion on the list
abbrev pub Pairs : {X : Type 0} → (X → X → Type 0) → List X → Type 0
Pairs R [] = Unit {0}
Pairs R (x ∷ xs) = All (R x) xs × Pairs R xs

pairs_at : {X : Type 0} (R : X → X → Type 0) (x : X) (xs : List X) → All (R x) xs → AllPairs R xs → AllPairs R (x ∷ xs)
pairs_at R x xs first rest zero zero d lt below = absurd (omega arith)
pairs_at R x xs first rest zero (suc j) d lt below = first j d (omega arith)
pairs_at R x xs first rest (suc i) zero d lt below = absurd (omega arith)
pairs_at R x xs first rest (suc i) (suc j) d lt below = rest i j d (omega arith) (omega arith)

pub all_pairs-from : {X : Type 0} (R : X → X → Type 0) (xs : List X) → Pairs R xs → AllPairs R xs
all_pairs-from R [] pairs = λ i j d lt below. absurd (omega arith)
all_pairs-from R (x ∷ xs) pairs = pairs_at R x xs pairs.0 (all_pairs-from R xs pairs.1)

-- ---- what is sorted, without its front
pub sorted_tail : {X : Type 0} (lt : X → X → Bool) (x : X) (xs : List X) → IsSortedBy lt (x ∷ xs) → IsSortedBy lt xs
sorted_tail lt x xs sorted k d low high =
    let e : suc k + 1 ≡ suc (k + 1) = omega arith in
    subst (λ n. lt (get_or (x ∷ xs) n d) (get_or xs k d) ≡ false) e (sorted (suc k) d (omega arith) (omega arith))

pub sorted_drop : {X : Type 0} (lt : X → X → Bool) (n : ℕ) (xs : List X) → IsSortedBy lt xs → IsSortedBy lt (drop n xs)
sorted_drop lt zero xs sorted = sorted
sorted_drop lt (suc n) [] sorted = sorted
sorted_drop lt (suc n) (x ∷ xs) sorted = sorted_drop lt n xs (sorted_tail lt x xs sorted)

-- ---- hits
-- h doesn't stand behind k
pub record UpTo (h k : Hit) : Type 0 where
  pub squared : h.squared ≤ k.squared
  pub number : h.squared ≡ k.squared → h.number ≤ k.number

abbrev pub hit_cmp : Hit → Hit → Ordering
hit_cmp h k = ordering_then (nat_cmp h.squared k.squared) (nat_cmp h.number k.number)

up_to : (a b m n : ℕ) → is_lt (ordering_then (nat_cmp a b) (nat_cmp m n)) ≡ false → (b ≤ a) × (b ≡ a → n ≤ m)
up_to a b m n h = (grind (arith, nat_tests), λ e. grind (arith, nat_tests))

up_to-from : (h k : Hit) → is_lt (hit_cmp k h) ≡ false → UpTo h k
up_to-from h k e = let both = up_to k.squared h.squared k.number h.number e in record { squared = both.0; number = both.1 }

up_to-itself : (h : Hit) → UpTo h h
up_to-itself h = record { squared = omega arith; number = λ e. omega arith }

up_to-then : (h k l : Hit) → UpTo h k → UpTo k l → UpTo h l
up_to-then h k l a b = record { squared = omega arith; number = λ e. omega arith }

up_to-both : (h k : Hit) → UpTo h k → UpTo k h → h ≡ k
up_to-both h k a b =
    let s : h.squared ≡ k.squared = omega arith in
    let n : h.number ≡ k.number = omega arith in
    λ i. record { squared = s i; number = n i }

-- sorted hits stand in order
pub pairs-from_sorted : (xs : List Hit) → IsSorted hit_cmp xs → Pairs UpTo xs
pairs-from_sorted [] sorted = tt
pairs-from_sorted (x ∷ []) sorted = (All-nil (UpTo x), tt)
pairs-from_sorted (x ∷ y ∷ ys) sorted =
    let first : UpTo x y = up_to-from x y (sorted 0 x (omega arith) (omega arith)) in
    let rest : Pairs UpTo (y ∷ ys) = pairs-from_sorted (y ∷ ys) (sorted_tail (λ a b. is_lt (hit_cmp a b)) x (y ∷ ys) sorted) in
    (All-cons (UpTo x) y ys first (All-weaker (UpTo y) (UpTo x) (λ z. up_to-then x y z first) ys rest.0), rest)

-- ---- two such lists with the same hits are one
before : Hit → Hit → Bool
before h k = ltb h.squared k.squared || (eqb h.squared k.squared && ltb h.number k.number)

not_before : (h k : Hit) → UpTo k h → before h k ≡ false
unfolding before
not_before h k up = grind (arith, nat_tests, up.squared, up.number)

up_to-from_not_before : (h k : Hit) → share (before h k) 1 ≡ 0 → UpTo k h
unfolding before
up_to-from_not_before h k none = record { squared = grind (arith, nat_tests); number = λ e. grind (arith, nat_tests) }

none_before : (k : Hit) (ks : List Hit) → All (UpTo k) ks → sum_by (λ h. share (before h k) 1) (k ∷ ks) ≡ 0
none_before k ks all =
    let f : Hit → ℕ = λ h. share (before h k) 1 in
    let one : (h : Hit) → UpTo k h → f h ≡ 0 = λ h up. ap (λ b. share b 1) (not_before h k up) in
    omega (arith, sum_by-cons f k ks, one k (up_to-itself k), sum_by-alike f (λ _. 0) (UpTo k) one ks all, sum_by-none (λ (h : Hit). 0) (λ _. refl) ks)

first_least : (h k : Hit) (hs ks : List Hit) → All (UpTo k) ks → ((f : Hit → ℕ) → sum_by f (h ∷ hs) ≡ sum_by f (k ∷ ks)) → UpTo k h
first_least h k hs ks all same =
    let f : Hit → ℕ = λ l. share (before l k) 1 in
    up_to-from_not_before h k (omega (arith, same f, none_before k ks all, sum_by-cons f h hs))

pub one_order : (xs ys : List Hit) → Pairs UpTo xs → Pairs UpTo ys → ((f : Hit → ℕ) → sum_by f xs ≡ sum_by f ys) → xs ≡ ys
one_order [] [] up vp same = refl
one_order [] (y ∷ ys) up vp same = absurd (omega (arith, same (λ _. 1), sum_by-cons (λ (h : Hit). 1) y ys))
one_order (x ∷ xs) [] up vp same = absurd (omega (arith, same (λ _. 1), sum_by-cons (λ (h : Hit). 1) x xs))
one_order (x ∷ xs) (y ∷ ys) up vp same =
    let e : x ≡ y = up_to-both x y (first_least y x ys xs up.0 (λ f. sym (same f))) (first_least x y xs ys vp.0 same) in
    let rest : xs ≡ ys = one_order xs ys up.1 vp.1 (λ f. omega (arith, same f, sum_by-cons f x xs, sum_by-cons f y ys, ap f e)) in
    λ i. e i ∷ rest i
