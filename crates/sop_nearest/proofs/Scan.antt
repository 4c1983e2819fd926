-- What the plain scan finds.
use Rattle.std.proofs.Common.{◌≡◌, ℕ, zero, suc, ◌+◌, ◌*◌, ◌<◌, ◌≤◌, Bool, true, false, List, [], ◌∷◌, length, map, refl, sym, ap, ◌∙◌, arith, leb, get_or, cond, leb-true, le-leb}
use Rattle.std.specs.Prelude.{sum_by, filter, All, Contains, IsPermutation, IsSorted}
use Rattle.std.specs.List.{range_with_len}
use Rattle.std.proofs.lemmas.List.Sorted.{IsPermutation-refl, IsPermutation-cons, IsPermutation-middle, IsPermutation-trans, IsPermutation-sym, Contains-permutation, All-permutation, sum_by-IsPermutation}
use Rattle.std.proofs.lemmas.List.Elements.{All-nil, All-cons, All-head, All-tail, All-weaker, All-map, All-filter, All-contains, filter_passes}
use Rattle.std.proofs.lemmas.List.FromFn.{length-range_with_len, get_or-range_with_len}
use Rattle.std.proofs.lemmas.Bool.Decides.{nat_tests}
use Rattle.sop_fixed.specs.declared.vec3.Vec3.{Vec3}
use Rattle.sop_nearest.specs.declared.hits.Hit.{Hit}
use Rattle.sop_nearest.specs.declared.hits.Ball.{Ball}
use Rattle.sop_nearest.specs.Places.{squared_at}
use Rattle.sop_nearest.specs.PlainScan.{stands_before, placed, inserted, ordered_by, numbers_within, plain_scan, IsNearby}
use Rattle.sop_nearest.specs.Cells.{share, worth, IsAllHits}
use Rattle.sop_nearest.proofs.Sums.{sum_by-map, sum_by-filter, sum_by-alike}
use Rattle.sop_nearest.proofs.Ordered.{Pairs, UpTo, hit_cmp, all_pairs-from, pairs-from_sorted, one_order}

-- ---- putting in order moves numbers only
placed_moves : (b : Bool) (n m : ℕ) (ms ns : List ℕ) → IsPermutation (n ∷ ms) ns → IsPermutation (n ∷ m ∷ ms) (placed b n m ms ns)
placed_moves true n m ms ns moved = IsPermutation-refl (n ∷ m ∷ ms)
placed_moves false n m ms ns moved =
    IsPermutation-trans (n ∷ m ∷ ms) (m ∷ n ∷ ms) (m ∷ ns)
    (IsPermutation-sym (m ∷ n ∷ ms) (n ∷ m ∷ ms) (IsPermutation-middle (m ∷ []) n ms))
    (IsPermutation-cons m (n ∷ ms) ns moved)

inserted-moves : (d : ℕ → ℕ) (n : ℕ) (ms : List ℕ) → IsPermutation (n ∷ ms) (inserted d n ms)
inserted-moves d n [] = IsPermutation-refl (n ∷ [])
inserted-moves d n (m ∷ ms) = placed_moves (stands_before d n m) n m ms (inserted d n ms) (inserted-moves d n ms)

pub ordered_by-moves : (d : ℕ → ℕ) (ns : List ℕ) → IsPermutation ns (ordered_by d ns)
ordered_by-moves d [] = IsPermutation-refl []
ordered_by-moves d (n ∷ ns) =
    IsPermutation-trans (n ∷ ns) (n ∷ ordered_by d ns) (inserted d n (ordered_by d ns))
    (IsPermutation-cons n ns (ordered_by d ns) (ordered_by-moves d ns))
    (inserted-moves d n (ordered_by d ns))

-- ---- and puts rising numbers in order
pub record Before (d : ℕ → ℕ) (n m : ℕ) : Type 0 where
  pub nearer : d n ≤ d m
  pub tied : d n ≡ d m → n < m

before-then : (d : ℕ → ℕ) (a b c : ℕ) → Before d a b → Before d b c → Before d a c
before-then d a b c p q = record { nearer = omega arith; tied = λ e. omega arith }

before-from : (d : ℕ → ℕ) (n m : ℕ) → stands_before d n m ≡ true → Before d n m
before-from d n m e = record { nearer = grind (arith, nat_tests); tied = λ f. grind (arith, nat_tests) }

behind-from : (d : ℕ → ℕ) (n m : ℕ) → stands_before d n m ≡ false → n < m → Before d m n
behind-from d n m e lt = record { nearer = grind (arith, nat_tests); tied = λ f. grind (arith, nat_tests) }

placed_ordered : (d : ℕ → ℕ) (n m : ℕ) (ms ns : List ℕ) (b : Bool) → stands_before d n m ≡ b → n < m → All (Before d m) ms → Pairs (Before d) ms → IsPermutation (n ∷ ms) ns → Pairs (Before d) ns → Pairs (Before d) (placed b n m ms ns)
placed_ordered d n m ms ns true e lt first rest moved in_order =
    let here : Before d n m = before-from d n m e in
    (All-cons (Before d n) m ms here (All-weaker (Before d m) (Before d n) (λ k. before-then d n m k here) ms first), (first, rest))
placed_ordered d n m ms ns false e lt first rest moved in_order =
    (All-permutation (Before d m) (n ∷ ms) ns moved (All-cons (Before d m) n ms (behind-from d n m e lt) first), in_order)

inserted-ordered : (d : ℕ → ℕ) (n : ℕ) (ms : List ℕ) → All (λ m. n < m) ms → Pairs (Before d) ms → Pairs (Before d) (inserted d n ms)
inserted-ordered d n [] above pairs = (All-nil (Before d n), tt)
inserted-ordered d n (m ∷ ms) above pairs =
    placed_ordered d n m ms (inserted d n ms) (stands_before d n m) refl (All-head (λ m. n < m) m ms above) pairs.0 pairs.1 (inserted-moves d n ms)
    (inserted-ordered d n ms (All-tail (λ m. n < m) m ms above) pairs.1)

ordered_by-ordered : (d : ℕ → ℕ) (ns : List ℕ) → Pairs (λ n m. n < m) ns → Pairs (Before d) (ordered_by d ns)
ordered_by-ordered d [] rising = tt
ordered_by-ordered d (n ∷ ns) rising =
    inserted-ordered d n (ordered_by d ns) (All-permutation (λ m. n < m) ns (ordered_by d ns) (ordered_by-moves d ns) rising.0) (ordered_by-ordered d ns rising.1)

-- ---- the numbers within
range-above : (a n : ℕ) → All (λ m. a ≤ m) (range_with_len a n)
range-above a zero = All-nil (λ m. a ≤ m)
range-above a (suc n) = All-cons (λ m. a ≤ m) a (range_with_len (a + 1) n) (omega arith) (All-weaker (λ m. a + 1 ≤ m) (λ m. a ≤ m) (λ m h. omega arith) (range_with_len (a + 1) n) (range-above (a + 1) n))

pub range-below : (a n : ℕ) → All (λ m. m < a + n) (range_with_len a n)
range-below a zero = All-nil (λ m. m < a + zero)
range-below a (suc n) = All-cons (λ m. m < a + suc n) a (range_with_len (a + 1) n) (omega arith) (All-weaker (λ m. m < a + 1 + n) (λ m. m < a + suc n) (λ m h. omega arith) (range_with_len (a + 1) n) (range-below (a + 1) n))

range-rising : (a n : ℕ) → Pairs (λ n m. n < m) (range_with_len a n)
range-rising a zero = tt
range-rising a (suc n) =
    (All-weaker (λ m. a + 1 ≤ m) (λ m. a < m) (λ m h. omega arith) (range_with_len (a + 1) n) (range-above (a + 1) n), range-rising (a + 1) n)

kept_rising : (R : ℕ → ℕ → Type 0) (b : Bool) (x : ℕ) (xs : List ℕ) → All (R x) xs → Pairs R xs → Pairs R (cond b (x ∷ xs) xs)
kept_rising R true x xs first rest = (first, rest)
kept_rising R false x xs first rest = rest

pairs-filter : (R : ℕ → ℕ → Type 0) (p : ℕ → Bool) (xs : List ℕ) → Pairs R xs → Pairs R (filter p xs)
pairs-filter R p [] pairs = tt
pairs-filter R p (x ∷ xs) pairs = kept_rising R (p x) x (filter p xs) (All-filter p (R x) xs pairs.0) (pairs-filter R p xs pairs.1)

contains-cons : (y : ℕ) (xs : List ℕ) (x : ℕ) → Contains xs x → Contains (y ∷ xs) x
contains-cons y xs x (k, below, here) = (suc k, omega arith, here)

kept_in : (b : Bool) (y : ℕ) (xs : List ℕ) (x : ℕ) → Contains xs x → Contains (cond b (y ∷ xs) xs) x
kept_in true y xs x found = contains-cons y xs x found
kept_in false y xs x found = found

contains-filter : (p : ℕ → Bool) (xs : List ℕ) (x : ℕ) (k : ℕ) → k < length xs → get_or xs k x ≡ x → p x ≡ true → Contains (filter p xs) x
contains-filter p [] x k below here passes = absurd (omega arith)
contains-filter p (y ∷ xs) x zero below here passes =
    let e : p y ≡ true = ap p here ∙ passes in
    rw e (0, omega arith, here)
contains-filter p (y ∷ xs) x (suc k) below here passes = kept_in (p y) y (filter p xs) x (contains-filter p xs x k (omega arith) here passes)

-- ---- the scan finds what is nearby
pub scan_is_nearby : (places : List Vec3) (center : Vec3) (radius : ℕ) → IsNearby places center radius (plain_scan places center radius)
scan_is_nearby places center radius =
    let d = squared_at places center in
    let p : ℕ → Bool = λ n. leb (d n) (radius * radius) in
    let range = range_with_len 0 (length places) in
    let ns = filter p range in
    let moves : IsPermutation ns (ordered_by d ns) = ordered_by-moves d ns in
    let rising : Pairs (λ n m. n < m) ns = pairs-filter (λ n m. n < m) p range (range-rising 0 (length places)) in
    let pairs = all_pairs-from (Before d) (ordered_by d ns) (ordered_by-ordered d ns rising) in
    record {
      members = λ n. (λ found. inside n (Contains-permutation (ordered_by d ns) ns n (IsPermutation-sym ns (ordered_by d ns) moves) found), λ both. Contains-permutation ns (ordered_by d ns) n moves (contains-filter p range n n (omega (arith, length-range_with_len 0 (length places))) (get_or-range_with_len 0 (length places) n n both.0 ∙ (let e : 0 + n ≡ n = omega arith in e)) (le-leb _ _ both.1)));
      ordered = λ i j e lt below. let b = pairs i j e lt below in record { nearer = b.nearer; tied = b.tied };
    }
  where
    inside : (n : ℕ) → Contains (numbers_within places center radius) n → (n < length places) × (squared_at places center n ≤ radius * radius)
    inside n found =
        let p : ℕ → Bool = λ n. leb (squared_at places center n) (radius * radius) in
        let range = range_with_len 0 (length places) in
        let below : n < 0 + length places = All-contains (λ m. m < 0 + length places) (filter p range) n (All-filter p (λ m. m < 0 + length places) range (range-below 0 (length places))) found in
        (omega arith, leb-true _ _ (All-contains (λ m. p m ≡ true) (filter p range) n (filter_passes p range) found))

-- ---- and the sorted hits are those of the scan
hit_of : List Vec3 → Vec3 → ℕ → Hit
hit_of places center n = record { squared = squared_at places center n; number = n }

numbers_of : (places : List Vec3) (center : Vec3) (ns : List ℕ) → map (λ h. h.number) (map (hit_of places center) ns) ≡ ns
unfolding hit_of
numbers_of places center [] = refl
numbers_of places center (n ∷ ns) = ap (λ l. n ∷ l) (numbers_of places center ns)

pairs-hits : (places : List Vec3) (center : Vec3) (ns : List ℕ) → Pairs (Before (squared_at places center)) ns → Pairs UpTo (map (hit_of places center) ns)
unfolding hit_of
pairs-hits places center [] pairs = tt
pairs-hits places center (n ∷ ns) pairs =
    let d = squared_at places center in
    (All-map (UpTo (record { squared = d n; number = n })) (λ m. record { squared = d m; number = m }) ns (All-weaker (Before d n) (λ m. UpTo (record { squared = d n; number = n }) (record { squared = d m; number = m })) (λ m b. record { squared = b.nearer; number = λ e. omega (arith, b.tied e) }) ns pairs.0), pairs-hits places center ns pairs.1)

one_hit : (b : Bool) (f : Hit → ℕ) (h : Hit) → share b (f h) ≡ sum_by f (cond b (h ∷ []) [])
one_hit true f h = omega arith
one_hit false f h = refl

pub numbers-from_sorted : (places : List Vec3) (ball : Ball) (hits sorted : List Hit) → IsAllHits places ball hits → IsPermutation hits sorted → IsSorted hit_cmp sorted → map (λ h. h.number) sorted ≡ plain_scan places ball.center ball.radius
unfolding hit_of
numbers-from_sorted places ball hits sorted all moved in_order =
    let d = squared_at places ball.center in
    let p : ℕ → Bool = λ n. leb (d n) (ball.radius * ball.radius) in
    let range = range_with_len 0 (length places) in
    let ns = filter p range in
    let scan = ordered_by d ns in
    let rising : Pairs (λ n m. n < m) ns = pairs-filter (λ n m. n < m) p range (range-rising 0 (length places)) in
    let same : (f : Hit → ℕ) → sum_by f sorted ≡ sum_by f (map (hit_of places ball.center) scan) =
    λ f. sum_by-IsPermutation f hits sorted moved ∙ all.sums f
    ∙ sum_by-alike (worth places ball f) (λ n. share (p n) (f (hit_of places ball.center n))) (λ _. Unit {0}) (λ n _. sym (one_hit (p n) f (hit_of places ball.center n))) range (λ _ _ _. tt)
    ∙ sym (sum_by-filter p (λ n. f (hit_of places ball.center n)) range)
    ∙ sym (sum_by-IsPermutation (λ n. f (hit_of places ball.center n)) ns scan (ordered_by-moves d ns))
    ∙ sym (sum_by-map f (hit_of places ball.center) scan) in
    let one : sorted ≡ map (hit_of places ball.center) scan = one_order sorted (map (hit_of places ball.center) scan) (pairs-from_sorted sorted in_order) (pairs-hits places ball.center scan (ordered_by-ordered d ns rising)) same in
    ap (map (λ h. h.number)) one ∙ numbers_of places ball.center scan
