-- Hits that come from cells.
use Rattle.std.proofs.Common.{◌≡◌, ℕ, zero, suc, ◌+◌, ◌*◌, ◌<◌, ◌≤◌, Bool, true, false, List, [], ◌∷◌, ◌++◌, length, map, refl, sym, ap, subst, ◌∙◌, arith, ltb, leb, eqb, ◌&&◌, ◌||◌, get_or, cond, zero-add}
use Rattle.std.specs.Prelude.{sum_by, filter, All, IsTrue}
use Rattle.std.specs.List.{flat_map, range_with_len}
use Rattle.std.proofs.lemmas.List.{flat_map_more}
use Rattle.std.proofs.lemmas.List.Sums.{sum_by-append}
use Rattle.std.proofs.lemmas.List.Sorted.{All-permutation, sum_by-IsPermutation}
use Rattle.std.proofs.lemmas.List.Elements.{All-map, All-weaker}
use Rattle.std.proofs.lemmas.Bool.{leb-true}
use Rattle.std.proofs.lemmas.Bool.Decides.{nat_tests}
use Rattle.sop_fixed.specs.declared.vec3.Vec3.{Vec3}
use Rattle.sop_nearest.specs.declared.cells.Cell.{Cell}
use Rattle.sop_nearest.specs.declared.cells.Spot.{Spot}
use Rattle.sop_nearest.specs.declared.cells.Span.{Span}
use Rattle.sop_nearest.specs.declared.hits.Hit.{Hit}
use Rattle.sop_nearest.specs.declared.hits.Ball.{Ball}
use Rattle.sop_nearest.specs.Places.{place_at, squared, squared_at}
use Rattle.sop_nearest.specs.Cells.{cell_of, spot_at, share, worth, hits_at, hits_from, is_in, is_in_row, is_in_slab, is_in_reach, IsGrid, AddsHits, IsAllHits}
use Rattle.sop_nearest.proofs.Sums.{sum_by-alike, sum_by-both, sum_by-none, sum_by-map, sum_by-flat_map, sum_by-filter}
use Rattle.sop_nearest.proofs.Scan.{range-below}
use Rattle.sop_nearest.proofs.Grid.{place_is}

-- ---- hits added, part by part
pub adds_nothing : (places : List Vec3) (ball : Ball) (spots : List Spot) (cells : Cell → Bool) (hits : List Hit) → ((k : Cell) → cells k ≡ false) → AddsHits places ball spots cells hits hits
adds_nothing places ball spots cells hits none = record {
  sums = λ f. let w : Spot → ℕ = λ s. share (cells s.cell) (worth places ball f s.number) in
      omega (arith, sum_by-none w (λ s. ap (λ b. share b (worth places ball f s.number)) (none s.cell)) spots);
}

pub adds_alike : (places : List Vec3) (ball : Ball) (spots : List Spot) (c d : Cell → Bool) (old new : List Hit) → ((k : Cell) → c k ≡ d k) → AddsHits places ball spots c old new → AddsHits places ball spots d old new
adds_alike places ball spots c d old new same adds = record {
  sums = λ f. adds.sums f ∙ ap (λ n. sum_by f old + n) (sum_by-alike (λ s. share (c s.cell) (worth places ball f s.number)) (λ s. share (d s.cell) (worth places ball f s.number)) (λ _. Unit {0}) (λ s _. ap (λ b. share b (worth places ball f s.number)) (same s.cell)) spots (λ _ _ _. tt));
}

pub adds_then : (places : List Vec3) (ball : Ball) (spots : List Spot) (c d e : Cell → Bool) (first mid last : List Hit) → ((k : Cell) (n : ℕ) → share (c k) n + share (d k) n ≡ share (e k) n) → AddsHits places ball spots c first mid → AddsHits places ball spots d mid last → AddsHits places ball spots e first last
adds_then places ball spots c d e first mid last both a b = record {
  sums = λ f. omega (arith, a.sums f, b.sums f, sum_by-both (λ s. share (c s.cell) (worth places ball f s.number)) (λ s. share (d s.cell) (worth places ball f s.number)) (λ s. share (e s.cell) (worth places ball f s.number)) (λ s. both s.cell (worth places ball f s.number)) spots);
}

-- the hits of the points in some cells, put behind others
pub adds_these : (places : List Vec3) (ball : Ball) (spots : List Spot) (cells : Cell → Bool) (old new : List Hit) (some : List Spot) → some ≡ filter (λ s. cells s.cell) spots → new ≡ old ++ flat_map (λ s. hits_at places ball s.number) some → AddsHits places ball spots cells old new
adds_these places ball spots cells old new some are added = record {
  sums = λ f. ap (sum_by f) added
      ∙ sum_by-append f old (flat_map (λ s. hits_at places ball s.number) some)
      ∙ ap (λ n. sum_by f old + n) (sum_by-flat_map f (λ s. hits_at places ball s.number) some
      ∙ ap (sum_by (λ s. worth places ball f s.number)) are
      ∙ sum_by-filter (λ s. cells s.cell) (λ s. worth places ball f s.number) spots);
}

-- ---- one more row, and one more slab
split : (b c : Bool) (n : ℕ) → (b && c) ≡ false → share b n + share c n ≡ share (b || c) n
split true true n apart = cc
split true false n apart = omega arith
split false c n apart = zero-add (share c n)

next_apart : (low i k : ℕ) → ((leb low k && ltb k i) && eqb k i) ≡ false
next_apart low i k = grind (arith, nat_tests)

next_in : (low i k : ℕ) → low ≤ i → ((leb low k && ltb k i) || eqb k i) ≡ (leb low k && ltb k (i + 1))
next_in low i k le = grind (arith, nat_tests)

share-and : (b c : Bool) (n : ℕ) → share (b && c) n ≡ share b (share c n)
share-and true c n = refl
share-and false c n = refl

share-add : (b : Bool) (m n : ℕ) → share b m + share b n ≡ share b (m + n)
share-add true m n = refl
share-add false m n = refl

one_more : (low i k : ℕ) (n : ℕ) → low ≤ i → share (leb low k && ltb k i) n + share (eqb k i) n ≡ share (leb low k && ltb k (i + 1)) n
one_more low i k n le = split (leb low k && ltb k i) (eqb k i) n (next_apart low i k) ∙ ap (λ b. share b n) (next_in low i k le)

outer_more : (low i k : ℕ) (c : Bool) (n : ℕ) → low ≤ i → share ((leb low k && ltb k i) && c) n + share (eqb k i && c) n ≡ share ((leb low k && ltb k (i + 1)) && c) n
outer_more low i k c n le =
    let a = leb low k && ltb k i in
    let b = eqb k i in
    let d = leb low k && ltb k (i + 1) in
    omega (arith, share-and a c n, share-and b c n, share-and d c n, one_more low i k (share c n) le)

inner_more : (a : Bool) (low i k : ℕ) (c : Bool) (n : ℕ) → low ≤ i → share (a && ((leb low k && ltb k i) && c)) n + share (a && (eqb k i && c)) n ≡ share (a && ((leb low k && ltb k (i + 1)) && c)) n
inner_more true low i k c n le = outer_more low i k c n le
inner_more false low i k c n le = refl

pub slab_more : (places : List Vec3) (ball : Ball) (spots : List Spot) (x low y : ℕ) (z : Span) (first mid last : List Hit) (row : List Spot) → low ≤ y
    → AddsHits places ball spots (is_in_slab x (record { low = low; end = y }) z) first mid
    → row ≡ filter (λ s. is_in_row x y z s.cell) spots → last ≡ mid ++ flat_map (λ s. hits_at places ball s.number) row
    → AddsHits places ball spots (is_in_slab x (record { low = low; end = y + 1 }) z) first last
slab_more places ball spots x low y z first mid last row le adds are added =
    adds_then places ball spots (is_in_slab x (record { low = low; end = y }) z) (is_in_row x y z) (is_in_slab x (record { low = low; end = y + 1 }) z) first mid last
    (λ k n. inner_more (eqb k.x x) low y k.y (is_in z k.z) n le)
    adds (adds_these places ball spots (is_in_row x y z) mid last row are added)

pub reach_more : (places : List Vec3) (ball : Ball) (spots : List Spot) (low x : ℕ) (y z : Span) (first mid last : List Hit) → low ≤ x
    → AddsHits places ball spots (is_in_reach (record { low = low; end = x }) y z) first mid
    → AddsHits places ball spots (is_in_slab x y z) mid last
    → AddsHits places ball spots (is_in_reach (record { low = low; end = x + 1 }) y z) first last
reach_more places ball spots low x y z first mid last le adds more =
    adds_then places ball spots (is_in_reach (record { low = low; end = x }) y z) (is_in_slab x y z) (is_in_reach (record { low = low; end = x + 1 }) y z) first mid last
    (λ k n. outer_more low x k.x (is_in y k.y && is_in z k.z) n le) adds more

-- ---- before the first, and behind the last
none_in : (low k : ℕ) → (leb low k && ltb k low) ≡ false
none_in low k = grind (arith, nat_tests)

all_in : (low i end k : ℕ) → end ≤ i → (low ≤ end → i ≤ end) → (end ≤ low → i ≡ low) → (leb low k && ltb k i) ≡ (leb low k && ltb k end)
all_in low i end k past within still = grind (arith, nat_tests)

nothing : (a b c : Bool) → b ≡ false → (a && (b && c)) ≡ false
nothing true b c none = ap (λ b. b && c) none
nothing false b c none = refl

pub slab_none : (places : List Vec3) (ball : Ball) (spots : List Spot) (x low : ℕ) (z : Span) (hits : List Hit) → AddsHits places ball spots (is_in_slab x (record { low = low; end = low }) z) hits hits
slab_none places ball spots x low z hits = adds_nothing places ball spots (is_in_slab x (record { low = low; end = low }) z) hits (λ k. nothing (eqb k.x x) (leb low k.y && ltb k.y low) (is_in z k.z) (none_in low k.y))

pub reach_none : (places : List Vec3) (ball : Ball) (spots : List Spot) (low : ℕ) (y z : Span) (hits : List Hit) → AddsHits places ball spots (is_in_reach (record { low = low; end = low }) y z) hits hits
reach_none places ball spots low y z hits = adds_nothing places ball spots (is_in_reach (record { low = low; end = low }) y z) hits (λ k. ap (λ b. b && (is_in y k.y && is_in z k.z)) (none_in low k.x))

pub slab_all : (places : List Vec3) (ball : Ball) (spots : List Spot) (x i : ℕ) (y z : Span) (old new : List Hit) → y.end ≤ i → (y.low ≤ y.end → i ≤ y.end) → (y.end ≤ y.low → i ≡ y.low)
    → AddsHits places ball spots (is_in_slab x (record { low = y.low; end = i }) z) old new → AddsHits places ball spots (is_in_slab x y z) old new
slab_all places ball spots x i y z old new past within still =
    adds_alike places ball spots (is_in_slab x (record { low = y.low; end = i }) z) (is_in_slab x y z) old new
    (λ k. ap (λ b. eqb k.x x && (b && is_in z k.z)) (all_in y.low i y.end k.y past within still))

pub reach_all : (places : List Vec3) (ball : Ball) (spots : List Spot) (i : ℕ) (x y z : Span) (old new : List Hit) → x.end ≤ i → (x.low ≤ x.end → i ≤ x.end) → (x.end ≤ x.low → i ≡ x.low)
    → AddsHits places ball spots (is_in_reach (record { low = x.low; end = i }) y z) old new → AddsHits places ball spots (is_in_reach x y z) old new
reach_all places ball spots i x y z old new past within still =
    adds_alike places ball spots (is_in_reach (record { low = x.low; end = i }) y z) (is_in_reach x y z) old new
    (λ k. ap (λ b. b && (is_in y k.y && is_in z k.z)) (all_in x.low i x.end k.x past within still))

-- ---- the points of a grid
record IsSpotOf (side : ℕ) (places : List Vec3) (s : Spot) : Type 0 where
  number : s.number < length places
  cell : s.cell ≡ cell_of side (place_at places s.number)

all_spots : (side : ℕ) (places : List Vec3) (spots : List Spot) → IsGrid side places spots → All (IsSpotOf side places) spots
all_spots side places spots grid =
    let range = range_with_len 0 (length places) in
    All-permutation (IsSpotOf side places) (map (spot_at side places) range) spots grid.all
    (All-map (IsSpotOf side places) (spot_at side places) range
    (All-weaker (λ n. n < 0 + length places) (λ n. IsSpotOf side places (spot_at side places n)) (λ n below. record { number = omega arith; cell = refl }) range (range-below 0 (length places))))

pub numbers_below : (side : ℕ) (places : List Vec3) (spots : List Spot) → IsGrid side places spots → All (λ s. s.number < length places) spots
numbers_below side places spots grid = All-weaker (IsSpotOf side places) (λ s. s.number < length places) (λ s is. is.number) spots (all_spots side places spots grid)

no_worth : (b : Bool) (f : Hit → ℕ) (h : Hit) (c : Bool) → (b ≡ true → c ≡ true) → share c (sum_by f (cond b (h ∷ []) [])) ≡ sum_by f (cond b (h ∷ []) [])
no_worth true f h c covers = ap (λ c. share c (sum_by f (h ∷ []))) (covers refl)
no_worth false f h true covers = refl
no_worth false f h false covers = refl

pub asked_all : (side : ℕ) (places : List Vec3) (ball : Ball) (spots : List Spot) (cells : Cell → Bool) (hits : List Hit) → IsGrid side places spots
    → ((place : Vec3) → squared place ball.center ≤ ball.radius * ball.radius → IsTrue (cells (cell_of side place)))
    → AddsHits places ball spots cells [] hits → IsAllHits places ball hits
asked_all side places ball spots cells hits grid covers adds = record {
  sums = λ f.
      let w : Spot → ℕ = λ s. worth places ball f s.number in
      let range = range_with_len 0 (length places) in
      adds.sums f
      ∙ zero-add (sum_by (λ s. share (cells s.cell) (w s)) spots)
      ∙ sum_by-alike (λ s. share (cells s.cell) (w s)) w (IsSpotOf side places)
      (λ s is. no_worth (leb (squared_at places ball.center s.number) (ball.radius * ball.radius)) f (record { squared = squared_at places ball.center s.number; number = s.number }) (cells s.cell)
      (λ near. ap cells is.cell ∙ covers (place_at places s.number) (leb-true (squared_at places ball.center s.number) (ball.radius * ball.radius) near)))
      spots (all_spots side places spots grid)
      ∙ sum_by-IsPermutation w (map (spot_at side places) range) spots grid.all
      ∙ sum_by-map w (spot_at side places) range;
}

pub scanned_all : (places : List Vec3) (ball : Ball) (hits : List Hit) → hits ≡ [] ++ flat_map (hits_at places ball) (range_with_len 0 (length places)) → IsAllHits places ball hits
scanned_all places ball hits are = record {
  sums = λ f. ap (sum_by f) are ∙ sum_by-flat_map f (hits_at places ball) (range_with_len 0 (length places));
}

-- ---- the same, as the code has it
pub numbers_from : (side : ℕ) (places : List Vec3) (spots : List Spot) (ps : List Vec3) (ss : List Spot) → IsGrid side places spots → ps ≡ places → ss ≡ spots → All (λ s. s.number < length ps) ss
numbers_from side places spots ps ss grid p q = rw (p, q) (numbers_below side places spots grid)

pub asked_from : (side : ℕ) (places : List Vec3) (ball : Ball) (spots : List Spot) (cells : Cell → Bool) (now ps : List Vec3) (ss : List Spot) (old new : List Hit) → IsGrid side places spots
    → places ≡ now → ps ≡ places → ss ≡ spots → old ≡ []
    → ((place : Vec3) → squared place ball.center ≤ ball.radius * ball.radius → IsTrue (cells (cell_of side place)))
    → AddsHits ps ball ss cells old new → IsAllHits now ball new
asked_from side places ball spots cells now ps ss old new grid same p q none covers adds =
    let one : AddsHits places ball ss cells old new = subst (λ l. AddsHits l ball ss cells old new) p adds in
    let two : AddsHits places ball spots cells old new = subst (λ l. AddsHits places ball l cells old new) q one in
    let three : AddsHits places ball spots cells [] new = subst (λ l. AddsHits places ball spots cells l new) none two in
    subst (λ l. IsAllHits l ball new) same (asked_all side places ball spots cells new grid covers three)

pub scanned_from : (places : List Vec3) (ball : Ball) (now ps : List Vec3) (old new : List Hit) → places ≡ now → ps ≡ places → old ≡ []
    → new ≡ old ++ flat_map (hits_at ps ball) (range_with_len 0 (length ps)) → IsAllHits now ball new
scanned_from places ball now ps old new same p none are =
    subst (λ l. IsAllHits l ball new) (p ∙ same) (scanned_all ps ball new (are ∙ ap (λ l. l ++ flat_map (hits_at ps ball) (range_with_len 0 (length ps))) none))

-- one more point of the scan
range_more : (a n : ℕ) → range_with_len a (n + 1) ≡ range_with_len a n ++ (a + n) ∷ []
range_more a zero = let e : a ≡ a + 0 = omega arith in ap (λ k. k ∷ []) e
range_more a (suc n) =
    let e : suc n + 1 ≡ suc (n + 1) = omega arith in
    let f : a + 1 + n ≡ a + suc n = omega arith in
    ap (range_with_len a) e ∙ ap (λ l. a ∷ l) (range_more (a + 1) n ∙ ap (λ k. range_with_len (a + 1) n ++ k ∷ []) f)

pub scan_more : (places : List Vec3) (ball : Ball) (i : ℕ) (place : Vec3) (old mid new : List Hit) → i < length places → place ≡ get_or places i place
    → mid ≡ old ++ flat_map (hits_at places ball) (range_with_len 0 i) → new ≡ mid ++ hits_from ball place i
    → new ≡ old ++ flat_map (hits_at places ball) (range_with_len 0 (i + 1))
scan_more places ball i place old mid new below is before added =
    added ∙ ap (λ l. l ++ hits_from ball place i) before
    ∙ ap (λ p. (old ++ flat_map (hits_at places ball) (range_with_len 0 i)) ++ hits_from ball p i) (place_is places i place below is)
    ∙ flat_map_more (hits_at places ball) old (range_with_len 0 i) i
    ∙ ap (λ l. old ++ flat_map (hits_at places ball) l) (ap (λ k. range_with_len 0 i ++ k ∷ []) (sym (zero-add i)) ∙ sym (range_more 0 i))
