-- Points in cells: parts of a sorted list, and the cells that a ball reaches.
use Rattle.std.proofs.Common.{◌≡◌, ℕ, zero, suc, ◌+◌, ◌-◌, ◌*◌, ◌<◌, ◌≤◌, Bool, true, false, not, List, [], ◌∷◌, length, map, refl, sym, ap, subst, ◌∙◌, arith, ltb, leb, eqb, ◌&&◌, get_or, take, drop, cond, inl, inr, zero-add, ◌++◌, ◌^◌, unsigned_abs, ◌-ℤ◌, min}
use Rattle.std.specs.Prelude.{filter, IsSortedByKey, IsPermutation}
use Rattle.std.specs.List.{AllWithin, range_with_len}
use Rattle.std.specs.List.Sorted.{IsPartitionedBy, IsPartitionPoint, IsNonDecreasingBy}
use Rattle.std.specs.Cmp.{IsTotalOrder}
use Rattle.std.specs.Ordering.{is_lt, ordering_index}
use Rattle.std.specs.declared.cmp.Ordering.{Ordering}
use Rattle.std.specs.declared.cmp.Ordering.TheVariants.{Less, Equal, Greater}
use Rattle.std.proofs.Math.Nat.{le-mul_of_pos_right}
use Rattle.std.proofs.Math.Seq.{take-length}
use Rattle.std.proofs.lemmas.List.{length-drop, get_or_default}
use Rattle.std.proofs.lemmas.List.FromFn.{map-range_with_len_more}
use Rattle.std.proofs.lemmas.List.Sorted.{searchable_from_sorted}
use Rattle.std.proofs.lemmas.Cmp.{then_total, on_total, nat_cmp_total}
use Rattle.std.proofs.lemmas.Bool.{cases_lt}
use Rattle.std.proofs.lemmas.Bool.Decides.{nat_tests}
use Rattle.std.proofs.lemmas.Nat.{mul-lt}
use Rattle.sop_nearest.specs.declared.cells.Cell.{Cell}
use Rattle.sop_nearest.specs.declared.cells.Spot.{Spot}
use Rattle.sop_nearest.specs.declared.cells.Span.{Span}
use Rattle.sop_fixed.specs.declared.vec3.Vec3.{Vec3}
use Rattle.sop_model.specs.Values.{zero_vector}
use Rattle.sop_nearest.specs.Places.{place_at, squared}
use Rattle.sop_nearest.specs.Cells.{cell_cmp, cell_of, spot_at, is_in_row, IsGrid}

-- ---- a part of a list up to a point, and from it on
kept_all : {X : Type 0} (p : X → Bool) (xs : List X) → AllWithin (λ x. p x ≡ true) xs 0 (length xs) → filter p xs ≡ xs
kept_all p [] all = refl
kept_all p (x ∷ xs) all =
    let here : p x ≡ true = all 0 x (omega arith) (omega arith) in
    rw here (ap (λ l. x ∷ l) (kept_all p xs (λ k d low high. all (suc k) d (omega arith) (omega arith))))

kept_none : {X : Type 0} (p : X → Bool) (xs : List X) → AllWithin (λ x. p x ≡ false) xs 0 (length xs) → filter p xs ≡ []
kept_none p [] all = refl
kept_none p (x ∷ xs) all =
    let here : p x ≡ false = all 0 x (omega arith) (omega arith) in
    rw here (kept_none p xs (λ k d low high. all (suc k) d (omega arith) (omega arith)))

pub take_until : {X : Type 0} (p : X → Bool) (xs : List X) (r : ℕ) → IsPartitionPoint (λ x. p x ≡ true) (λ x. p x ≡ false) xs r → take r xs ≡ filter p xs
take_until p xs zero point = sym (kept_none p xs point.1)
take_until p [] (suc r) point = refl
take_until p (x ∷ xs) (suc r) point =
    let here : p x ≡ true = point.0 0 x (omega arith) (omega arith) in
    rw here (ap (λ l. x ∷ l) (take_until p xs r (λ k d low high. point.0 (suc k) d (omega arith) (omega arith), λ k d low high. point.1 (suc k) d (omega arith) (omega arith))))

drop_until : {X : Type 0} (p : X → Bool) (xs : List X) (r : ℕ) → IsPartitionPoint (λ x. p x ≡ true) (λ x. p x ≡ false) xs r → drop r xs ≡ filter (λ x. not (p x)) xs
drop_until p xs zero point = sym (kept_all (λ x. not (p x)) xs (λ k d low high. ap not (point.1 k d low high)))
drop_until p [] (suc r) point = refl
drop_until p (x ∷ xs) (suc r) point =
    let here : p x ≡ true = point.0 0 x (omega arith) (omega arith) in
    rw here (drop_until p xs r (λ k d low high. point.0 (suc k) d (omega arith) (omega arith), λ k d low high. point.1 (suc k) d (omega arith) (omega arith)))

pub drop_rest : {X : Type 0} (xs : List X) (r : ℕ) → take (length xs - r) (drop r xs) ≡ drop r xs
drop_rest xs r = ap (λ n. take n (drop r xs)) (sym (length-drop r xs)) ∙ take-length (drop r xs)

pub from_point : {X : Type 0} (p : X → Bool) (xs : List X) (r : ℕ) → IsPartitionPoint (λ x. p x ≡ true) (λ x. p x ≡ false) xs r → take (length xs - r) (drop r xs) ≡ filter (λ x. not (p x)) xs
from_point p xs r point = drop_rest xs r ∙ drop_until p xs r point

-- ---- points in the order of their cells
pub cell_total : IsTotalOrder cell_cmp
cell_total = then_total (on_total (λ (c : Cell). c.x) nat_cmp_total) (then_total (on_total (λ (c : Cell). c.y) nat_cmp_total) (on_total (λ (c : Cell). c.z) nat_cmp_total))

less_from : (o p : Ordering) → ordering_index o ≤ ordering_index p → is_lt p ≡ true → is_lt o ≡ true
less_from Less p le lt = refl
less_from Equal Less le lt = absurd (omega arith)
less_from Greater Less le lt = absurd (omega arith)
less_from Equal Equal le lt = lt
less_from Greater Equal le lt = lt
less_from Equal Greater le lt = lt
less_from Greater Greater le lt = lt

pub cells_parted : (spots : List Spot) (cell : Cell) → IsSortedByKey (λ s. s.cell) cell_cmp spots → IsPartitionedBy (λ s. is_lt (cell_cmp s.cell cell)) spots
cells_parted spots cell sorted =
    let rises : IsNonDecreasingBy (λ s. ordering_index (cell_cmp s.cell cell)) spots = searchable_from_sorted cell_total (λ s. s.cell) spots cell sorted in
    λ i j d le below lt. less_from (cell_cmp (get_or spots i d).cell cell) (cell_cmp (get_or spots j d).cell cell) (rises i j d le below) lt

kept_both : {X : Type 0} (a : Bool) (q : X → Bool) (x : X) (xs : List X) → filter q (cond a (x ∷ xs) xs) ≡ cond (a && q x) (x ∷ filter q xs) (filter q xs)
kept_both true q x xs = refl
kept_both false q x xs = refl

filter-filter : {X : Type 0} (p q r : X → Bool) → ((x : X) → (p x && q x) ≡ r x) → (xs : List X) → filter q (filter p xs) ≡ filter r xs
filter-filter p q r both [] = refl
filter-filter p q r both (x ∷ xs) =
    kept_both (p x) q x (filter p xs) ∙ ap (λ l. cond (p x && q x) (x ∷ l) l) (filter-filter p q r both xs) ∙ ap (λ b. cond b (x ∷ filter r xs) (filter r xs)) (both x)

between : (x y a b m n k : ℕ) → (not (is_lt (cell_cmp (record { x = x; y = y; z = k }) (record { x = a; y = b; z = m }))) && is_lt (cell_cmp (record { x = x; y = y; z = k }) (record { x = a; y = b; z = n }))) ≡ (eqb x a && (eqb y b && (leb m k && ltb k n)))
between x y a b m n k = grind (arith, nat_tests)

pub row_is : (spots : List Spot) (x y : ℕ) (z : Span) → filter (λ s. is_lt (cell_cmp s.cell (record { x = x; y = y; z = z.end }))) (filter (λ s. not (is_lt (cell_cmp s.cell (record { x = x; y = y; z = z.low })))) spots) ≡ filter (λ s. is_in_row x y z s.cell) spots
row_is spots x y z =
    filter-filter (λ s. not (is_lt (cell_cmp s.cell (record { x = x; y = y; z = z.low })))) (λ s. is_lt (cell_cmp s.cell (record { x = x; y = y; z = z.end }))) (λ s. is_in_row x y z s.cell) (λ s. between s.cell.x s.cell.y x y z.low z.end s.cell.z) spots

-- ---- within a radius
pub part_within : (a s r : ℕ) → a * a ≤ s → s ≤ r * r → a ≤ r
part_within a s r part within = elim (cases_lt r a) [ inl above ↦ absurd (omega (arith, mul-lt r r a a above above)) | inr below ↦ below ]

pub parts_within : (place center : Vec3) (r : ℕ) → squared place center ≤ r * r → (unsigned_abs (place.x -ℤ center.x) ≤ r) × (unsigned_abs (place.y -ℤ center.y) ≤ r) × (unsigned_abs (place.z -ℤ center.z) ≤ r)
parts_within place center r within =
    let s = squared place center in
    (part_within (unsigned_abs (place.x -ℤ center.x)) s r (omega arith) within, part_within (unsigned_abs (place.y -ℤ center.y)) s r (omega arith) within, part_within (unsigned_abs (place.z -ℤ center.z)) s r (omega arith) within)

-- ---- points one by one
pub place_is : (places : List Vec3) (i : ℕ) (place : Vec3) → i < length places → place ≡ get_or places i place → place ≡ place_at places i
place_is places i place below is = is ∙ get_or_default places i place zero_vector below

pub spot_more : (side : ℕ) (places : List Vec3) (i : ℕ) (place : Vec3) (cell : Cell) (old new : List Spot) → i < length places → place ≡ get_or places i place → cell ≡ cell_of side place
    → old ≡ map (spot_at side places) (range_with_len 0 i) → new ≡ old ++ (record { cell = cell; number = i }) ∷ [] → new ≡ map (spot_at side places) (range_with_len 0 (i + 1))
spot_more side places i place cell old new below is in_cell before added =
    let spot : Spot = record { cell = cell; number = i } in
    let here : cell ≡ cell_of side (place_at places i) = in_cell ∙ ap (cell_of side) (place_is places i place below is) in
    let same : spot ≡ spot_at side places i = λ k. record { cell = here k; number = i } in
    added ∙ ap (λ l. l ++ spot ∷ []) before ∙ ap (λ s. map (spot_at side places) (range_with_len 0 i) ++ s ∷ []) same
    ∙ sym (map-range_with_len_more (spot_at side places) 0 i i (zero-add i))

pub grid_from : (side : ℕ) (places : List Vec3) (i : ℕ) (old new : List Spot) → 0 < side → length places < 2 ^ 32 → i ≡ length places → old ≡ map (spot_at side places) (range_with_len 0 i)
    → IsPermutation old new → IsSortedByKey (λ s. s.cell) cell_cmp new → IsGrid side places new
grid_from side places i old new wide few all is moved sorted = record {
  wide = wide;
  few = few;
  all = subst (λ l. IsPermutation l new) (is ∙ ap (λ n. map (spot_at side places) (range_with_len 0 n)) all) moved;
  sorted = sorted;
}

-- ---- rows against points
pub few_rows : (rows first steps all most points : ℕ) → first ≡ min rows most → 0 < steps → all ≡ min (first * steps) most → points ≤ most → all < points → rows ≤ points
few_rows rows first steps all most points e some f bound less = omega (arith, le-mul_of_pos_right first some)
