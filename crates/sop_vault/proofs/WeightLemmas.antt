-- What rows weigh is what their columns weigh; a column of numbers or vectors weighs as much as it is long, or three times that; and all
-- that a geometry weighs is no more than a number of 64 bits holds.
use Rattle.std.proofs.Common.{◌≡◌, ℕ, zero, suc, ◌+◌, ◌*◌, ◌<◌, ◌≤◌, true, List, [], ◌∷◌, length, map, take, get_or, min, sum_by, add-one, refl, ap, sym, ◌∙◌, arith}
use Rattle.std.specs.Prelude.{All, Some, slice_get, pos}
use Rattle.std.specs.Option.{option_map, option_and_then}
use Rattle.std.proofs.Math.Nat.{min-eq_left, mul-le-mul}
use Rattle.std.proofs.lemmas.Bool.{and_parts, and_from}
use Rattle.std.proofs.lemmas.List.{length-map}
use Rattle.std.proofs.lemmas.List.Elements.{All-weaker, All-map}
use Rattle.std.proofs.lemmas.List.Sums.{AllPass-from_list_all, sum_by-cons, sum_by-le, sum_by_more}
use Rattle.sop_model.specs.declared.class.Class.{Class}
use Rattle.sop_model.specs.declared.class.Class.TheVariants.{Detail, Prim, Point, Vertex}
use Rattle.sop_model.specs.declared.geo.Geo.{Geo}
use Rattle.sop_model.specs.declared.geo.Head.{Head}
use Rattle.sop_model.specs.declared.geo.HeadSet.{HeadSet}
use Rattle.sop_model.specs.declared.geo.Row.{Row}
use Rattle.sop_model.specs.declared.value.Kind.{Kind}
use Rattle.sop_model.specs.declared.value.Kind.TheVariants as kind
use Rattle.sop_model.specs.declared.value.Value.{Value}
use Rattle.sop_model.specs.declared.value.Value.TheVariants as value
use Rattle.sop_model.specs.Limits.{most_vertices, most_heads}
use Rattle.sop_model.specs.Values.{kind_of, weight_of, is_value_within}
use Rattle.sop_model.specs.Vertices.{corners_of}
use Rattle.sop_model.specs.Geometry.{heads_of, rows_of, count_of, value_at, row_weight, is_row_within, are_rows_within, IsRowOf, IsReadable, AreValuesWithin}
use Rattle.sop_model.specs.Rows.{column_of}
use Rattle.sop_model.proofs.LimitsLemmas.{weight_of-within, within_points, within_prims, within_vertices, within_heads}

abbrev pub most : ℕ
most = 18446744073709551615

-- what is added up goes no further than the most
pub min_two : (a b : ℕ) → min (min a most + min b most) most ≡ min (a + b) most
min_two a b = omega arith

-- f of each number from 0 on, so many of them, added up
abbrev pub summed : ℕ → (ℕ → ℕ) → ℕ
summed zero f = 0
summed (suc n) f = summed n f + f n

pub summed_more : (n : ℕ) (f : ℕ → ℕ) → summed (n + 1) f ≡ summed n f + f n
summed_more n f = ap (λ (k : ℕ). summed k f) (add-one n)

summed_front : (n : ℕ) (f : ℕ → ℕ) → summed (suc n) f ≡ f 0 + summed n (λ i. f (suc i))
summed_front zero f = omega arith
summed_front (suc n) f = let r = summed_front n f in omega arith

summed_two : (n : ℕ) (f g h : ℕ → ℕ) → ((i : ℕ) → h i ≡ f i + g i) → summed n h ≡ summed n f + summed n g
summed_two zero f g h e = refl
summed_two (suc n) f g h e = let a = e n in let r = summed_two n f g h e in omega arith

summed_none : (n : ℕ) (f : ℕ → ℕ) → ((i : ℕ) → f i ≡ 0) → summed n f ≡ 0
summed_none zero f e = refl
summed_none (suc n) f e = let a = e n in let r = summed_none n f e in omega arith

-- ROWS

abbrev under : ℕ → Row → Value
under head row = get_or row.values head (value.Int (pos 0))

row_sum : (vs : List Value) → sum_by weight_of vs ≡ summed (length vs) (λ h. weight_of (get_or vs h (value.Int (pos 0))))
row_sum [] = refl
row_sum (v ∷ vs) =
    let a = sum_by-cons weight_of v vs in let b = summed_front (length vs) (λ h. weight_of (get_or (v ∷ vs) h (value.Int (pos 0)))) in let r = row_sum vs in omega arith

rows_sum : (n : ℕ) (rs : List Row) → All (λ r. length r.values ≡ n) rs → sum_by row_weight rs ≡ summed n (λ h. sum_by weight_of (map (under h) rs))
rows_sum n [] all = sym (summed_none n (λ h. 0) (λ i. refl))
rows_sum n (r ∷ rs) all =
    let first = row_sum r.values in
    let here = ap (λ (k : ℕ). summed k (λ h. weight_of (under h r))) (all 0 r (omega arith)) in
    let two = summed_two n (λ h. weight_of (under h r)) (λ h. sum_by weight_of (map (under h) rs)) (λ h. sum_by weight_of (map (under h) (r ∷ rs))) (λ h. sum_by-cons weight_of (under h r) (map (under h) rs)) in
    let rest = rows_sum n rs (λ i x l. all (suc i) x (omega arith)) in
    let both = sum_by-cons row_weight r rs in
    omega arith

values_many : (set : HeadSet) (r : Row) → IsRowOf set r → length r.values ≡ length set.heads
values_many set r is =
    let a = ap (λ (ks : List Kind). length ks) is.kinds in let b = length-map r.values kind_of in let c = length-map set.heads (λ (h : Head). h.kind) in omega arith

pub class_sum : (g : Geo) (class : Class) → IsReadable g → sum_by row_weight (rows_of g class) ≡ summed (length (heads_of g class).heads) (λ h. sum_by weight_of (column_of g class h))
class_sum g class r = rows_sum (length (heads_of g class).heads) (rows_of g class) (All-weaker (IsRowOf (heads_of g class)) (λ (row : Row). length row.values ≡ length (heads_of g class).heads) (values_many (heads_of g class)) (rows_of g class) (r.sound.rows class))

-- VALUES

value_here : (vs : List Value) (head : ℕ) (v d : Value) → slice_get vs head ≡ Some v → get_or vs head d ≡ v
value_here [] head v d e = absurd cc
value_here (w ∷ vs) zero v d e = cc
value_here (w ∷ vs) (suc head) v d e = value_here vs head v d e

value_there : (rs : List Row) (head e : ℕ) (v d : Value) → option_and_then (λ row. slice_get row.values head) (slice_get rs e) ≡ Some v → get_or (map (under head) rs) e d ≡ v
value_there [] head e v d is = absurd cc
value_there (r ∷ rs) head zero v d is = value_here r.values head v (value.Int (pos 0)) is
value_there (r ∷ rs) head (suc e) v d is = value_there rs head e v d is

-- one value more
pub column_more : (g : Geo) (class : Class) (head e : ℕ) (v : Value) → e < count_of g class → value_at g class head e ≡ Some v → sum_by weight_of (take (e + 1) (column_of g class head)) ≡ sum_by weight_of (take e (column_of g class head)) + weight_of v
column_more g class head e v within is =
    sum_by_more weight_of (column_of g class head) e v (let a = length-map (rows_of g class) (under head) in omega arith) ∙ ap (λ (w : Value). sum_by weight_of (take e (column_of g class head)) + weight_of w) (value_there (rows_of g class) head e v v is)

-- NUMBERS AND VECTORS

suc_times : (n w : ℕ) → suc n * w ≡ w + n * w
suc_times n w = omega arith

even_weight : (k : Kind) (w : ℕ) → ((v : Value) → kind_of v ≡ k → weight_of v ≡ w) → (vs : List Value) → All (λ v. kind_of v ≡ k) vs → sum_by weight_of vs ≡ length vs * w
even_weight k w each [] all = omega arith
even_weight k w each (v ∷ vs) all = let c = sum_by-cons weight_of v vs in let here = each v (all 0 v (omega arith)) in let rest = even_weight k w each vs (λ i x l. all (suc i) x (omega arith)) in let m : suc (length vs) * w ≡ w + length vs * w = suc_times (length vs) w in omega arith

kind_here : (vs : List Value) (hs : List Head) (head : ℕ) (k : Kind) → map kind_of vs ≡ map (λ h. h.kind) hs → option_map (λ h. h.kind) (slice_get hs head) ≡ Some k → kind_of (get_or vs head (value.Int (pos 0))) ≡ k
kind_here vs [] head k same at = absurd cc
kind_here [] (h ∷ hs) head k same at = absurd cc
kind_here (v ∷ vs) (h ∷ hs) zero k same at = cc
kind_here (v ∷ vs) (h ∷ hs) (suc head) k same at = let rest : map kind_of vs ≡ map (λ g. g.kind) hs = cc in kind_here vs hs head k rest at

column_kinds : (g : Geo) (class : Class) (head : ℕ) (k : Kind) → IsReadable g → option_map (λ h. h.kind) (slice_get (heads_of g class).heads head) ≡ Some k → All (λ v. kind_of v ≡ k) (column_of g class head)
column_kinds g class head k r at =
    All-map (λ v. kind_of v ≡ k) (under head) (rows_of g class)
    (All-weaker (IsRowOf (heads_of g class)) (λ (row : Row). kind_of (under head row) ≡ k) (λ row is. kind_here row.values (heads_of g class).heads head k is.kinds at) (rows_of g class) (r.sound.rows class))

-- every value of the kind weighs so much
abbrev pub Weighs : Kind → ℕ → Type 0
Weighs k w = (v : Value) → kind_of v ≡ k → weight_of v ≡ w

pub int_weight : Weighs kind.Int 1
int_weight (value.Int n) e = refl
int_weight (value.Real x) e = cc
int_weight (value.Vector x) e = cc
int_weight (value.Str t) e = cc
int_weight (value.Ints l) e = cc
int_weight (value.Reals l) e = cc
int_weight (value.Vectors l) e = cc
int_weight (value.Strs l) e = cc

pub real_weight : Weighs kind.Real 1
real_weight (value.Int n) e = cc
real_weight (value.Real x) e = refl
real_weight (value.Vector x) e = cc
real_weight (value.Str t) e = cc
real_weight (value.Ints l) e = cc
real_weight (value.Reals l) e = cc
real_weight (value.Vectors l) e = cc
real_weight (value.Strs l) e = cc

pub vector_weight : Weighs kind.Vector 3
vector_weight (value.Int n) e = cc
vector_weight (value.Real x) e = cc
vector_weight (value.Vector x) e = refl
vector_weight (value.Str t) e = cc
vector_weight (value.Ints l) e = cc
vector_weight (value.Reals l) e = cc
vector_weight (value.Vectors l) e = cc
vector_weight (value.Strs l) e = cc

count_few : (g : Geo) → IsReadable g → (class : Class) → count_of g class ≤ most_vertices
count_few g r Detail = omega arith
count_few g r Prim = let a = within_prims r.within in let b = length-map g.prims (λ p. p.row) in omega arith
count_few g r Point = let a = within_points r.within in omega arith
count_few g r Vertex = let a = within_vertices r.within in let b = length-map (corners_of g.prims) (λ c. c.row) in omega arith

-- a column of values that all weigh the same, at most 3
pub even_column : (g : Geo) (class : Class) (head : ℕ) (k : Kind) (w : ℕ) → IsReadable g → option_map (λ h. h.kind) (slice_get (heads_of g class).heads head) ≡ Some k → Weighs k w → w ≤ 3 → count_of g class * w ≡ min (sum_by weight_of (column_of g class head)) most
even_column g class head k w r at each small =
    let sum = even_weight k w each (column_of g class head) (column_kinds g class head k r at) in
    let many = length-map (rows_of g class) (under head) in
    let few = count_few g r class in
    let same = sum ∙ ap (λ (n : ℕ). n * w) many in
    sym (ap (λ (n : ℕ). min n most) same ∙ min-eq_left (light (count_of g class) w few small))
  where
    light : (n w : ℕ) → n ≤ 4000000 → w ≤ 3 → n * w ≤ most
    light n w few small = let a = mul-le-mul few small in omega arith

-- ALL

-- 64 values of at most 2,101,249
row_light : (set : HeadSet) (row : Row) → length set.heads ≤ most_heads → IsRowOf set row → is_row_within row ≡ true → row_weight row ≤ 134479936
row_light set row few is within =
    let each = All-weaker (λ v. is_value_within v ≡ true) (λ v. weight_of v ≤ 2101249) weight_of-within row.values (AllPass-from_list_all is_value_within row.values within) in
    let all = sum_by-le weight_of 2101249 row.values each in
    let many = values_many set row is in
    omega arith

rows_light : (set : HeadSet) (rs : List Row) → length set.heads ≤ most_heads → All (IsRowOf set) rs → are_rows_within rs ≡ true → sum_by row_weight rs ≤ length rs * 134479936
rows_light set rs few all within =
    let passes = AllPass-from_list_all is_row_within rs within in
    sum_by-le row_weight 134479936 rs (λ i r l. row_light set (get_or rs i r) few (all i r l) (passes i r l))

pub light : (g : Geo) → IsReadable g → AreValuesWithin g → sum_by row_weight (rows_of g Detail) + sum_by row_weight (rows_of g Prim) + sum_by row_weight (rows_of g Point) + sum_by row_weight (rows_of g Vertex) ≤ most
light g r values =
    let third = and_parts _ (are_rows_within (rows_of g Vertex)) values.within in
    let second = and_parts _ (are_rows_within g.points) third.0 in
    let first = and_parts (is_row_within g.detail_row) (are_rows_within (rows_of g Prim)) second.0 in
    let d = rows_light g.detail (rows_of g Detail) (within_heads r.within Detail) (r.sound.rows Detail) (and_from (is_row_within g.detail_row) true first.0 refl) in
    let p = rows_light g.prim (rows_of g Prim) (within_heads r.within Prim) (r.sound.rows Prim) first.1 in
    let o = rows_light g.point (rows_of g Point) (within_heads r.within Point) (r.sound.rows Point) second.1 in
    let v = rows_light g.vertex (rows_of g Vertex) (within_heads r.within Vertex) (r.sound.rows Vertex) third.1 in
    let prims = count_few g r Prim in let points = count_few g r Point in let vertices = count_few g r Vertex in
    omega arith
