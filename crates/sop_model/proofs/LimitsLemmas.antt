-- The limits of a geometry and of its values: each as a fact of its own, and all of them from these facts and from the test.
use Rattle.std.proofs.Common.{◌≡◌, ℕ, ◌*◌, ◌≤◌, Bool, true, List, [], ◌∷◌, ◌++◌, length, refl, arith}
use Rattle.std.specs.Prelude.{sum_by}
use Rattle.std.specs.List.{list_all}
use Rattle.std.proofs.lemmas.List.Sums.{sum_by-cons}
use Rattle.std.proofs.lemmas.Bool.{leb-true, le-leb, and_parts, and_from}
use Rattle.sop_model.specs.declared.class.Class.{Class}
use Rattle.sop_model.specs.declared.class.Class.TheVariants.{Detail, Prim, Point, Vertex}
use Rattle.sop_model.specs.declared.geo.Geo.{Geo}
use Rattle.sop_model.specs.declared.value.Value.{Value}
use Rattle.sop_model.specs.declared.value.Value.TheVariants as value
use Rattle.sop_model.specs.Values.{text_weight, weight_of, is_text_within, is_list_within, is_value_within}
use Rattle.sop_model.specs.Limits.{most_points, most_prims, most_vertices, most_heads, most_groups, most_weight, most_list_items}
use Rattle.sop_model.specs.Vertices.{corners_of}
use Rattle.sop_model.specs.Geometry.{heads_of, geo_weight, Bound, are_kept, AreKept, count_bounds, weight_bound, bounds_of, IsWithin, Fits, fits, IsGood, IsReadable, rows_of, are_rows_within, AreValuesWithin}

-- bounds that are kept, of two lists one after the other

kept_front : (xs ys : List Bound) → AreKept (xs ++ ys) → AreKept xs
kept_front [] ys kept = tt
kept_front (x ∷ xs) ys kept = (kept.0, kept_front xs ys kept.1)

kept_back : (xs ys : List Bound) → AreKept (xs ++ ys) → AreKept ys
kept_back [] ys kept = kept
kept_back (x ∷ xs) ys kept = kept_back xs ys kept.1

kept-append : (xs ys : List Bound) → AreKept xs → AreKept ys → AreKept (xs ++ ys)
kept-append [] ys front back = back
kept-append (x ∷ xs) ys front back = (front.0, kept-append xs ys front.1 back)

-- what a geometry within the limits of counts keeps

pub within_points : {g : Geo} → IsWithin g → length g.points ≤ most_points
within_points w = w.kept.0

pub within_prims : {g : Geo} → IsWithin g → length g.prims ≤ most_prims
within_prims w = w.kept.1.0

pub within_vertices : {g : Geo} → IsWithin g → length (corners_of g.prims) ≤ most_vertices
within_vertices w = w.kept.1.1.0

pub within_heads : {g : Geo} → IsWithin g → (class : Class) → length (heads_of g class).heads ≤ most_heads
within_heads w Detail = w.kept.1.1.1.0
within_heads w Prim = w.kept.1.1.1.1.1.0
within_heads w Point = w.kept.1.1.1.1.1.1.1.0
within_heads w Vertex = w.kept.1.1.1.1.1.1.1.1.1.0

pub within_groups : {g : Geo} → IsWithin g → (class : Class) → length (heads_of g class).groups ≤ most_groups
within_groups w Detail = w.kept.1.1.1.1.0
within_groups w Prim = w.kept.1.1.1.1.1.1.0
within_groups w Point = w.kept.1.1.1.1.1.1.1.1.0
within_groups w Vertex = w.kept.1.1.1.1.1.1.1.1.1.1.0

-- a geometry is within the limits of counts where each of these holds
pub IsWithin-from : (g : Geo) → length g.points ≤ most_points → length g.prims ≤ most_prims → length (corners_of g.prims) ≤ most_vertices
    → ((class : Class) → length (heads_of g class).heads ≤ most_heads) → ((class : Class) → length (heads_of g class).groups ≤ most_groups) → IsWithin g
IsWithin-from g points prims vertices heads groups = record {
  kept = (points, (prims, (vertices, (heads Detail, (groups Detail, (heads Prim, (groups Prim, (heads Point, (groups Point, (heads Vertex, (groups Vertex, tt)))))))))));
}

-- a geometry within every limit is within those of counts, and has no more weight than it may have

pub fits_within : {g : Geo} → Fits g → IsWithin g
fits_within {g} f = record { kept = kept_front (count_bounds g) (weight_bound g) f.kept }

pub fits_weight : {g : Geo} → Fits g → geo_weight g ≤ most_weight
fits_weight {g} f = (kept_back (count_bounds g) (weight_bound g) f.kept).0

pub Fits-from : (g : Geo) → IsWithin g → geo_weight g ≤ most_weight → Fits g
Fits-from g w weight = record { kept = kept-append (count_bounds g) (weight_bound g) w.kept (weight, tt) }

-- a well made geometry within every limit may be read
pub readable_of : (g : Geo) → IsGood g → Fits g → IsReadable g
readable_of g good f = record { sound = good.sound; within = fits_within f }

-- the test and the fact are the same

AreKept-from : (bounds : List Bound) → are_kept bounds ≡ true → AreKept bounds
AreKept-from [] e = tt
AreKept-from (b ∷ bounds) e =
    let parts = and_parts _ _ e in
    (leb-true _ _ parts.0, AreKept-from bounds parts.1)

are_kept-true : (bounds : List Bound) → AreKept bounds → are_kept bounds ≡ true
are_kept-true [] kept = refl
are_kept-true (b ∷ bounds) kept = and_from _ _ (le-leb _ _ kept.0) (are_kept-true bounds kept.1)

-- a geometry within every limit passes the test
pub fits-true : (g : Geo) → Fits g → fits g ≡ true
fits-true g f = are_kept-true (bounds_of g) f.kept

-- a geometry that passes the test is within every limit
pub Fits-from_fits : (g : Geo) → fits g ≡ true → Fits g
Fits-from_fits g e = record { kept = AreKept-from (bounds_of g) e }

-- strings and lists of a geometry are within their limits class by class
pub rows_within : {g : Geo} → AreValuesWithin g → (class : Class) → are_rows_within (rows_of g class) ≡ true
rows_within v Detail = and_from _ _ (and_parts _ _ (and_parts _ _ (and_parts _ _ v.within).0).0).0 refl
rows_within v Prim = (and_parts _ _ (and_parts _ _ (and_parts _ _ v.within).0).0).1
rows_within v Point = (and_parts _ _ (and_parts _ _ v.within).0).1
rows_within v Vertex = (and_parts _ _ v.within).1

-- the weight of a value whose strings and lists are within their limits

sum_by-bound : {X : Type 0} (f : X → ℕ) (test : X → Bool) (most : ℕ) → ((x : X) → test x ≡ true → f x ≤ most) → (xs : List X) → list_all test xs ≡ true → sum_by f xs ≤ most * length xs
sum_by-bound f test most each [] all = omega arith
sum_by-bound f test most each (x ∷ xs) all =
    let parts = and_parts _ _ all in
    let here = each x parts.0 in
    let rest = sum_by-bound f test most each xs parts.1 in
    grind (arith, sum_by-cons f x xs)

text_bound : (text : List ℕ) → is_text_within text ≡ true → text_weight text ≤ 513
text_bound text within = omega (arith, leb-true _ _ within)

-- 1 for the list, and 513 for each of 4,096 strings
pub weight_of-within : (v : Value) → is_value_within v ≡ true → weight_of v ≤ 2101249
weight_of-within (value.Int n) within = omega arith
weight_of-within (value.Real x) within = omega arith
weight_of-within (value.Vector x) within = omega arith
weight_of-within (value.Str text) within = omega (arith, text_bound text within)
weight_of-within (value.Ints list) within = omega (arith, leb-true _ _ within)
weight_of-within (value.Reals list) within = omega (arith, leb-true _ _ within)
weight_of-within (value.Vectors list) within = omega (arith, leb-true _ _ within)
weight_of-within (value.Strs list) within =
    let parts = and_parts (is_list_within list) (list_all is_text_within list) within in
    omega (arith, leb-true (length list) most_list_items parts.0, sum_by-bound text_weight is_text_within 513 text_bound list parts.1)
