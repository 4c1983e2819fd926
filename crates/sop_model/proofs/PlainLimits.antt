-- Plain geometries within their limits: one weighs three for each point, and has no value with a limit.
use Rattle.std.proofs.Common.{◌≡◌, Bool, ℕ, ◌*◌, ◌<◌, ◌≤◌, true, List, [], ◌∷◌, length, refl, sym, ap, subst, arith}
use Rattle.std.specs.Prelude.{All, sum_by}
use Rattle.std.specs.List.{list_all}
use Rattle.std.proofs.lemmas.Bool.{and_from}
use Rattle.std.proofs.lemmas.List.{length-map}
use Rattle.std.proofs.lemmas.List.Elements.{All-nil, All-cons, All-head, All-tail, All-map}
use Rattle.std.proofs.lemmas.List.Sums.{sum_by-cons}
use Rattle.sop_fixed.specs.declared.vec3.Vec3.{Vec3}
use Rattle.sop_model.specs.declared.class.Class.{Class}
use Rattle.sop_model.specs.declared.class.Class.TheVariants.{Detail, Prim, Point, Vertex}
use Rattle.sop_model.specs.declared.geo.Geo.{Geo}
use Rattle.sop_model.specs.Limits.{most_points, most_prims, most_vertices, most_heads, most_groups}
use Rattle.sop_model.specs.Vertices.{size_of, corners_of}
use Rattle.sop_model.specs.Geometry.{empty_row, empty_geo, heads_of, rows_of, row_weight, geo_weight, is_row_within, AreValuesWithin, HasOnlyPosition, IsGood, IsWithin, Fits}
use Rattle.sop_model.specs.Plain.{IsPlain, IsPointRow, point_row, geo_of_points}
use Rattle.sop_model.proofs.LimitsLemmas.{IsWithin-from, Fits-from, within_points}
use Rattle.sop_model.proofs.PlainLemmas.{IsGood-from_plain, prim_rows, point_rows, vertex_rows}

sum_by-same : {X : Type 0} (f : X → ℕ) (k : ℕ) (xs : List X) → All (λ x. f x ≡ k) xs → sum_by f xs ≡ k * length xs
sum_by-same f k [] all = omega arith
sum_by-same f k (x ∷ xs) all =
    let here = All-head (λ x. f x ≡ k) x xs all in
    let rest = sum_by-same f k xs (All-tail (λ x. f x ≡ k) x xs all) in
    grind (arith, sum_by-cons f x xs)

list_all-same : {X : Type 0} (test : X → Bool) (xs : List X) → All (λ x. test x ≡ true) xs → list_all test xs ≡ true
list_all-same test [] all = refl
list_all-same test (x ∷ xs) all = and_from _ _ (All-head (λ x. test x ≡ true) x xs all) (list_all-same test xs (All-tail (λ x. test x ≡ true) x xs all))

-- weights

pub geo_weight-plain : (g : Geo) → IsPlain g → geo_weight g ≡ 3 * length g.points
geo_weight-plain g plain =
    let detail : row_weight g.detail_row ≡ 0 = ap row_weight plain.detail in
    let prims = sum_by-same row_weight 0 (rows_of g Prim) (prim_rows (λ row. row_weight row ≡ 0) refl g plain) in
    let points = sum_by-same row_weight 3 g.points (point_rows (λ row. row_weight row ≡ 3) (λ v. refl) g plain) in
    let corners = sum_by-same row_weight 0 (rows_of g Vertex) (vertex_rows (λ row. row_weight row ≡ 0) refl g plain) in
    omega (arith, sum_by-cons row_weight g.detail_row [])

-- counts

heads_kept : (g : Geo) → HasOnlyPosition g → (class : Class) → length (heads_of g class).heads ≤ most_heads
heads_kept g only Detail = omega (arith, ap (λ set. length set.heads) only.detail)
heads_kept g only Prim = omega (arith, ap (λ set. length set.heads) only.prim)
heads_kept g only Point = omega (arith, ap (λ set. length set.heads) only.point)
heads_kept g only Vertex = omega (arith, ap (λ set. length set.heads) only.vertex)

groups_kept : (g : Geo) → HasOnlyPosition g → (class : Class) → length (heads_of g class).groups ≤ most_groups
groups_kept g only Detail = omega (arith, ap (λ set. length set.groups) only.detail)
groups_kept g only Prim = omega (arith, ap (λ set. length set.groups) only.prim)
groups_kept g only Point = omega (arith, ap (λ set. length set.groups) only.point)
groups_kept g only Vertex = omega (arith, ap (λ set. length set.groups) only.vertex)

-- a geometry that has `P` alone is within the limits of counts where it has no more elements than it may have
pub IsWithin-from_only : (g : Geo) → HasOnlyPosition g → length g.points ≤ most_points → length g.prims ≤ most_prims → length (corners_of g.prims) ≤ most_vertices → IsWithin g
IsWithin-from_only g only points prims vertices = IsWithin-from g points prims vertices (heads_kept g only) (groups_kept g only)

-- a plain geometry within the limits of counts is within every limit
pub Fits-from_plain : (g : Geo) → IsPlain g → IsWithin g → Fits g
Fits-from_plain g plain within = Fits-from g within (omega (arith, geo_weight-plain g plain, within_points within))

-- no value of a plain geometry is a string or a list
pub AreValuesWithin-from_plain : (g : Geo) → IsPlain g → AreValuesWithin g
AreValuesWithin-from_plain g plain =
    let prims = list_all-same is_row_within (rows_of g Prim) (prim_rows (λ row. is_row_within row ≡ true) refl g plain) in
    let points = list_all-same is_row_within g.points (point_rows (λ row. is_row_within row ≡ true) (λ v. refl) g plain) in
    let corners = list_all-same is_row_within (rows_of g Vertex) (vertex_rows (λ row. is_row_within row ≡ true) refl g plain) in
    record { within = and_from _ _ (and_from _ _ (and_from _ _ (ap is_row_within plain.detail) prims) points) corners }

IsPlain-points : (places : List Vec3) → IsPlain (geo_of_points places)
IsPlain-points places = record {
  only = record { detail = refl; prim = refl; point = refl; vertex = refl };
  points = All-map IsPointRow point_row places (each places);
  prims = All-nil (λ p. p.row ≡ empty_row);
  corners = All-nil (λ c. c.row ≡ empty_row);
  detail = refl;
}
  where
    each : (vs : List Vec3) → All (λ v. IsPointRow (point_row v)) vs
    each [] = All-nil (λ v. IsPointRow (point_row v))
    each (v ∷ vs) = All-cons (λ v. IsPointRow (point_row v)) v vs (v, refl) (each vs)

IsGood-points : (places : List Vec3) → IsGood (geo_of_points places)
IsGood-points places = IsGood-from_plain (geo_of_points places) (IsPlain-points places) (All-nil (λ c. c.point < length (geo_of_points places).points)) (All-nil (λ p. 0 < size_of p))

Fits-points : (places : List Vec3) → length places ≤ most_points → Fits (geo_of_points places)
Fits-points places few =
    let g = geo_of_points places in
    let plain = IsPlain-points places in
    Fits-from_plain g plain (IsWithin-from_only g plain.only (omega (arith, length-map places point_row)) (omega arith) (omega arith))

-- points alone are a well made geometry, and within every limit where there are no more than a geometry may have

pub points_are_good : (places : List Vec3) (g : Geo) → g ≡ geo_of_points places → IsGood g
points_are_good places g is = subst IsGood (sym is) (IsGood-points places)

pub points_fit : (places : List Vec3) (g : Geo) → g ≡ geo_of_points places → length places ≤ most_points → Fits g
points_fit places g is few = subst Fits (sym is) (Fits-points places few)

-- the empty geometry is points alone, none of them

pub IsGood-empty_geo : IsGood empty_geo
IsGood-empty_geo = IsGood-points []

pub Fits-empty_geo : Fits empty_geo
Fits-empty_geo = Fits-points [] (omega arith)
