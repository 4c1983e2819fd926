-- The geometry for tests may be read.
use Rattle.std.proofs.Common.{◌≡◌, ◌≤◌, ◌<◌, [], ◌∷◌, length, refl, sym, subst, arith}
use Rattle.std.specs.Prelude.{All}
use Rattle.std.proofs.lemmas.List.Elements.{All-nil, All-cons}
use Rattle.sop_fixed.specs.declared.vec3.Vec3.{Vec3}
use Rattle.sop_model.specs.declared.class.Class.{Class}
use Rattle.sop_model.specs.declared.class.Class.TheVariants.{Detail, Prim, Point, Vertex}
use Rattle.sop_model.specs.declared.geo.Geo.{Geo}
use Rattle.sop_model.specs.declared.geo.Row.{Row}
use Rattle.sop_model.specs.declared.geo.HeadSet.{HeadSet}
use Rattle.sop_model.specs.Limits.{most_heads, most_groups}
use Rattle.sop_model.specs.Vertices.{corners_of}
use Rattle.sop_model.specs.Geometry.{empty_row, no_heads, heads_of, rows_of, IsNamed, IsRowOf, IsReadable}
use Rattle.sop_model.specs.Samples.{grouped_set, member_row, first_corner, grouped_point}
use Rattle.sop_model.proofs.LimitsLemmas.{IsWithin-from}

named : (place : Vec3) (class : Class) → IsNamed (heads_of (grouped_point place) class)
named place Detail = record { heads = refl; groups = refl; distinct_heads = refl; distinct_groups = refl }
named place Prim = record { heads = refl; groups = refl; distinct_heads = refl; distinct_groups = refl }
named place Point = record { heads = refl; groups = refl; distinct_heads = refl; distinct_groups = refl }
named place Vertex = record { heads = refl; groups = refl; distinct_heads = refl; distinct_groups = refl }

one : (set : HeadSet) (row : Row) → IsRowOf set row → All (IsRowOf set) (row ∷ [])
one set row is = All-cons (IsRowOf set) row [] is (All-nil (IsRowOf set))

rows : (place : Vec3) (class : Class) → All (IsRowOf (heads_of (grouped_point place) class)) (rows_of (grouped_point place) class)
rows place Detail = one no_heads empty_row (record { kinds = refl; flags = refl })
rows place Prim = one no_heads empty_row (record { kinds = refl; flags = refl })
rows place Point = one grouped_set (member_row place) (record { kinds = refl; flags = refl })
rows place Vertex = one no_heads empty_row (record { kinds = refl; flags = refl })

points : (place : Vec3) → All (λ c. c.point < 1) (corners_of (grouped_point place).prims)
points place = All-cons (λ c. c.point < 1) first_corner [] (omega arith) (All-nil (λ c. c.point < 1))

few_heads : (place : Vec3) (class : Class) → length (heads_of (grouped_point place) class).heads ≤ most_heads
few_heads place Detail = omega arith
few_heads place Prim = omega arith
few_heads place Point = omega arith
few_heads place Vertex = omega arith

few_groups : (place : Vec3) (class : Class) → length (heads_of (grouped_point place) class).groups ≤ most_groups
few_groups place Detail = omega arith
few_groups place Prim = omega arith
few_groups place Point = omega arith
few_groups place Vertex = omega arith

IsReadable-grouped_point : (place : Vec3) → IsReadable (grouped_point place)
IsReadable-grouped_point place = record {
  sound = record { detail_groups = refl; named = named place; rows = rows place; position = refl; points = points place };
  within = IsWithin-from (grouped_point place) (omega arith) (omega arith) (omega arith) (few_heads place) (few_groups place);
}

pub sample_is_readable : (place : Vec3) (g : Geo) → g ≡ grouped_point place → IsReadable g
sample_is_readable place g is = subst IsReadable (sym is) (IsReadable-grouped_point place)
