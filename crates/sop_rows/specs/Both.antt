-- What stands in a geometry with another appended to it, and when both together are within the limits.
--
-- The heads and groups of the first stay, and those of the second that the first hasn't come behind them. Rows of the first get defaults for
-- the new heads and are in none of the new groups.
use Rattle.std.specs.Prelude.{ℕ, ◌+◌, ◌≤◌, false, not, List, [], ◌++◌, length, map, filter}
use Rattle.std.specs.List.{list_any}
use Rattle.std.specs.Str.{bytes_eq}
use Rattle.sop_model.specs.declared.class.Class.{Class}
use Rattle.sop_model.specs.declared.class.Class.TheVariants.{Prim, Point, Vertex}
use Rattle.sop_model.specs.declared.geo.Geo.{Geo}
use Rattle.sop_model.specs.declared.geo.Row.{Row}
use Rattle.sop_model.specs.declared.geo.Head.{Head}
use Rattle.sop_model.specs.declared.geo.HeadSet.{HeadSet}
use Rattle.sop_model.specs.Values.{default_of}
use Rattle.sop_model.specs.Limits.{most_points, most_prims, most_vertices, most_heads, most_groups}
use Rattle.sop_model.specs.Geometry.{heads_of, count_of}
use Rattle.sop_model.specs.Merge.{fitted, value_under}

-- the heads of the second whose name the first hasn't, and the groups
abbrev pub more_heads : HeadSet → HeadSet → List Head
more_heads a b = filter (λ h. not (list_any (λ k. bytes_eq k.name h.name) a.heads)) b.heads

abbrev pub more_groups : HeadSet → HeadSet → List (List ℕ)
more_groups a b = filter (λ name. not (list_any (λ k. bytes_eq k name) a.groups)) b.groups

-- the heads and groups of both
abbrev pub both_sets : HeadSet → HeadSet → HeadSet
both_sets a b = record { heads = a.heads ++ more_heads a b; groups = a.groups ++ more_groups a b }

-- a row of the first under the heads and groups of both
abbrev pub row_widened : HeadSet → HeadSet → Row → Row
row_widened a b row = record {
  values = row.values ++ map (λ h. default_of h.kind) (more_heads a b);
  flags = row.flags ++ map (λ name. false) (more_groups a b);
}

-- the values of the detail: those of the first, and those of the second under its further heads
abbrev pub both_details : Geo → Geo → Row
both_details a b = record {
  values = a.detail_row.values ++ map (λ h. fitted h (value_under b.detail.heads b.detail_row.values h.name)) (more_heads a.detail b.detail);
  flags = [];
}

-- both together keep the limits of elements, heads and groups
pub record AreWithinBoth (a b : Geo) : Type 0 where
  pub points : count_of a Point + count_of b Point ≤ most_points
  pub prims : count_of a Prim + count_of b Prim ≤ most_prims
  pub vertices : count_of a Vertex + count_of b Vertex ≤ most_vertices
  pub heads : (class : Class) → length (both_sets (heads_of a class) (heads_of b class)).heads ≤ most_heads
  pub groups : (class : Class) → length (both_sets (heads_of a class) (heads_of b class)).groups ≤ most_groups
