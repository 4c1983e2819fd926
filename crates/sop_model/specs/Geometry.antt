-- A geometry: what it has class by class, when it is well made, and the limits that it keeps.
--
-- A geometry has one detail element, points, and primitives with their vertices. Each class has heads (attributes: a name and a kind) and
-- groups, each element a value for each head and a flag for each group. The first point head is the vector `P`. The detail has no group.
-- Names of heads are distinct within their class, and so are names of groups.
use Rattle.std.specs.Prelude.{⊤, ◌≡◌, ℕ, ◌+◌, ◌<◌, ◌≤◌, nat_le, Bool, true, false, ◌&&◌, IsTrue, List, [], ◌∷◌, ◌++◌, length, map, sum_by, All, Option, slice_get, codes}
use Rattle.std.specs.List.{list_all}
use Rattle.std.specs.Option.{option_and_then}
use Rattle.sop_model.specs.declared.class.Class.{Class}
use Rattle.sop_model.specs.declared.class.Class.TheVariants.{Detail, Prim, Point, Vertex}
use Rattle.sop_model.specs.declared.geo.Geo.{Geo}
use Rattle.sop_model.specs.declared.geo.Row.{Row}
use Rattle.sop_model.specs.declared.geo.Head.{Head}
use Rattle.sop_model.specs.declared.geo.HeadSet.{HeadSet}
use Rattle.sop_model.specs.declared.value.Kind.TheVariants as kind
use Rattle.sop_model.specs.declared.value.Value.{Value}
use Rattle.sop_model.specs.Values.{kind_of, weight_of, is_value_within}
use Rattle.sop_model.specs.Vertices.{size_of, corners_of}
use Rattle.sop_model.specs.Names.{is_name, are_distinct}
use Rattle.sop_model.specs.Limits.{most_points, most_prims, most_vertices, most_heads, most_groups, most_weight}

abbrev pub empty_row : Row
empty_row = record { values = []; flags = [] }

abbrev pub no_heads : HeadSet
no_heads = record { heads = []; groups = [] }

abbrev pub position_head : Head
position_head = record { name = codes "P"; kind = kind.Vector }

abbrev pub only_position : HeadSet
only_position = record { heads = position_head ∷ []; groups = [] }

-- no element but the detail, and the point head `P` alone
abbrev pub empty_geo : Geo
empty_geo = record { detail = no_heads; prim = no_heads; point = only_position; vertex = no_heads; points = []; prims = []; detail_row = empty_row }

-- the heads and groups of a class
abbrev pub heads_of : Geo → Class → HeadSet
heads_of g Detail = g.detail
heads_of g Prim = g.prim
heads_of g Point = g.point
heads_of g Vertex = g.vertex

-- the rows of a class, in the order of its elements
abbrev pub rows_of : Geo → Class → List Row
rows_of g Detail = g.detail_row ∷ []
rows_of g Prim = map (λ p. p.row) g.prims
rows_of g Point = g.points
rows_of g Vertex = map (λ c. c.row) (corners_of g.prims)

-- how many elements a class has
abbrev pub count_of : Geo → Class → ℕ
count_of g class = length (rows_of g class)

-- the value of a head at an element
abbrev pub value_at : Geo → Class → ℕ → ℕ → Option Value
value_at g class head element = option_and_then (λ row. slice_get row.values head) (slice_get (rows_of g class) element)

-- whether an element is in a group
abbrev pub flag_at : Geo → Class → ℕ → ℕ → Option Bool
flag_at g class group element = option_and_then (λ row. slice_get row.flags group) (slice_get (rows_of g class) element)

-- names of heads and of groups are names, each distinct
pub record IsNamed (set : HeadSet) : Type 0 where
  pub heads : IsTrue (list_all is_name (map (λ h. h.name) set.heads))
  pub groups : IsTrue (list_all is_name set.groups)
  pub distinct_heads : IsTrue (are_distinct (map (λ h. h.name) set.heads))
  pub distinct_groups : IsTrue (are_distinct set.groups)

-- a value of its kind for each head, and a flag for each group
pub record IsRowOf (set : HeadSet) (row : Row) : Type 0 where
  pub kinds : map kind_of row.values ≡ map (λ h. h.kind) set.heads
  pub flags : length row.flags ≡ length set.groups

-- the vector `P` is the first head
abbrev pub BeginsWithPosition : List Head → Type 0
BeginsWithPosition [] = false ≡ true
BeginsWithPosition (h ∷ heads) = h ≡ position_head

-- all but that a primitive may have no vertex
pub record IsSound (g : Geo) : Type 0 where
  pub detail_groups : g.detail.groups ≡ []
  pub named : (class : Class) → IsNamed (heads_of g class)
  pub rows : (class : Class) → All (IsRowOf (heads_of g class)) (rows_of g class)
  pub position : BeginsWithPosition g.point.heads
  pub points : All (λ c. c.point < length g.points) (corners_of g.prims)

-- a well made geometry
pub record IsGood (g : Geo) : Type 0 where
  pub sound : IsSound g
  pub corners : All (λ p. 0 < size_of p) g.prims

-- an amount and the most that it may be
pub record Bound : Type 0 where
  pub amount : ℕ
  pub most : ℕ

abbrev pub at_most : ℕ → ℕ → Bound
at_most amount most = record { amount = amount; most = most }

-- whether each amount is at most what it may be, as a test and as a fact
abbrev pub are_kept : List Bound → Bool
are_kept [] = true
are_kept (b ∷ bounds) = nat_le b.amount b.most && are_kept bounds

abbrev pub AreKept : List Bound → Type 0
AreKept [] = ⊤
AreKept (b ∷ bounds) = (b.amount ≤ b.most) × AreKept bounds

abbrev pub set_bounds : HeadSet → List Bound
set_bounds set = at_most (length set.heads) most_heads ∷ at_most (length set.groups) most_groups ∷ []

-- the limits of elements, heads and groups
abbrev pub count_bounds : Geo → List Bound
count_bounds g =
    at_most (length g.points) most_points ∷ at_most (length g.prims) most_prims ∷ at_most (length (corners_of g.prims)) most_vertices ∷ []
    ++ set_bounds g.detail ++ set_bounds g.prim ++ set_bounds g.point ++ set_bounds g.vertex

-- at most so many elements, heads and groups
pub record IsWithin (g : Geo) : Type 0 where
  pub kept : AreKept (count_bounds g)

abbrev pub row_weight : Row → ℕ
row_weight row = sum_by weight_of row.values

-- the sum over all values of all elements
abbrev pub geo_weight : Geo → ℕ
geo_weight g = sum_by row_weight (rows_of g Detail) + sum_by row_weight (rows_of g Prim) + sum_by row_weight (rows_of g Point) + sum_by row_weight (rows_of g Vertex)

abbrev pub weight_bound : Geo → List Bound
weight_bound g = at_most (geo_weight g) most_weight ∷ []

-- every limit of a geometry
abbrev pub bounds_of : Geo → List Bound
bounds_of g = count_bounds g ++ weight_bound g

-- whether a geometry is within every limit, as a test and as a fact
abbrev pub fits : Geo → Bool
fits g = are_kept (bounds_of g)

pub record Fits (g : Geo) : Type 0 where
  pub kept : AreKept (bounds_of g)

-- the point head `P` alone, and no group
pub record HasOnlyPosition (g : Geo) : Type 0 where
  pub detail : g.detail ≡ no_heads
  pub prim : g.prim ≡ no_heads
  pub point : g.point ≡ only_position
  pub vertex : g.vertex ≡ no_heads

-- strings and lists are within their limits, in a row and in every row of a class
abbrev pub is_row_within : Row → Bool
is_row_within row = list_all is_value_within row.values

abbrev pub are_rows_within : List Row → Bool
are_rows_within rows = list_all is_row_within rows

-- the same in a whole geometry, as a test and as a fact
abbrev pub are_values_within : Geo → Bool
are_values_within g = is_row_within g.detail_row && are_rows_within (rows_of g Prim) && are_rows_within g.points && are_rows_within (rows_of g Vertex)

pub record AreValuesWithin (g : Geo) : Type 0 where
  pub within : IsTrue (are_values_within g)

-- what a view may be read of
pub record IsReadable (g : Geo) : Type 0 where
  pub sound : IsSound g
  pub within : IsWithin g
