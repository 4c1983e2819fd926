-- What calls do to a geometry: one value or one flag set, heads, groups and elements added, a head taken away, elements put in another order.
--
-- A change of values goes by the rows of a class: the new rows are given in the order of the elements, and all else stays. What is added
-- stands at the end, with the default of its kind in each value and in no group.
use Rattle.std.specs.Prelude.{◌≡◌, ℕ, zero, suc, ◌<◌, ◌==◌, Bool, false, List, [], ◌∷◌, ◌++◌, length, map, filter, drop, remove, replicate, All, position, slice_get, slice_set, slice_index_or, Option, Some, None, option_map, unwrap_or, IsTrue, pos, IsPermutation, ⊤}
use Rattle.std.specs.List.{position_or_len, range_with_len}
use Rattle.std.specs.Str.{bytes_eq}
use Rattle.sop_model.specs.declared.class.Class.{Class}
use Rattle.sop_model.specs.declared.class.Class.TheVariants.{Detail, Prim, Point, Vertex}
use Rattle.sop_model.specs.declared.geo.Geo.{Geo}
use Rattle.sop_model.specs.declared.geo.Row.{Row}
use Rattle.sop_model.specs.declared.geo.Head.{Head}
use Rattle.sop_model.specs.declared.geo.HeadSet.{HeadSet}
use Rattle.sop_model.specs.declared.geo.Corner.{Corner}
use Rattle.sop_model.specs.declared.geo.Primitive.{Primitive}
use Rattle.sop_model.specs.declared.value.Kind.{Kind}
use Rattle.sop_model.specs.declared.value.Value.{Value}
use Rattle.sop_model.specs.declared.value.Value.TheVariants as value
use Rattle.sop_model.specs.Names.{is_name}
use Rattle.sop_model.specs.Values.{kind_of, default_of}
use Rattle.sop_model.specs.Vertices.{size_of, longer_from}
use Rattle.sop_model.specs.Geometry.{empty_row, heads_of, rows_of, count_of}

-- ROWS

-- the list with one item changed
abbrev pub changed_at : {X : Type 0} → (X → X) → List X → ℕ → List X
changed_at f [] i = []
changed_at f (x ∷ xs) zero = f x ∷ xs
changed_at f (x ∷ xs) (suc i) = x ∷ changed_at f xs i

abbrev pub with_value : ℕ → Value → Row → Row
with_value head v row = record row { values = slice_set row.values head v }

abbrev pub with_flag : ℕ → Bool → Row → Row
with_flag group on row = record row { flags = slice_set row.flags group on }

abbrev pub with_last_value : Value → Row → Row
with_last_value v row = record row { values = row.values ++ v ∷ [] }

abbrev pub with_last_flag : Bool → Row → Row
with_last_flag on row = record row { flags = row.flags ++ on ∷ [] }

abbrev pub without_value : ℕ → Row → Row
without_value head row = record row { values = remove row.values head }

-- rows with these values under a head, in order
abbrev pub rows_held : ℕ → List Row → List Value → List Row
rows_held head [] vs = []
rows_held head (r ∷ rows) [] = r ∷ rows
rows_held head (r ∷ rows) (v ∷ vs) = with_value head v r ∷ rows_held head rows vs

-- the default of each head, and no group
abbrev pub default_row : HeadSet → Row
default_row set = record { values = map (λ h. default_of h.kind) set.heads; flags = map (λ group. false) set.groups }

-- HEADS

abbrev pub with_last_head : HeadSet → Head → HeadSet
with_last_head set head = record set { heads = set.heads ++ head ∷ [] }

abbrev pub with_last_group : HeadSet → List ℕ → HeadSet
with_last_group set name = record set { groups = set.groups ++ name ∷ [] }

abbrev pub without_head : HeadSet → ℕ → HeadSet
without_head set head = record set { heads = remove set.heads head }

-- OTHER ROWS OF A CLASS

-- the primitives with other rows
abbrev pub prims_rows : List Primitive → List Row → List Primitive
prims_rows [] rows = []
prims_rows (p ∷ prims) [] = p ∷ prims
prims_rows (p ∷ prims) (r ∷ rows) = record p { row = r } ∷ prims_rows prims rows

abbrev pub corners_rows : List Corner → List Row → List Corner
corners_rows [] rows = []
corners_rows (c ∷ corners) [] = c ∷ corners
corners_rows (c ∷ corners) (r ∷ rows) = record c { row = r } ∷ corners_rows corners rows

-- the primitives with other rows of vertices
abbrev pub vertices_rows : List Primitive → List Row → List Primitive
vertices_rows [] rows = []
vertices_rows (p ∷ prims) rows = record p { corners = corners_rows p.corners rows } ∷ vertices_rows prims (drop (size_of p) rows)

abbrev pub first_row : List Row → Row → Row
first_row [] row = row
first_row (r ∷ rows) row = r

-- the geometry with these rows of a class
abbrev pub with_rows : Geo → Class → List Row → Geo
with_rows g Detail rows = record g { detail_row = first_row rows g.detail_row }
with_rows g Prim rows = record g { prims = prims_rows g.prims rows }
with_rows g Point rows = record g { points = rows }
with_rows g Vertex rows = record g { prims = vertices_rows g.prims rows }

-- the geometry with these heads and groups of a class
abbrev pub with_heads : Geo → Class → HeadSet → Geo
with_heads g Detail set = record g { detail = set }
with_heads g Prim set = record g { prim = set }
with_heads g Point set = record g { point = set }
with_heads g Vertex set = record g { vertex = set }

-- the geometry with these heads, groups and rows of a class
abbrev pub with_class : Geo → Class → HeadSet → List Row → Geo
with_class g class set rows = with_heads (with_rows g class rows) class set

-- VALUES AND FLAGS

-- one value set
abbrev pub value_set : Geo → Class → ℕ → ℕ → Value → Geo
value_set g class head element v = with_rows g class (changed_at (with_value head v) (rows_of g class) element)

-- one flag set
abbrev pub member_set : Geo → Class → ℕ → ℕ → Bool → Geo
member_set g class group element on = with_rows g class (changed_at (with_flag group on) (rows_of g class) element)

-- the values of a head, in the order of the elements
abbrev pub column_of : Geo → Class → ℕ → List Value
column_of g class head = map (λ row. slice_index_or row.values head (value.Int (pos 0))) (rows_of g class)

-- the values of a head are these
abbrev pub column_held : Geo → Class → ℕ → List Value → Geo
column_held g class head vs = with_rows g class (rows_held head (rows_of g class) vs)

-- HEADS AND GROUPS

-- the kind of a head, and its default
abbrev pub kind_at : Geo → Class → ℕ → Option Kind
kind_at g class head = option_map (λ h. h.kind) (slice_get (heads_of g class).heads head)

abbrev pub default_at : Geo → Class → ℕ → Value
default_at g class head = unwrap_or (option_map default_of (kind_at g class head)) (value.Int (pos 0))

-- each value of a head is its default
abbrev pub column_cleared : Geo → Class → ℕ → Geo
column_cleared g class head = column_held g class head (replicate (count_of g class) (default_at g class head))

-- the number of the first head of this name, and of the first group
abbrev pub head_named : Geo → Class → List ℕ → Option ℕ
head_named g class name = position (λ h. bytes_eq h.name name) (heads_of g class).heads

abbrev pub group_named : Geo → Class → List ℕ → Option ℕ
group_named g class name = position (λ group. bytes_eq group name) (heads_of g class).groups

-- a head behind the others, with its default everywhere
abbrev pub attr_added : Geo → Class → Head → Geo
attr_added g class head = with_class g class (with_last_head (heads_of g class) head) (map (with_last_value (default_of head.kind)) (rows_of g class))

-- a head and its values are gone
abbrev pub attr_deleted : Geo → Class → ℕ → Geo
attr_deleted g class head = with_class g class (without_head (heads_of g class) head) (map (without_value head) (rows_of g class))

-- a group behind the others, without members
abbrev pub group_added : Geo → Class → List ℕ → Geo
group_added g class name = with_class g class (with_last_group (heads_of g class) name) (map (with_last_flag false) (rows_of g class))

-- ELEMENTS

-- so many points at the end
abbrev pub points_added : Geo → ℕ → Geo
points_added g n = record g { points = g.points ++ replicate n (default_row g.point) }

-- a new vertex on a point
abbrev pub new_corner : Geo → ℕ → Corner
new_corner g point = record { point = point; row = default_row g.vertex }

abbrev pub new_prim : Geo → Bool → List ℕ → Primitive
new_prim g closed points = record { closed = closed; row = default_row g.prim; corners = map (new_corner g) points }

-- a primitive at the end, with a vertex on each of these points in turn
abbrev pub prim_added : Geo → Bool → List ℕ → Geo
prim_added g closed points = record g { prims = g.prims ++ new_prim g closed points ∷ [] }

-- the points on which a list of primitives and points has vertices for this primitive
abbrev pub points_for : ℕ → List (ℕ × ℕ) → List ℕ
points_for prim adds = map (λ a. a.1) (filter (λ a. a.0 == prim) adds)

-- the primitives, numbered from n on, each with its new vertices at its end
abbrev pub corners_added : Geo → List (ℕ × ℕ) → ℕ → List Primitive → List Primitive
corners_added g adds n prims = longer_from (λ prim. map (new_corner g) (points_for prim adds)) n prims

-- for each primitive and point of the list in turn a vertex on that point at the end of that primitive
abbrev pub vertices_added : Geo → List (ℕ × ℕ) → Geo
vertices_added g adds = record g { prims = corners_added g adds 0 g.prims }

-- ANOTHER ORDER

-- a primitive whose vertices have other numbers for their points
abbrev pub renumbered_corner : (ℕ → ℕ) → Corner → Corner
renumbered_corner number c = record c { point = number c.point }

abbrev pub renumbered : (ℕ → ℕ) → Primitive → Primitive
renumbered number p = record p { corners = map (renumbered_corner number) p.corners }

-- the place of a number in a list
abbrev pub place_in : List ℕ → ℕ → ℕ
place_in perm n = position_or_len (λ i. i == n) perm

abbrev pub no_prim : Primitive
no_prim = record { closed = false; row = empty_row; corners = [] }

-- the items at these places
abbrev pub picked : {X : Type 0} → List X → X → List ℕ → List X
picked xs d perm = map (λ i. slice_index_or xs i d) perm

-- points or primitives in another order: the new one at a place is the old one of the number that stands there. Vertices go with their
-- primitives, and refer to the new numbers of their points
abbrev pub reordered : Geo → Class → List ℕ → Geo
reordered g Detail perm = g
reordered g Prim perm = record g { prims = picked g.prims no_prim perm }
reordered g Point perm = record g { points = picked g.points empty_row perm; prims = map (renumbered (place_in perm)) g.prims }
reordered g Vertex perm = g

-- CONDITIONS

abbrev pub HasHead : Geo → Class → ℕ → Type 0
HasHead g class head = head < length (heads_of g class).heads

abbrev pub HasGroup : Geo → Class → ℕ → Type 0
HasGroup g class group = group < length (heads_of g class).groups

abbrev pub HasElement : Geo → Class → ℕ → Type 0
HasElement g class element = element < count_of g class

-- a value of the head's kind
abbrev pub IsOfHead : Geo → Class → ℕ → Value → Type 0
IsOfHead g class head v = kind_at g class head ≡ Some (kind_of v)

-- a value of the head's kind for each element
pub record AreOfHead (g : Geo) (class : Class) (head : ℕ) (vs : List Value) : Type 0 where
  pub many : length vs ≡ count_of g class
  pub kinds : All (IsOfHead g class head) vs

-- a name that no head of the class has, or no group
pub record IsNewHead (g : Geo) (class : Class) (name : List ℕ) : Type 0 where
  pub named : IsTrue (is_name name)
  pub free : head_named g class name ≡ None

pub record IsNewGroup (g : Geo) (class : Class) (name : List ℕ) : Type 0 where
  pub named : IsTrue (is_name name)
  pub free : group_named g class name ≡ None

-- the class has groups at all
abbrev pub HasGroups : Class → Type 0
HasGroups Detail = ⊥
HasGroups Prim = ⊤
HasGroups Point = ⊤
HasGroups Vertex = ⊤

-- it isn't the points' `P`
abbrev pub IsNotPosition : Class → ℕ → Type 0
IsNotPosition Detail head = ⊤
IsNotPosition Prim head = ⊤
IsNotPosition Point head = 0 < head
IsNotPosition Vertex head = ⊤

abbrev pub ArePoints : Geo → List ℕ → Type 0
ArePoints g points = All (λ point. HasElement g Point point) points

-- each a primitive and a point
abbrev pub ArePlaces : Geo → List (ℕ × ℕ) → Type 0
ArePlaces g adds = All (λ a. HasElement g Prim a.0 × HasElement g Point a.1) adds

-- each number below n once
abbrev pub IsOrderOf : ℕ → List ℕ → Type 0
IsOrderOf n perm = IsPermutation (range_with_len 0 n) perm
