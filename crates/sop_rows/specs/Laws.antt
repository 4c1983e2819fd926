-- Laws of what calls do to a geometry, each for every geometry.
use Rattle.std.specs.Prelude.{◌≡◌, ℕ, ◌+◌, ◌<◌, ◌≤◌, ◌↔◌, Bool, List, length, fold, All, IsTrue}
use Rattle.sop_model.specs.declared.class.Class.{Class}
use Rattle.sop_model.specs.declared.class.Class.TheVariants.{Prim, Point, Vertex}
use Rattle.sop_model.specs.declared.geo.Geo.{Geo}
use Rattle.sop_model.specs.declared.geo.Head.{Head}
use Rattle.sop_model.specs.declared.value.Value.{Value}
use Rattle.sop_model.specs.Limits.{most_points, most_prims, most_vertices, most_heads, most_groups}
use Rattle.sop_model.specs.Values.{is_value_within}
use Rattle.sop_model.specs.Geometry.{heads_of, rows_of, count_of, empty_geo, IsSound, IsGood, IsWithin, AreValuesWithin}
use Rattle.sop_model.specs.Merge.{merged}
use Rattle.sop_model.specs.Rows.{value_set, member_set, column_held, column_cleared, attr_added, attr_deleted, group_added, points_added, prim_added, vertices_added, reordered, HasHead, IsOfHead, IsNewHead, IsNewGroup, HasGroups, IsNotPosition, ArePoints, ArePlaces, IsOrderOf}
use Rattle.sop_model.specs.Appending.{appended}
use Rattle.sop_model.specs.Sweep.{MarkSet, stays, kept, swept, IsUnmarked}
use Rattle.sop_rows.specs.Both.{AreWithinBoth}

-- the merge of well made geometries is these appended one after the other from the left
abbrev pub MergesInTurn : Type 0
MergesInTurn = (gs : List Geo) → All IsSound gs → merged gs ≡ fold appended empty_geo gs

-- what each call leaves is well made, but that primitives may lack vertices
pub record LeaveSound : Type 0 where
  pub set : (g : Geo) (class : Class) (head element : ℕ) (v : Value) → IsSound g → IsOfHead g class head v → IsSound (value_set g class head element v)
  pub set_member : (g : Geo) (class : Class) (group element : ℕ) (on : Bool) → IsSound g → IsSound (member_set g class group element on)
  pub hold : (g : Geo) (class : Class) (head : ℕ) (vs : List Value) → IsSound g → All (IsOfHead g class head) vs → IsSound (column_held g class head vs)
  pub clear : (g : Geo) (class : Class) (head : ℕ) → IsSound g → HasHead g class head → IsSound (column_cleared g class head)
  pub add_attr : (g : Geo) (class : Class) (head : Head) → IsSound g → IsNewHead g class head.name → IsSound (attr_added g class head)
  pub del_attr : (g : Geo) (class : Class) (head : ℕ) → IsSound g → IsNotPosition class head → IsSound (attr_deleted g class head)
  pub add_group : (g : Geo) (class : Class) (name : List ℕ) → IsSound g → HasGroups class → IsNewGroup g class name → IsSound (group_added g class name)
  pub add_points : (g : Geo) (n : ℕ) → IsSound g → IsSound (points_added g n)
  pub add_prim : (g : Geo) (closed : Bool) (points : List ℕ) → IsSound g → ArePoints g points → IsSound (prim_added g closed points)
  pub add_vertices : (g : Geo) (adds : List (ℕ × ℕ)) → IsSound g → ArePlaces g adds → IsSound (vertices_added g adds)
  pub reorder : (g : Geo) (class : Class) (perm : List ℕ) → IsSound g → IsOrderOf (count_of g class) perm → IsSound (reordered g class perm)
  pub append : (a b : Geo) → IsSound a → IsSound b → IsSound (appended a b)

-- what each call leaves has no primitive without vertices where there was none, and a sweep leaves none in any case
pub record LeaveGood : Type 0 where
  pub set : (g : Geo) (class : Class) (head element : ℕ) (v : Value) → IsGood g → IsOfHead g class head v → IsGood (value_set g class head element v)
  pub set_member : (g : Geo) (class : Class) (group element : ℕ) (on : Bool) → IsGood g → IsGood (member_set g class group element on)
  pub hold : (g : Geo) (class : Class) (head : ℕ) (vs : List Value) → IsGood g → All (IsOfHead g class head) vs → IsGood (column_held g class head vs)
  pub clear : (g : Geo) (class : Class) (head : ℕ) → IsGood g → HasHead g class head → IsGood (column_cleared g class head)
  pub add_attr : (g : Geo) (class : Class) (head : Head) → IsGood g → IsNewHead g class head.name → IsGood (attr_added g class head)
  pub del_attr : (g : Geo) (class : Class) (head : ℕ) → IsGood g → IsNotPosition class head → IsGood (attr_deleted g class head)
  pub add_group : (g : Geo) (class : Class) (name : List ℕ) → IsGood g → HasGroups class → IsNewGroup g class name → IsGood (group_added g class name)
  pub add_points : (g : Geo) (n : ℕ) → IsGood g → IsGood (points_added g n)
  pub add_prim : (g : Geo) (closed : Bool) (points : List ℕ) → IsGood g → ArePoints g points → 0 < length points → IsGood (prim_added g closed points)
  pub add_vertices : (g : Geo) (adds : List (ℕ × ℕ)) → IsGood g → ArePlaces g adds → IsGood (vertices_added g adds)
  pub keep : (g : Geo) (marks : MarkSet) → IsSound g → IsGood (swept g marks)
  pub reorder : (g : Geo) (class : Class) (perm : List ℕ) → IsGood g → IsOrderOf (count_of g class) perm → IsGood (reordered g class perm)
  pub append : (a b : Geo) → IsGood a → IsGood b → IsGood (appended a b)

-- what each call leaves is within the limits of elements, heads and groups exactly where there is room for what comes
pub record LeaveWithin : Type 0 where
  pub set : (g : Geo) (class : Class) (head element : ℕ) (v : Value) → IsWithin g → IsWithin (value_set g class head element v)
  pub set_member : (g : Geo) (class : Class) (group element : ℕ) (on : Bool) → IsWithin g → IsWithin (member_set g class group element on)
  pub hold : (g : Geo) (class : Class) (head : ℕ) (vs : List Value) → IsWithin g → IsWithin (column_held g class head vs)
  pub add_attr : (g : Geo) (class : Class) (head : Head) → IsWithin g → IsWithin (attr_added g class head) ↔ (length (heads_of g class).heads < most_heads)
  pub del_attr : (g : Geo) (class : Class) (head : ℕ) → IsWithin g → IsWithin (attr_deleted g class head)
  pub add_group : (g : Geo) (class : Class) (name : List ℕ) → IsWithin g → IsWithin (group_added g class name) ↔ (length (heads_of g class).groups < most_groups)
  pub add_points : (g : Geo) (n : ℕ) → IsWithin g → IsWithin (points_added g n) ↔ (count_of g Point + n ≤ most_points)
  pub add_prim : (g : Geo) (closed : Bool) (points : List ℕ) → IsWithin g → IsWithin (prim_added g closed points) ↔ ((count_of g Prim < most_prims) × (count_of g Vertex + length points ≤ most_vertices))
  pub add_vertices : (g : Geo) (adds : List (ℕ × ℕ)) → IsWithin g → ArePlaces g adds → IsWithin (vertices_added g adds) ↔ (count_of g Vertex + length adds ≤ most_vertices)
  pub keep : (g : Geo) (marks : MarkSet) → IsWithin g → IsWithin (swept g marks)
  pub reorder : (g : Geo) (class : Class) (perm : List ℕ) → IsWithin g → IsOrderOf (count_of g class) perm → IsWithin (reordered g class perm)
  pub append : (a b : Geo) → IsSound a → IsSound b → IsWithin (appended a b) ↔ AreWithinBoth a b

-- what each call leaves has its strings and lists within their limits, where what was there and what comes has
pub record LeaveValuesWithin : Type 0 where
  pub set : (g : Geo) (class : Class) (head element : ℕ) (v : Value) → AreValuesWithin g → IsTrue (is_value_within v) → AreValuesWithin (value_set g class head element v)
  pub set_member : (g : Geo) (class : Class) (group element : ℕ) (on : Bool) → AreValuesWithin g → AreValuesWithin (member_set g class group element on)
  pub hold : (g : Geo) (class : Class) (head : ℕ) (vs : List Value) → AreValuesWithin g → All (λ v. IsTrue (is_value_within v)) vs → AreValuesWithin (column_held g class head vs)
  pub clear : (g : Geo) (class : Class) (head : ℕ) → AreValuesWithin g → AreValuesWithin (column_cleared g class head)
  pub add_attr : (g : Geo) (class : Class) (head : Head) → AreValuesWithin g → AreValuesWithin (attr_added g class head)
  pub del_attr : (g : Geo) (class : Class) (head : ℕ) → AreValuesWithin g → AreValuesWithin (attr_deleted g class head)
  pub add_group : (g : Geo) (class : Class) (name : List ℕ) → AreValuesWithin g → AreValuesWithin (group_added g class name)
  pub add_points : (g : Geo) (n : ℕ) → AreValuesWithin g → AreValuesWithin (points_added g n)
  pub add_prim : (g : Geo) (closed : Bool) (points : List ℕ) → AreValuesWithin g → AreValuesWithin (prim_added g closed points)
  pub add_vertices : (g : Geo) (adds : List (ℕ × ℕ)) → AreValuesWithin g → AreValuesWithin (vertices_added g adds)
  pub keep : (g : Geo) (marks : MarkSet) → AreValuesWithin g → AreValuesWithin (swept g marks)
  pub reorder : (g : Geo) (class : Class) (perm : List ℕ) → AreValuesWithin g → IsOrderOf (count_of g class) perm → AreValuesWithin (reordered g class perm)
  pub append : (a b : Geo) → IsSound a → IsSound b → AreValuesWithin a → AreValuesWithin b → AreValuesWithin (appended a b)

-- a sweep keeps the order and the rows of what stays
abbrev pub SweepsKeepRows : Type 0
SweepsKeepRows = (g : Geo) (marks : MarkSet) (class : Class) → rows_of (swept g marks) class ≡ kept (stays g marks class) 0 (rows_of g class)

-- a sweep without marks changes nothing
abbrev pub SweepsOnlyMarked : Type 0
SweepsOnlyMarked = (g : Geo) (marks : MarkSet) → IsUnmarked marks → IsGood g → swept g marks ≡ g
