-- Worked examples: what the definitions on rows say of a small geometry, by computation.
use Rattle.std.specs.Prelude.{◌≡◌, refl, ℕ, pos, Bool, true, false, List, [], ◌∷◌, None, Some, codes}
use Rattle.sop_model.specs.declared.class.Class.TheVariants.{Detail, Prim, Point, Vertex}
use Rattle.sop_model.specs.declared.geo.Geo.{Geo}
use Rattle.sop_model.specs.declared.geo.Row.{Row}
use Rattle.sop_model.specs.declared.geo.Head.{Head}
use Rattle.sop_model.specs.declared.geo.Corner.{Corner}
use Rattle.sop_model.specs.declared.geo.Primitive.{Primitive}
use Rattle.sop_model.specs.declared.value.Kind.TheVariants as kind
use Rattle.sop_model.specs.declared.value.Value.{Value}
use Rattle.sop_model.specs.declared.value.Value.TheVariants as value
use Rattle.sop_model.specs.Values.{zero_vector}
use Rattle.sop_model.specs.Geometry.{empty_row, no_heads, position_head}
use Rattle.sop_model.specs.Rows.{value_set, member_set, attr_added, attr_deleted, group_added, points_added, prim_added, vertices_added, column_of, column_held, column_cleared, reordered, head_named}
use Rattle.sop_model.specs.Sweep.{MarkSet, swept}

-- points with the whole numbers `n` and the group `g`, vertices with the whole numbers `w`
number_head : List ℕ → Head
number_head name = record { name = name; kind = kind.Int }

int : ℕ → Value
int n = value.Int (pos n)

point : ℕ → Bool → Row
point n on = record { values = value.Vector zero_vector ∷ int n ∷ []; flags = on ∷ [] }

vertex : ℕ → ℕ → Corner
vertex p w = record { point = p; row = record { values = int w ∷ []; flags = [] } }

prim : Bool → List Corner → Primitive
prim closed corners = record { closed = closed; row = empty_row; corners = corners }

geo : List Row → List Primitive → Geo
geo points prims = record {
  detail = no_heads;
  prim = no_heads;
  point = record { heads = position_head ∷ number_head (codes "n") ∷ []; groups = codes "g" ∷ [] };
  vertex = record { heads = number_head (codes "w") ∷ []; groups = [] };
  points = points;
  prims = prims;
  detail_row = empty_row;
}

-- a triangle on the points 0, 1 and 2, then a line on the points 2 and 3
small : Geo
small =
    geo (point 10 false ∷ point 11 true ∷ point 12 false ∷ point 13 true ∷ [])
    (prim true (vertex 0 20 ∷ vertex 1 21 ∷ vertex 2 22 ∷ []) ∷ prim false (vertex 2 23 ∷ vertex 3 24 ∷ []) ∷ [])

-- VALUES AND FLAGS

-- vertex 3 is the first of the line
set_at_a_vertex : value_set small Vertex 0 3 (int 99) ≡ geo small.points (prim true (vertex 0 20 ∷ vertex 1 21 ∷ vertex 2 22 ∷ []) ∷ prim false (vertex 2 99 ∷ vertex 3 24 ∷ []) ∷ [])
unfolding small geo point vertex prim int number_head
set_at_a_vertex = refl

set_past_the_points : value_set small Point 1 4 (int 99) ≡ small
unfolding small geo point vertex prim int number_head
set_past_the_points = refl

put_into_a_group : member_set small Point 0 2 true ≡ geo (point 10 false ∷ point 11 true ∷ point 12 true ∷ point 13 true ∷ []) small.prims
unfolding small geo point vertex prim int number_head
put_into_a_group = refl

column_of_vertices : column_of small Vertex 0 ≡ int 20 ∷ int 21 ∷ int 22 ∷ int 23 ∷ int 24 ∷ []
unfolding small geo point vertex prim int number_head
column_of_vertices = refl

column_put_back : column_held small Vertex 0 (int 1 ∷ int 2 ∷ int 3 ∷ int 4 ∷ int 5 ∷ []) ≡ geo small.points (prim true (vertex 0 1 ∷ vertex 1 2 ∷ vertex 2 3 ∷ []) ∷ prim false (vertex 2 4 ∷ vertex 3 5 ∷ []) ∷ [])
unfolding small geo point vertex prim int number_head
column_put_back = refl

column_taken : column_cleared small Point 1 ≡ geo (point 0 false ∷ point 0 true ∷ point 0 false ∷ point 0 true ∷ []) small.prims
unfolding small geo point vertex prim int number_head
column_taken = refl

-- HEADS AND GROUPS

-- the attribute `x` of the line and the triangle, deleted again
flat : Geo
flat = record small {
  prim = record { heads = number_head (codes "x") ∷ []; groups = [] };
  prims = record (prim true (vertex 0 20 ∷ vertex 1 21 ∷ vertex 2 22 ∷ [])) { row = record { values = int 0 ∷ []; flags = [] } }
      ∷ record (prim false (vertex 2 23 ∷ vertex 3 24 ∷ [])) { row = record { values = int 0 ∷ []; flags = [] } } ∷ [];
}

attr_of_prims : attr_added small Prim (number_head (codes "x")) ≡ flat
unfolding small flat geo point vertex prim int number_head
attr_of_prims = refl

attr_of_prims_deleted : attr_deleted flat Prim 0 ≡ small
unfolding small flat geo point vertex prim int number_head
attr_of_prims_deleted = refl

attr_of_detail : attr_added small Detail (number_head (codes "x")) ≡ record small { detail = record { heads = number_head (codes "x") ∷ []; groups = [] }; detail_row = record { values = int 0 ∷ []; flags = [] } }
unfolding small geo point vertex prim int number_head
attr_of_detail = refl

group_of_prims : group_added small Prim (codes "h") ≡ record small {
  prim = record { heads = []; groups = codes "h" ∷ [] };
  prims = record (prim true (vertex 0 20 ∷ vertex 1 21 ∷ vertex 2 22 ∷ [])) { row = record { values = []; flags = false ∷ [] } }
      ∷ record (prim false (vertex 2 23 ∷ vertex 3 24 ∷ [])) { row = record { values = []; flags = false ∷ [] } } ∷ [];
}
unfolding small geo point vertex prim int number_head
group_of_prims = refl

named_second : head_named small Point (codes "n") ≡ Some 1
unfolding small geo point vertex prim int number_head
named_second = refl

named_nowhere : head_named small Point (codes "w") ≡ None
unfolding small geo point vertex prim int number_head
named_nowhere = refl

-- ELEMENTS

two_points : points_added small 2 ≡ geo (point 10 false ∷ point 11 true ∷ point 12 false ∷ point 13 true ∷ point 0 false ∷ point 0 false ∷ []) small.prims
unfolding small geo point vertex prim int number_head
two_points = refl

a_line_more : prim_added small false (3 ∷ 0 ∷ []) ≡ geo small.points (prim true (vertex 0 20 ∷ vertex 1 21 ∷ vertex 2 22 ∷ []) ∷ prim false (vertex 2 23 ∷ vertex 3 24 ∷ []) ∷ prim false (vertex 3 0 ∷ vertex 0 0 ∷ []) ∷ [])
unfolding small geo point vertex prim int number_head
a_line_more = refl

-- two for the line, in their order, and one for the triangle between them
three_vertices : vertices_added small ((1, 0) ∷ (0, 3) ∷ (1, 1) ∷ []) ≡ geo small.points (prim true (vertex 0 20 ∷ vertex 1 21 ∷ vertex 2 22 ∷ vertex 3 0 ∷ []) ∷ prim false (vertex 2 23 ∷ vertex 3 24 ∷ vertex 0 0 ∷ vertex 1 0 ∷ []) ∷ [])
unfolding small geo point vertex prim int number_head
three_vertices = refl

-- ANOTHER ORDER

-- point 2 becomes point 0, and the vertices that were on it are on point 0
points_turned : reordered small Point (2 ∷ 3 ∷ 1 ∷ 0 ∷ []) ≡ geo (point 12 false ∷ point 13 true ∷ point 11 true ∷ point 10 false ∷ []) (prim true (vertex 3 20 ∷ vertex 2 21 ∷ vertex 0 22 ∷ []) ∷ prim false (vertex 0 23 ∷ vertex 1 24 ∷ []) ∷ [])
unfolding small geo point vertex prim int number_head
points_turned = refl

prims_turned : reordered small Prim (1 ∷ 0 ∷ []) ≡ geo small.points (prim false (vertex 2 23 ∷ vertex 3 24 ∷ []) ∷ prim true (vertex 0 20 ∷ vertex 1 21 ∷ vertex 2 22 ∷ []) ∷ [])
unfolding small geo point vertex prim int number_head
prims_turned = refl

-- THE SWEEP

marks : List Bool → List Bool → List Bool → List Bool → MarkSet
marks points vertices prims with_points = record { points = points; vertices = vertices; prims = prims; with_points = with_points }

none : List Bool
none = []

nothing_marked : swept small (marks none none none none) ≡ small
unfolding small geo point vertex prim int number_head marks none
nothing_marked = refl

-- the triangle goes with its points 0 and 1; point 2 is still used
prim_with_points : swept small (marks none none (true ∷ false ∷ []) (true ∷ false ∷ [])) ≡ geo (point 12 false ∷ point 13 true ∷ []) (prim false (vertex 0 23 ∷ vertex 1 24 ∷ []) ∷ [])
unfolding small geo point vertex prim int number_head marks none
prim_with_points = refl

-- the triangle alone goes, and its points stay
prim_alone : swept small (marks none none (true ∷ false ∷ []) none) ≡ geo small.points (prim false (vertex 2 23 ∷ vertex 3 24 ∷ []) ∷ [])
unfolding small geo point vertex prim int number_head marks none
prim_alone = refl

-- point 2 goes, and with it a vertex of each
point_marked : swept small (marks (false ∷ false ∷ true ∷ []) none none none) ≡ geo (point 10 false ∷ point 11 true ∷ point 13 true ∷ []) (prim true (vertex 0 20 ∷ vertex 1 21 ∷ []) ∷ prim false (vertex 2 24 ∷ []) ∷ [])
unfolding small geo point vertex prim int number_head marks none
point_marked = refl

-- both vertices of the line go, so the line goes
vertices_marked : swept small (marks none (false ∷ false ∷ false ∷ true ∷ true ∷ []) none none) ≡ geo small.points (prim true (vertex 0 20 ∷ vertex 1 21 ∷ vertex 2 22 ∷ []) ∷ [])
unfolding small geo point vertex prim int number_head marks none
vertices_marked = refl

-- the triangle goes with its points, and so does the line's vertex on point 2: nothing refers to point 2 any more
last_use_gone : swept small (marks none (false ∷ false ∷ false ∷ true ∷ []) (true ∷ false ∷ []) (true ∷ false ∷ [])) ≡ geo (point 13 true ∷ []) (prim false (vertex 0 24 ∷ []) ∷ [])
unfolding small geo point vertex prim int number_head marks none
last_use_gone = refl

-- a primitive without vertices goes at the next sweep
without_vertices : swept (prim_added small true []) (marks none none none none) ≡ small
unfolding small geo point vertex prim int number_head marks none
without_vertices = refl
