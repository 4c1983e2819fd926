-- The sweep: marked elements go, and with them what can't stay.
--
-- A vertex goes if it is marked, its primitive is marked or its point is marked. A primitive goes if it is marked, or if it has no vertex
-- that stays. A point goes if it is marked, or if a primitive marked with its points has a vertex on it and no vertex that stays refers to
-- it. The rest keeps its order and its rows, and vertices refer to the new numbers of their points.
use Rattle.std.specs.Prelude.{◌≡◌, ℕ, zero, suc, ◌+◌, Bool, true, false, not, ◌&&◌, ◌||◌, ◌==◌, if◌then◌else◌, List, [], ◌∷◌, length, map, All, slice_index_or}
use Rattle.sop_model.specs.declared.class.Class.{Class}
use Rattle.sop_model.specs.declared.class.Class.TheVariants.{Detail, Prim, Point, Vertex}
use Rattle.sop_model.specs.declared.geo.Geo.{Geo}
use Rattle.sop_model.specs.declared.geo.Primitive.{Primitive}
use Rattle.sop_model.specs.Vertices.{size_of, corners_of, first_vertex_in, prim_in}
use Rattle.sop_model.specs.Geometry.{count_of}
use Rattle.sop_model.specs.Rows.{renumbered}

-- a flag for each point, vertex and primitive, and for each primitive whether its points are marked with it
pub record MarkSet : Type 0 where
  pub points : List Bool
  pub vertices : List Bool
  pub prims : List Bool
  pub with_points : List Bool

abbrev pub is_marked : List Bool → ℕ → Bool
is_marked flags n = slice_index_or flags n false

-- whether one of so many numbers from n on passes
abbrev pub some_from : (ℕ → Bool) → ℕ → ℕ → Bool
some_from test n zero = false
some_from test n (suc more) = test n || some_from test (suc n) more

-- the point of a vertex
abbrev pub point_under : Geo → ℕ → ℕ
point_under g vertex = slice_index_or (map (λ c. c.point) (corners_of g.prims)) vertex 0

-- WHAT GOES

abbrev pub vertex_goes : Geo → MarkSet → ℕ → Bool
vertex_goes g marks vertex = is_marked marks.vertices vertex || is_marked marks.prims (prim_in g.prims vertex) || is_marked marks.points (point_under g vertex)

-- whether a primitive has a vertex that stays
abbrev pub keeps_vertex : Geo → MarkSet → ℕ → Bool
keeps_vertex g marks prim = some_from (λ vertex. not (vertex_goes g marks vertex)) (first_vertex_in g.prims prim) (slice_index_or (map size_of g.prims) prim 0)

abbrev pub prim_goes : Geo → MarkSet → ℕ → Bool
prim_goes g marks prim = is_marked marks.prims prim || not (keeps_vertex g marks prim)

-- whether a primitive that is marked with its points has a vertex on this point
abbrev pub is_given_up : Geo → MarkSet → ℕ → Bool
is_given_up g marks point =
    some_from (λ vertex. is_marked marks.prims (prim_in g.prims vertex) && is_marked marks.with_points (prim_in g.prims vertex) && (point_under g vertex == point)) 0 (count_of g Vertex)

-- whether a vertex that stays refers to this point
abbrev pub is_used : Geo → MarkSet → ℕ → Bool
is_used g marks point = some_from (λ vertex. not (vertex_goes g marks vertex) && (point_under g vertex == point)) 0 (count_of g Vertex)

abbrev pub point_goes : Geo → MarkSet → ℕ → Bool
point_goes g marks point = is_marked marks.points point || (is_given_up g marks point && not (is_used g marks point))

-- whether an element stays
abbrev pub stays : Geo → MarkSet → Class → ℕ → Bool
stays g marks Detail element = true
stays g marks Prim element = not (prim_goes g marks element)
stays g marks Point element = not (point_goes g marks element)
stays g marks Vertex element = not (vertex_goes g marks element)

-- WHAT IS LEFT

-- the items whose numbers, from n on, pass, in their order
abbrev pub kept : {X : Type 0} → (ℕ → Bool) → ℕ → List X → List X
kept test n [] = []
kept test n (x ∷ xs) = if test n then x ∷ kept test (suc n) xs else kept test (suc n) xs

-- how many numbers below n pass
abbrev pub how_many : (ℕ → Bool) → ℕ → ℕ
how_many test zero = 0
how_many test (suc n) = how_many test n + (if test n then 1 else 0)

-- the primitives, each with those of its vertices whose numbers, from n on, pass
abbrev pub corners_kept : (ℕ → Bool) → ℕ → List Primitive → List Primitive
corners_kept test n [] = []
corners_kept test n (p ∷ prims) = record p { corners = kept test n p.corners } ∷ corners_kept test (n + size_of p) prims

abbrev pub swept : Geo → MarkSet → Geo
swept g marks = record g {
  points = kept (stays g marks Point) 0 g.points;
  prims = map (renumbered (how_many (stays g marks Point))) (kept (stays g marks Prim) 0 (corners_kept (stays g marks Vertex) 0 g.prims));
}

-- CONDITIONS

-- as many flags for each class as the geometry has elements
pub record AreMarksOf (g : Geo) (marks : MarkSet) : Type 0 where
  pub points : length marks.points ≡ count_of g Point
  pub vertices : length marks.vertices ≡ count_of g Vertex
  pub prims : length marks.prims ≡ count_of g Prim
  pub with_points : length marks.with_points ≡ count_of g Prim

-- no element is marked
pub record IsUnmarked (marks : MarkSet) : Type 0 where
  pub points : All (λ on. on ≡ false) marks.points
  pub vertices : All (λ on. on ≡ false) marks.vertices
  pub prims : All (λ on. on ≡ false) marks.prims
  pub with_points : All (λ on. on ≡ false) marks.with_points
