-- The shape of a geometry: its primitives and vertices without their rows.
use Rattle.std.specs.Prelude.{◌≡◌, ℕ, ◌≤◌, Bool, List, map, length}
use Rattle.sop_model.specs.declared.geo.Geo.{Geo}
use Rattle.sop_model.specs.Vertices.{corners_of, ends_of}
use Rattle.sop_model.specs.Limits.{most_prims, most_vertices}

-- which primitives are closed, where the vertices of each end, and the point of each vertex
pub record ShapeLists : Type 0 where
  pub closed : List Bool
  pub ends : List ℕ
  pub refers : List ℕ

abbrev pub shape_with : List Bool → List ℕ → List ℕ → ShapeLists
shape_with closed ends refers = record { closed = closed; ends = ends; refers = refers }

abbrev pub shape_of : Geo → ShapeLists
shape_of g = shape_with (map (λ p. p.closed) g.prims) (ends_of 0 g.prims) (map (λ c. c.point) (corners_of g.prims))

-- a geometry has this shape
abbrev pub HasShape : Geo → ShapeLists → Type 0
HasShape g s = shape_of g ≡ s

-- some geometry has this shape, and it is within the limits of primitives and vertices
pub record IsShape (s : ShapeLists) : Type 0 where
  pub geo : Geo
  pub has : HasShape geo s
  pub prims : length s.closed ≤ most_prims
  pub vertices : length s.refers ≤ most_vertices
