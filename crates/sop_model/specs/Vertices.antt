-- Vertices: they are numbered primitive by primitive, in order. What a change of a row or of vertices makes of the primitives.
use Rattle.std.specs.Prelude.{ℕ, ◌+◌, ◌-◌, suc, nat_lt, ◌==◌, if◌then◌else◌, List, [], ◌∷◌, ◌++◌, length, map, filter, sum_by, take, slice_set}
use Rattle.std.specs.List.{flat_map}
use Rattle.sop_model.specs.declared.geo.Row.{Row}
use Rattle.sop_model.specs.declared.geo.Corner.{Corner}
use Rattle.sop_model.specs.declared.geo.Primitive.{Primitive}

-- how many vertices a primitive has
abbrev pub size_of : Primitive → ℕ
size_of p = length p.corners

-- all vertices, in the order of their numbers
abbrev pub corners_of : List Primitive → List Corner
corners_of prims = flat_map (λ p. p.corners) prims

-- the number of the first vertex of primitive i
abbrev pub first_vertex_in : List Primitive → ℕ → ℕ
first_vertex_in prims i = sum_by size_of (take i prims)

-- the primitive that has the vertex of this number
abbrev pub prim_in : List Primitive → ℕ → ℕ
prim_in [] vertex = 0
prim_in (p ∷ prims) vertex = if nat_lt vertex (size_of p) then 0 else suc (prim_in prims (vertex - size_of p))

-- for each primitive the number of vertices up to its end, where so many stand before the first
abbrev pub ends_of : ℕ → List Primitive → List ℕ
ends_of before [] = []
ends_of before (p ∷ prims) = (before + size_of p) ∷ ends_of (before + size_of p) prims

abbrev pub with_row : Row → Primitive → Primitive
with_row row p = record p { row = row }

-- a primitive with another vertex in this place, from 0
abbrev pub with_corner : ℕ → Corner → Primitive → Primitive
with_corner place corner p = record p { corners = slice_set p.corners place corner }

-- a primitive with further vertices behind its own
abbrev pub with_more : List Corner → Primitive → Primitive
with_more corners p = record p { corners = p.corners ++ corners }

-- primitives, numbered from n on, each with the further vertices of its number
abbrev pub longer_from : (ℕ → List Corner) → ℕ → List Primitive → List Primitive
longer_from more n [] = []
longer_from more n (p ∷ prims) = with_more (more n) p ∷ longer_from more (suc n) prims

-- the vertices of primitive i, in order, among vertices for primitives
abbrev pub corners_for : ℕ → List (ℕ × Corner) → List Corner
corners_for i adds = map (λ a. a.1) (filter (λ a. a.0 == i) adds)

-- primitives, each with the vertices that are added to it behind its own
abbrev pub longer_prims : List (ℕ × Corner) → List Primitive → List Primitive
longer_prims adds prims = longer_from (λ i. corners_for i adds) 0 prims
