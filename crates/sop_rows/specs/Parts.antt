-- Lists that give the shape of a geometry after a call: which vertices go with primitives in another order, and how many of each stay.
use Rattle.std.specs.Prelude.{ℕ, ◌+◌, Bool, List, [], ◌∷◌, map, length, slice_index_or}
use Rattle.std.specs.List.{flat_map, range_with_len}
use Rattle.sop_model.specs.declared.geo.Primitive.{Primitive}
use Rattle.sop_model.specs.Vertices.{size_of, first_vertex_in}
use Rattle.sop_model.specs.Sweep.{kept}

-- the numbers of the vertices of these primitives, in order
abbrev pub vertices_with : List Primitive → List ℕ → List ℕ
vertices_with prims perm = flat_map (λ i. range_with_len (first_vertex_in prims i) (slice_index_or (map size_of prims) i 0)) perm

-- how many of so many numbers from n on pass
abbrev pub how_many_from : (ℕ → Bool) → ℕ → ℕ → ℕ
how_many_from test n count = length (kept test n (range_with_len n count))

-- of groups of so many numbers, the first from n on: how many pass of each
abbrev pub sizes_kept : (ℕ → Bool) → ℕ → List ℕ → List ℕ
sizes_kept test n [] = []
sizes_kept test n (size ∷ sizes) = how_many_from test n size ∷ sizes_kept test (n + size) sizes
