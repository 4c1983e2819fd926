-- What stays of a geometry, told by flags, and the numbers of what stays.
use Rattle.std.specs.Prelude.{◌≡◌, ℕ, ◌+◌, ◌<◌, ◌≤◌, Bool, not, ◌&&◌, ◌||◌, ◌==◌, nat_lt, List, [], ◌∷◌, map, length, slice_index_or}
use Rattle.std.specs.List.{range_with_len}
use Rattle.sop_model.specs.declared.class.Class.{Class}
use Rattle.sop_model.specs.declared.geo.Geo.{Geo}
use Rattle.sop_model.specs.Geometry.{count_of}
use Rattle.sop_model.specs.Sweep.{MarkSet, is_marked, some_from, stays, kept, how_many}

-- the numbers of the elements of a class that stay, in order
abbrev pub numbers_left : Geo → MarkSet → Class → List ℕ
numbers_left g marks class = kept (stays g marks class) 0 (range_with_len 0 (count_of g class))

-- the number that stands in a place
abbrev pub number_at : List ℕ → ℕ → ℕ
number_at numbers i = slice_index_or numbers i 0

-- whether a vertex stays, by the primitive and the point of each vertex
abbrev pub vertex_test : MarkSet → List ℕ → List ℕ → ℕ → Bool
vertex_test marks owners refers vertex = not (is_marked marks.vertices vertex || is_marked marks.prims (number_at owners vertex) || is_marked marks.points (number_at refers vertex))

-- whether a vertex gives up its point: its primitive is marked with its points
abbrev pub gives_up : MarkSet → List ℕ → ℕ → Bool
gives_up marks owners vertex = is_marked marks.prims (number_at owners vertex) && is_marked marks.with_points (number_at owners vertex)

-- whether a vertex with a flag refers to a point
abbrev pub is_touched : List Bool → List ℕ → ℕ → Bool
is_touched flags refers point = some_from (λ vertex. is_marked flags vertex && (number_at refers vertex == point)) 0 (length refers)

-- whether a point stays, by the points that are given up and those that are used
abbrev pub point_test : List Bool → (ℕ → Bool) → (ℕ → Bool) → ℕ → Bool
point_test marked given_up used point = not (is_marked marked point || (given_up point && not (used point)))

-- for ends one after the other whether some number from the one before, or from the first, passes
abbrev pub grows : (ℕ → Bool) → ℕ → List ℕ → List Bool
grows test before [] = []
grows test before (end ∷ ends) = nat_lt (how_many test before) (how_many test end) ∷ grows test end ends

-- a test of so many numbers, as flags
abbrev pub flags_of : (ℕ → Bool) → ℕ → List Bool
flags_of test count = map test (range_with_len 0 count)

-- how many flags are set before each place, and before the end
pub record AreCounts (flags : List Bool) (counts : List ℕ) : Type 0 where
  pub long : length counts ≡ length flags + 1
  pub each : (i : ℕ) → i ≤ length flags → number_at counts i ≡ how_many (is_marked flags) i

-- for each of so many points whether a vertex with a flag refers to it
pub record AreTouched (flags : List Bool) (refers : List ℕ) (points : ℕ) (touched : List Bool) : Type 0 where
  pub long : length touched ≡ points
  pub each : (point : ℕ) → point < points → is_marked touched point ≡ is_touched flags refers point
