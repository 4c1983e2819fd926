-- The grid of cells in which points are looked up, and what a look-up finds in it.
use Rattle.std.specs.Prelude.{ℕ, ◌+◌, ◌-◌, ◌*◌, ◌/◌, ◌^◌, ◌<◌, suc, ◌≡◌, Bool, true, false, ◌&&◌, ◌==◌, nat_lt, nat_le, if◌then◌else◌, List, [], ◌∷◌, length, map, sum_by, IsPermutation, IsSortedByKey, ℤ, pos, negsuc}
use Rattle.std.specs.List.{range_with_len}
use Rattle.std.specs.Ordering.{nat_cmp, ordering_then}
use Rattle.std.specs.declared.cmp.Ordering.{Ordering}
use Rattle.sop_fixed.specs.Numbers.{largest_size}
use Rattle.sop_fixed.specs.declared.vec3.Vec3.{Vec3}
use Rattle.sop_nearest.specs.Places.{place_at, squared}
use Rattle.sop_nearest.specs.declared.cells.Cell.{Cell}
use Rattle.sop_nearest.specs.declared.cells.Spot.{Spot}
use Rattle.sop_nearest.specs.declared.cells.Span.{Span}
use Rattle.sop_nearest.specs.declared.hits.Hit.{Hit}
use Rattle.sop_nearest.specs.declared.hits.Ball.{Ball}

-- how many millionths a coordinate lies above the least Real
abbrev pub height_of : ℤ → ℕ
height_of (pos n) = largest_size + n
height_of (negsuc n) = largest_size - suc n

-- the cell of a place; cells are as wide as `side` along each axis
abbrev pub cell_of : ℕ → Vec3 → Cell
cell_of side place = record { x = height_of place.x / side; y = height_of place.y / side; z = height_of place.z / side }

-- a point with its cell
abbrev pub spot_at : ℕ → List Vec3 → ℕ → Spot
spot_at side places n = record { cell = cell_of side (place_at places n); number = n }

-- cells stand by x, then by y, then by z
abbrev pub cell_cmp : Cell → Cell → Ordering
cell_cmp a b = ordering_then (nat_cmp a.x b.x) (ordering_then (nat_cmp a.y b.y) (nat_cmp a.z b.z))

-- all points, each once, in the order of their cells
pub record IsGrid (side : ℕ) (places : List Vec3) (spots : List Spot) : Type 0 where
  pub wide : 0 < side
  pub few : length places < 2 ^ 32
  pub all : IsPermutation (map (spot_at side places) (range_with_len 0 (length places))) spots
  pub sorted : IsSortedByKey (λ s. s.cell) cell_cmp spots

abbrev pub is_in : Span → ℕ → Bool
is_in span i = nat_le span.low i && nat_lt i span.end

abbrev pub is_in_row : ℕ → ℕ → Span → Cell → Bool
is_in_row x y z cell = (cell.x == x) && ((cell.y == y) && is_in z cell.z)

-- the cells of one x, with y and z in reach
abbrev pub is_in_slab : ℕ → Span → Span → Cell → Bool
is_in_slab x y z cell = (cell.x == x) && (is_in y cell.y && is_in z cell.z)

abbrev pub is_in_reach : Span → Span → Span → Cell → Bool
is_in_reach x y z cell = is_in x cell.x && (is_in y cell.y && is_in z cell.z)

-- the hit of a point that was measured, where it lies within the ball
abbrev pub hits_from : Ball → Vec3 → ℕ → List Hit
hits_from ball place n = if nat_le (squared place ball.center) (ball.radius * ball.radius) then (record { squared = squared place ball.center; number = n }) ∷ [] else []

abbrev pub hits_at : List Vec3 → Ball → ℕ → List Hit
hits_at places ball n = hits_from ball (place_at places n) n

-- what the hit of a point adds to a sum over hits
abbrev pub worth : List Vec3 → Ball → (Hit → ℕ) → ℕ → ℕ
worth places ball f n = sum_by f (hits_at places ball n)

abbrev pub share : Bool → ℕ → ℕ
share true n = n
share false n = 0

-- the hits of the points in these cells were added, in whatever order
pub record AddsHits (places : List Vec3) (ball : Ball) (spots : List Spot) (cells : Cell → Bool) (old new : List Hit) : Type 0 where
  pub sums : (f : Hit → ℕ) → sum_by f new ≡ sum_by f old + sum_by (λ s. share (cells s.cell) (worth places ball f s.number)) spots

-- the hits are those of all points, in whatever order
pub record IsAllHits (places : List Vec3) (ball : Ball) (hits : List Hit) : Type 0 where
  pub sums : (f : Hit → ℕ) → sum_by f hits ≡ sum_by (worth places ball f) (range_with_len 0 (length places))
