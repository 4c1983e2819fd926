-- The points near a place, as the plain scan finds them: every point is measured, and those whose squared distance is at most the squared
-- radius stand in the order of their squared distances, and of their numbers where these are equal.
use Rattle.std.specs.Prelude.{◌≡◌, ℕ, ◌*◌, ◌<◌, ◌≤◌, ◌↔◌, Bool, true, false, ◌&&◌, ◌||◌, ◌==◌, nat_lt, nat_le, List, [], ◌∷◌, length, filter, Contains}
use Rattle.std.specs.List.{AllPairs, range_with_len}
use Rattle.sop_fixed.specs.declared.vec3.Vec3.{Vec3}
use Rattle.sop_nearest.specs.Places.{squared_at}

-- point n stands before point m: it is nearer, or as near and of a smaller number
pub record StandsBefore (places : List Vec3) (center : Vec3) (n m : ℕ) : Type 0 where
  pub nearer : squared_at places center n ≤ squared_at places center m
  pub tied : squared_at places center n ≡ squared_at places center m → n < m

-- the numbers are those of exactly the points within the radius, in order, so that each stands there once
pub record IsNearby (places : List Vec3) (center : Vec3) (radius : ℕ) (numbers : List ℕ) : Type 0 where
  pub members : (n : ℕ) → Contains numbers n ↔ ((n < length places) × (squared_at places center n ≤ radius * radius))
  pub ordered : AllPairs (StandsBefore places center) numbers

-- the test of `StandsBefore`, by the squared distances
abbrev pub stands_before : (ℕ → ℕ) → ℕ → ℕ → Bool
stands_before distance n m = nat_lt (distance n) (distance m) || ((distance n == distance m) && nat_lt n m)

-- n before m and the others, or m before those that n was put among
abbrev pub placed : Bool → ℕ → ℕ → List ℕ → List ℕ → List ℕ
placed true n m others among = n ∷ m ∷ others
placed false n m others among = m ∷ among

-- a number put among others before the first that it stands before
abbrev pub inserted : (ℕ → ℕ) → ℕ → List ℕ → List ℕ
inserted distance n [] = n ∷ []
inserted distance n (m ∷ ms) = placed (stands_before distance n m) n m ms (inserted distance n ms)

-- numbers put in order one by one
abbrev pub ordered_by : (ℕ → ℕ) → List ℕ → List ℕ
ordered_by distance [] = []
ordered_by distance (n ∷ ns) = inserted distance n (ordered_by distance ns)

-- the numbers of the points within the radius, as they come
abbrev pub numbers_within : List Vec3 → Vec3 → ℕ → List ℕ
numbers_within places center radius = filter (λ n. nat_le (squared_at places center n) (radius * radius)) (range_with_len 0 (length places))

-- the scan
abbrev pub plain_scan : List Vec3 → Vec3 → ℕ → List ℕ
plain_scan places center radius = ordered_by (squared_at places center) (numbers_within places center radius)
