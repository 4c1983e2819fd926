-- Places by the numbers of their points, and the squares of their distances.
use Rattle.std.specs.Prelude.{ℕ, ◌+◌, List, slice_index_or, ◌-ℤ◌}
use Rattle.sop_fixed.specs.Roots.{square}
use Rattle.sop_fixed.specs.declared.vec3.Vec3.{Vec3}
use Rattle.sop_model.specs.Values.{zero_vector}

-- the place of the point of this number
abbrev pub place_at : List Vec3 → ℕ → Vec3
place_at places n = slice_index_or places n zero_vector

-- the square of the distance of two places, exactly, in millionths of millionths
abbrev pub squared : Vec3 → Vec3 → ℕ
squared a b = square (a.x -ℤ b.x) + square (a.y -ℤ b.y) + square (a.z -ℤ b.z)

-- that of a point from the center
abbrev pub squared_at : List Vec3 → Vec3 → ℕ → ℕ
squared_at places center n = squared (place_at places n) center
