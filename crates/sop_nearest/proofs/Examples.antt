-- Worked examples: squared distances, and what the plain scan finds, by computation.
use Rattle.std.specs.Prelude.{◌≡◌, refl, ℤ, pos, negsuc, List, [], ◌∷◌}
use Rattle.sop_fixed.specs.declared.vec3.Vec3.{Vec3}
use Rattle.sop_nearest.specs.Places.{squared}
use Rattle.sop_nearest.specs.PlainScan.{plain_scan}
use Rattle.sop_nearest.specs.Cells.{cell_of}

at : ℤ → ℤ → ℤ → Vec3
at x y z = record { x = x; y = y; z = z }

-- 3 and 4 of the unit, on both sides of zero
squared_of_5 : squared (record { x = pos 2000000; y = negsuc 2999999; z = pos 0 }) (record { x = negsuc 999999; y = pos 1000000; z = pos 0 }) ≡ 25000000000000
squared_of_5 = refl

-- the corners of the range are the farthest from each other
squared_of_corners : squared (record { x = pos 1000000000000000; y = pos 1000000000000000; z = pos 1000000000000000 }) (record { x = negsuc 999999999999999; y = negsuc 999999999999999; z = negsuc 999999999999999 }) ≡ 12000000000000000000000000000000
squared_of_corners = refl

along_x : List ℤ → List Vec3
unfolding at
along_x [] = []
along_x (x ∷ xs) = at x (pos 0) (pos 0) ∷ along_x xs

-- points at 0, 1 and 0.5 along x, within 0.5 of zero: the end counts
ends_count : plain_scan (along_x (pos 0 ∷ pos 1000000 ∷ pos 500000 ∷ [])) (at (pos 0) (pos 0) (pos 0)) 500000 ≡ 0 ∷ 2 ∷ []
unfolding at along_x
ends_count = refl

-- a millionth less leaves it out
end_just_missed : plain_scan (along_x (pos 0 ∷ pos 1000000 ∷ pos 500000 ∷ [])) (at (pos 0) (pos 0) (pos 0)) 499999 ≡ 0 ∷ []
unfolding at along_x
end_just_missed = refl

-- by distance, whatever the numbers; equal distances on either side by number
by_distance : plain_scan (along_x (pos 3 ∷ pos 1 ∷ negsuc 0 ∷ pos 0 ∷ negsuc 2 ∷ [])) (at (pos 0) (pos 0) (pos 0)) 3 ≡ 3 ∷ 1 ∷ 2 ∷ 0 ∷ 4 ∷ []
unfolding at along_x
by_distance = refl

-- radius 0 finds the points in the very place
in_one_place : plain_scan (along_x (pos 7 ∷ pos 7 ∷ pos 8 ∷ pos 7 ∷ [])) (at (pos 7) (pos 0) (pos 0)) 0 ≡ 0 ∷ 1 ∷ 3 ∷ []
unfolding at along_x
in_one_place = refl

-- the greatest radius reaches the ends of an axis from zero, and no corner of the range
greatest_radius : plain_scan (at (pos 1000000000000000) (pos 0) (pos 0) ∷ at (pos 1000000000000000) (pos 1) (pos 0) ∷ at (pos 0) (negsuc 999999999999999) (pos 0) ∷ []) (at (pos 0) (pos 0) (pos 0)) 1000000000000000 ≡ 0 ∷ 2 ∷ []
unfolding at
greatest_radius = refl

no_points : plain_scan [] (at (pos 0) (pos 0) (pos 0)) 1000000000000000 ≡ []
no_points = refl

-- cells are counted from the least coordinate, so those on either side of zero are as wide as all others
cells_at_zero : cell_of 1000000 (record { x = negsuc 0; y = pos 0; z = pos 999999 }) ≡ record { x = 999999999; y = 1000000000; z = 1000000000 }
cells_at_zero = refl
