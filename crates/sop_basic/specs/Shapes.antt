-- Points and primitives with no attribute but `P`.
use Rattle.std.specs.Prelude.{ℕ, Bool, true, List, map}
use Rattle.std.specs.List.{range_with_len}
use Rattle.sop_fixed.specs.declared.vec3.Vec3.{Vec3}
use Rattle.sop_model.specs.declared.geo.Geo.{Geo}
use Rattle.sop_model.specs.declared.geo.Corner.{Corner}
use Rattle.sop_model.specs.declared.geo.Primitive.{Primitive}
use Rattle.sop_model.specs.Geometry.{empty_row}
use Rattle.sop_model.specs.Plain.{plain_geo, point_row}

abbrev pub corner_on : ℕ → Corner
corner_on point = record { point = point; row = empty_row }

-- a primitive with a vertex on each of these points in turn
abbrev pub prim_through : Bool → List ℕ → Primitive
prim_through closed points = record { closed = closed; row = empty_row; corners = map corner_on points }

-- points at these places, and primitives
abbrev pub shape : List Vec3 → List Primitive → Geo
shape places prims = plain_geo (map point_row places) prims

-- closed primitives, so many, through the points that are told of each
abbrev pub closed_prims : (ℕ → List ℕ) → ℕ → List Primitive
closed_prims corners count = map (λ i. prim_through true (corners i)) (range_with_len 0 count)
