-- A small geometry for tests.
use Rattle.std.specs.Prelude.{true, [], ◌∷◌, codes}
use Rattle.sop_fixed.specs.declared.vec3.Vec3.{Vec3}
use Rattle.sop_model.specs.declared.geo.Geo.{Geo}
use Rattle.sop_model.specs.declared.geo.Row.{Row}
use Rattle.sop_model.specs.declared.geo.HeadSet.{HeadSet}
use Rattle.sop_model.specs.declared.geo.Corner.{Corner}
use Rattle.sop_model.specs.declared.geo.Primitive.{Primitive}
use Rattle.sop_model.specs.declared.value.Value.TheVariants as value
use Rattle.sop_model.specs.Geometry.{empty_row, no_heads, position_head}

-- the point attribute `P` and the group `g`
abbrev pub grouped_set : HeadSet
grouped_set = record { heads = position_head ∷ []; groups = codes "g" ∷ [] }

abbrev pub member_row : Vec3 → Row
member_row place = record { values = value.Vector place ∷ []; flags = true ∷ [] }

abbrev pub first_corner : Corner
first_corner = record { point = 0; row = empty_row }

abbrev pub one_vertex : Primitive
one_vertex = record { closed = true; row = empty_row; corners = first_corner ∷ [] }

-- a point in the group `g`, and a closed primitive of one vertex
abbrev pub grouped_point : Vec3 → Geo
grouped_point place = record {
  detail = no_heads;
  prim = no_heads;
  point = grouped_set;
  vertex = no_heads;
  points = member_row place ∷ [];
  prims = one_vertex ∷ [];
  detail_row = empty_row;
}
