-- What the OBJ text of a geometry carries.
--
-- These are the places of the points; their `Cd`, where it is a vector and there is a point; the primitives with their points, closed or
-- open; the `uv` of the vertices, where it is a vector and there is a vertex; their `N`, where it is a vector and there is a closed primitive,
-- and zero on the vertices of open ones; and the groups of primitives that have a member, in order of first use by a primitive.
use Rattle.std.specs.Prelude.{ℕ, Bool, true, false, if◌then◌else◌, List, [], ◌∷◌, ◌++◌, map, Option, None, Some, is_some, codes}
use Rattle.std.specs.List.{list_any, flat_map}
use Rattle.sop_model.specs.declared.geo.Geo.{Geo}
use Rattle.sop_model.specs.declared.geo.Row.{Row}
use Rattle.sop_model.specs.declared.geo.Corner.{Corner}
use Rattle.sop_model.specs.declared.geo.Primitive.{Primitive}
use Rattle.sop_model.specs.declared.value.Value.{Value}
use Rattle.sop_model.specs.declared.value.Value.TheVariants as value
use Rattle.sop_model.specs.Values.{zero_vector}
use Rattle.sop_model.specs.Places.{place_of}
use Rattle.sop_model.specs.Vertices.{corners_of}
use Rattle.sop_model.specs.Geometry.{empty_row, no_heads, position_head}
use Rattle.sop_model.specs.Merge.{first_names}
use Rattle.geo_text.specs.ObjLines.{is_filled}
use Rattle.geo_text.specs.ObjTaking.{head_if}
use Rattle.geo_text.specs.ObjMeaning.{is_among}
use Rattle.geo_text.specs.ObjText.{vector_head, vector_under, groups_of}

-- the head of a name, where its kind is vector and some element carries it
abbrev pub head_where : Bool → Option ℕ → Option ℕ
head_where true head = head
head_where false head = None

abbrev pub colour_carried : Geo → Option ℕ
colour_carried g = head_where (is_filled g.points) (vector_head g.point (codes "Cd"))

abbrev pub texture_carried : Geo → Option ℕ
texture_carried g = head_where (is_filled (corners_of g.prims)) (vector_head g.vertex (codes "uv"))

abbrev pub normal_carried : Geo → Option ℕ
normal_carried g = head_where (list_any (λ p. p.closed) g.prims) (vector_head g.vertex (codes "N"))

-- the value of a row where there is the head
abbrev pub value_where : Option ℕ → Row → List Value
value_where None row = []
value_where (Some head) row = value.Vector (vector_under head row) ∷ []

abbrev pub normal_where : Option ℕ → (closed : Bool) → Row → List Value
normal_where None closed row = []
normal_where (Some head) closed row = value.Vector (if closed then vector_under head row else zero_vector) ∷ []

abbrev pub carried_point : Geo → Row → Row
carried_point g row = record { values = value.Vector (place_of row) ∷ value_where (colour_carried g) row; flags = [] }

abbrev pub carried_corner : Geo → (closed : Bool) → Corner → Corner
carried_corner g closed c = record { point = c.point; row = record { values = value_where (texture_carried g) c.row ++ normal_where (normal_carried g) closed c.row; flags = [] } }

-- the groups that some primitive is in
abbrev pub used_groups : Geo → List (List ℕ)
used_groups g = first_names (flat_map (groups_of g) g.prims)

abbrev pub carried_prim : Geo → Primitive → Primitive
carried_prim g p = record {
  closed = p.closed;
  row = record { values = []; flags = map (is_among (groups_of g p)) (used_groups g) };
  corners = map (carried_corner g p.closed) p.corners;
}

abbrev pub carried : Geo → Geo
carried g = record {
  detail = no_heads;
  prim = record { heads = []; groups = used_groups g };
  point = record { heads = position_head ∷ head_if (is_some (colour_carried g)) (codes "Cd"); groups = [] };
  vertex = record { heads = head_if (is_some (texture_carried g)) (codes "uv") ++ head_if (is_some (normal_carried g)) (codes "N"); groups = [] };
  points = map (carried_point g) g.points;
  prims = map (carried_prim g) g.prims;
  detail_row = empty_row;
}
