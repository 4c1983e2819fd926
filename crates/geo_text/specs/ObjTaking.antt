-- What a geometry is that was taken point by point and primitive by primitive.
--
-- It begins with its attributes and no element. A point, a primitive and a group come behind those that are there. A group that comes has no
-- member, and a primitive that comes has a flag for each group that is there.
use Rattle.std.specs.Prelude.{ℕ, Bool, true, false, List, [], ◌∷◌, ◌++◌, map, Option, unwrap_or, codes}
use Rattle.sop_fixed.specs.declared.vec3.Vec3.{Vec3}
use Rattle.sop_model.specs.declared.class.Class.TheVariants.{Prim}
use Rattle.sop_model.specs.declared.geo.Geo.{Geo}
use Rattle.sop_model.specs.declared.geo.Row.{Row}
use Rattle.sop_model.specs.declared.geo.Head.{Head}
use Rattle.sop_model.specs.declared.geo.Corner.{Corner}
use Rattle.sop_model.specs.declared.geo.Primitive.{Primitive}
use Rattle.sop_model.specs.declared.value.Kind.TheVariants as kind
use Rattle.sop_model.specs.declared.value.Value.{Value}
use Rattle.sop_model.specs.declared.value.Value.TheVariants as value
use Rattle.sop_model.specs.Values.{zero_vector}
use Rattle.sop_model.specs.Geometry.{empty_geo, position_head}
use Rattle.sop_model.specs.Rows.{group_added, with_last_flag}
use Rattle.geo_text.specs.declared.taker.Attributes.{Attributes}
use Rattle.geo_text.specs.declared.taker.Vertex.{Vertex}

abbrev pub head_if : Bool → List ℕ → List Head
head_if true name = record { name = name; kind = kind.Vector } ∷ []
head_if false name = []

abbrev pub value_if : Bool → Vec3 → List Value
value_if true v = value.Vector v ∷ []
value_if false v = []

-- no element yet: points have `P`, and `Cd` where there are colours; vertices `uv` and `N`, where there are such parts
abbrev pub begun : Attributes → Geo
begun has = record empty_geo {
  point = record { heads = position_head ∷ head_if has.colour (codes "Cd"); groups = [] };
  vertex = record { heads = head_if has.texture (codes "uv") ++ head_if has.normal (codes "N"); groups = [] };
}

-- a point without a colour has zero
abbrev pub point_row : Attributes → Vec3 → Option Vec3 → Row
point_row has at colour = record { values = value.Vector at ∷ value_if has.colour (unwrap_or colour zero_vector); flags = [] }

abbrev pub point_taken : Attributes → Vec3 → Option Vec3 → Geo → Geo
point_taken has at colour g = record g { points = g.points ++ point_row has at colour ∷ [] }

abbrev pub vertex_row : Attributes → Vertex → Row
vertex_row has v = record { values = value_if has.texture v.texture ++ value_if has.normal v.normal; flags = [] }

abbrev pub vertex_taken : Attributes → Vertex → Corner
vertex_taken has v = record { point = v.point; row = vertex_row has v }

abbrev pub prim_from : Attributes → Bool → List Vertex → List Bool → Primitive
prim_from has closed vertices flags = record { closed = closed; row = record { values = []; flags = flags }; corners = map (vertex_taken has) vertices }

abbrev pub prim_taken : Attributes → Bool → List Vertex → List Bool → Geo → Geo
prim_taken has closed vertices flags g = record g { prims = g.prims ++ prim_from has closed vertices flags ∷ [] }

abbrev pub group_taken : List ℕ → Geo → Geo
group_taken name g = group_added g Prim name

-- the geometry of these attributes, points, groups of primitives and primitives
abbrev pub made_of : Attributes → List Row → List (List ℕ) → List Primitive → Geo
made_of has points groups prims = record (begun has) { prim = record { heads = []; groups = groups }; points = points; prims = prims }

-- a primitive that isn't in a further group
abbrev pub flag_more : Primitive → Primitive
flag_more p = record p { row = with_last_flag false p.row }
