-- The OBJ text of a geometry.
--
-- First a line `v x y z` for each point, with its colour ` r g b` where points have a vector `Cd`. Then a line `vt x y z` for each vertex,
-- where vertices have a vector `uv`, and a line `vn x y z` for each, where they have a vector `N`. Then the primitives: `f` for a closed one
-- and `l` for an open one, with a reference for each vertex. A reference is the number of a point from 1, and the number of the vertex from 1
-- as its texture coordinate and its normal, where there are such lines; an `l` names no normal. Before a primitive whose groups differ from
-- those of the one before, none before the first, stands `g` with their names in order. Each line ends with LF.
use Rattle.std.specs.Prelude.{ℕ, ◌+◌, Bool, true, false, not, if◌then◌else◌, ◌&&◌, List, [], ◌∷◌, ◌++◌, map, position, slice_get, Option, None, Some, is_some, codes, decimal}
use Rattle.std.specs.List.{flat_map, items_where_true}
use Rattle.std.specs.Option.{option_and_then}
use Rattle.std.specs.Str.{bytes_eq}
use Rattle.sop_fixed.specs.Numerals.{decimal_of}
use Rattle.sop_fixed.specs.declared.vec3.Vec3.{Vec3}
use Rattle.sop_model.specs.declared.class.Class.TheVariants.{Vertex}
use Rattle.sop_model.specs.declared.geo.Geo.{Geo}
use Rattle.sop_model.specs.declared.geo.Row.{Row}
use Rattle.sop_model.specs.declared.geo.Head.{Head}
use Rattle.sop_model.specs.declared.geo.HeadSet.{HeadSet}
use Rattle.sop_model.specs.declared.geo.Corner.{Corner}
use Rattle.sop_model.specs.declared.geo.Primitive.{Primitive}
use Rattle.sop_model.specs.declared.value.Kind.{Kind}
use Rattle.sop_model.specs.declared.value.Kind.TheVariants as kind
use Rattle.sop_model.specs.Vertices.{size_of}
use Rattle.geo_text.specs.declared.obj_writer.Parts.{Parts}
use Rattle.sop_model.specs.Places.{vector_in, place_of}
use Rattle.sop_model.specs.Geometry.{rows_of}

-- the number of the head of a name, where its kind is vector
abbrev pub is_vector : Kind → Bool
is_vector kind.Vector = true
is_vector other = false

abbrev pub if_vector : ℕ → Option Head → Option ℕ
if_vector i (Some h) = if is_vector h.kind then Some i else None
if_vector i None = None

abbrev pub vector_head : HeadSet → List ℕ → Option ℕ
vector_head set name = option_and_then (λ i. if_vector i (slice_get set.heads i)) (position (λ h. bytes_eq h.name name) set.heads)

-- the value of a vector's head
abbrev pub vector_under : ℕ → Row → Vec3
vector_under head row = vector_in (slice_get row.values head)

abbrev pub spaced_vector : Vec3 → List ℕ
spaced_vector v = codes " " ++ decimal_of v.x ++ codes " " ++ decimal_of v.y ++ codes " " ++ decimal_of v.z

abbrev pub colour_text : Option ℕ → Row → List ℕ
colour_text None row = []
colour_text (Some head) row = spaced_vector (vector_under head row)

abbrev pub point_line : Option ℕ → Row → List ℕ
point_line colour row = codes "v" ++ spaced_vector (place_of row) ++ colour_text colour row ++ codes "\n"

-- a line for each row, where there is the attribute
abbrev pub vector_lines : List ℕ → Option ℕ → List Row → List ℕ
vector_lines key None rows = []
vector_lines key (Some head) rows = flat_map (λ row. key ++ spaced_vector (vector_under head row) ++ codes "\n") rows

abbrev pub points_text : Geo → List ℕ
points_text g = flat_map (point_line (vector_head g.point (codes "Cd"))) g.points

abbrev pub textures_text : Geo → List ℕ
textures_text g = vector_lines (codes "vt") (vector_head g.vertex (codes "uv")) (rows_of g Vertex)

abbrev pub normals_text : Geo → List ℕ
normals_text g = vector_lines (codes "vn") (vector_head g.vertex (codes "N")) (rows_of g Vertex)

-- the parts of vertex k, from 1
abbrev pub parts_text : Parts → ℕ → List ℕ
parts_text parts k =
    if parts.texture
    then (if parts.normal then codes "/" ++ decimal k ++ codes "/" ++ decimal k else codes "/" ++ decimal k)
    else (if parts.normal then codes "//" ++ decimal k else [])

-- the references of vertices, where so many stand before them
abbrev pub references_text : Parts → ℕ → List Corner → List ℕ
references_text parts before [] = []
references_text parts before (c ∷ corners) =
    codes " " ++ decimal (c.point + 1) ++ parts_text parts (before + 1) ++ references_text parts (before + 1) corners

abbrev pub closed_parts : Geo → Parts
closed_parts g = record { texture = is_some (vector_head g.vertex (codes "uv")); normal = is_some (vector_head g.vertex (codes "N")) }

abbrev pub parts_of : Geo → Primitive → Parts
parts_of g p = record (closed_parts g) { normal = (closed_parts g).normal && p.closed }

abbrev pub shape_line : Geo → ℕ → Primitive → List ℕ
shape_line g before p = (if p.closed then codes "f" else codes "l") ++ references_text (parts_of g p) before p.corners ++ codes "\n"

-- the names of the groups that a primitive is in, in order
abbrev pub groups_of : Geo → Primitive → List (List ℕ)
groups_of g p = items_where_true p.row.flags g.prim.groups

abbrev pub groups_line : List (List ℕ) → List ℕ
groups_line names = codes "g" ++ flat_map (λ name. codes " " ++ name) names ++ codes "\n"

-- whether two primitives are in the same groups
abbrev pub same_flag : Bool → Bool → Bool
same_flag true b = b
same_flag false b = not b

abbrev pub same_flags : List Bool → List Bool → Bool
same_flags [] [] = true
same_flags (a ∷ flags) (b ∷ others) = same_flag a b && same_flags flags others
same_flags _ _ = false

-- a line for the groups of a primitive, where they differ from those before it
abbrev pub change_of_groups : Geo → List Bool → Primitive → List ℕ
change_of_groups g before p = if same_flags before p.row.flags then [] else groups_line (groups_of g p)

-- primitives, where so many vertices stand before them, and the one before is in the groups with these flags
abbrev pub shapes_text : Geo → ℕ → List Bool → List Primitive → List ℕ
shapes_text g before flags [] = []
shapes_text g before flags (p ∷ prims) = change_of_groups g flags p ++ shape_line g before p ++ shapes_text g (before + size_of p) p.row.flags prims

-- a primitive before the first would be in none
abbrev pub no_flags : Geo → List Bool
no_flags g = map (λ group. false) g.prim.groups

abbrev pub text_of : Geo → List ℕ
text_of g = points_text g ++ textures_text g ++ normals_text g ++ shapes_text g 0 (no_flags g) g.prims
