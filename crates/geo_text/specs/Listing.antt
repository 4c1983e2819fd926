-- The listing of a geometry: a text with all that it has. Each line ends with LF.
--
-- The numbers of points, vertices and primitives come first, each on a line behind its word. Then comes a line for each primitive: its number,
-- whether it is closed or open, and the point of each of its vertices. Then come the attributes of the detail, the primitives, the points and
-- the vertices, in this order of classes: a line with class, kind and name, then a line with the value of each element. Then come the groups
-- of the primitives, the points and the vertices, each a line with class and name, and the number of each member.
use Rattle.std.specs.Prelude.{ℕ, Bool, false, if◌then◌else◌, List, [], ◌++◌, length, map, flat_map, slice_index_or, codes, decimal}
use Rattle.std.specs.List.{enumerate_from}
use Rattle.sop_model.specs.declared.class.Class.{Class}
use Rattle.sop_model.specs.declared.class.Class.TheVariants.{Detail, Prim, Point, Vertex}
use Rattle.sop_model.specs.declared.geo.Geo.{Geo}
use Rattle.sop_model.specs.declared.geo.Head.{Head}
use Rattle.sop_model.specs.declared.geo.Corner.{Corner}
use Rattle.sop_model.specs.declared.geo.Primitive.{Primitive}
use Rattle.sop_model.specs.declared.value.Kind.{Kind}
use Rattle.sop_model.specs.declared.value.Kind.TheVariants as kind
use Rattle.sop_model.specs.declared.value.Value.{Value}
use Rattle.sop_model.specs.Vertices.{corners_of}
use Rattle.sop_model.specs.Geometry.{heads_of, rows_of}
use Rattle.sop_model.specs.Rows.{column_of}
use Rattle.geo_text.specs.ValueTexts.{value_text}

abbrev pub class_word : Class → List ℕ
class_word Detail = codes "detail"
class_word Prim = codes "prim"
class_word Point = codes "point"
class_word Vertex = codes "vertex"

abbrev pub kind_word : Kind → List ℕ
kind_word kind.Int = codes "int"
kind_word kind.Real = codes "float"
kind_word kind.Vector = codes "vector"
kind_word kind.Str = codes "string"
kind_word kind.Ints = codes "int[]"
kind_word kind.Reals = codes "float[]"
kind_word kind.Vectors = codes "vector[]"
kind_word kind.Strs = codes "string[]"

-- the text of each item of a list behind its number, from 0
abbrev pub each_numbered : {A : Type 0} → (ℕ → A → List ℕ) → List A → List ℕ
each_numbered text items = flat_map (λ n. text n.0 n.1) (enumerate_from 0 items)

-- a number behind a blank
abbrev pub blank_number : ℕ → List ℕ
blank_number n = codes " " ++ decimal n

-- COUNTS

abbrev pub count_line : List ℕ → ℕ → List ℕ
count_line word count = word ++ blank_number count ++ codes "\n"

-- the first three lines
abbrev pub counts_text : Geo → List ℕ
counts_text g = count_line (codes "points") (length g.points) ++ count_line (codes "vertices") (length (corners_of g.prims)) ++ count_line (codes "prims") (length g.prims)

-- PRIMITIVES

abbrev pub corner_text : Corner → List ℕ
corner_text c = blank_number c.point

abbrev pub closed_word : Bool → List ℕ
closed_word closed = if closed then codes " closed" else codes " open"

abbrev pub prim_line : ℕ → Primitive → List ℕ
prim_line i p = codes "prim" ++ blank_number i ++ closed_word p.closed ++ flat_map corner_text p.corners ++ codes "\n"

abbrev pub prims_text : Geo → List ℕ
prims_text g = each_numbered prim_line g.prims

-- ATTRIBUTES

abbrev pub attr_line : Class → Head → List ℕ
attr_line class h = codes "attr " ++ class_word class ++ codes " " ++ kind_word h.kind ++ codes " " ++ h.name ++ codes "\n"

abbrev pub value_line : Value → List ℕ
value_line v = value_text v ++ codes "\n"

-- an attribute of this number: its line, and the value of each element
abbrev pub attr_text : Geo → Class → ℕ → Head → List ℕ
attr_text g class i h = attr_line class h ++ flat_map value_line (column_of g class i)

abbrev pub attrs_text : Geo → Class → List ℕ
attrs_text g class = each_numbered (attr_text g class) (heads_of g class).heads

-- GROUPS

-- whether each element is a member of a group, in order
abbrev pub flags_of : Geo → Class → ℕ → List Bool
flags_of g class group = map (λ row. slice_index_or row.flags group false) (rows_of g class)

abbrev pub member_text : ℕ → Bool → List ℕ
member_text i on = if on then blank_number i else []

-- a group of this number
abbrev pub group_line : Geo → Class → ℕ → List ℕ → List ℕ
group_line g class i name = codes "group " ++ class_word class ++ codes " " ++ name ++ each_numbered member_text (flags_of g class i) ++ codes "\n"

abbrev pub groups_text : Geo → Class → List ℕ
groups_text g class = each_numbered (group_line g class) (heads_of g class).groups

-- THE WHOLE

abbrev pub list_text : Geo → List ℕ
list_text g =
    counts_text g
    ++ prims_text g
    ++ attrs_text g Detail ++ attrs_text g Prim ++ attrs_text g Point ++ attrs_text g Vertex
    ++ groups_text g Prim ++ groups_text g Point ++ groups_text g Vertex
