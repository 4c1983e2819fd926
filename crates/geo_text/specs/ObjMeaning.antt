-- What an OBJ text means: a geometry, or the reason why it is refused.
--
-- Points, texture coordinates and normals are numbered in the order of their lines, each kind by itself. In a reference a number without a
-- minus counts from 1 over the whole text, and one with a minus back from the last element before its line. More elements than a geometry
-- may have are refused first. Then the first line is told that is refused, in it by the first word, and in a word by the first part.
--
-- Points are the `v` lines in order. Their attribute `Cd` is there where some line has a colour, and zero on the others. Primitives are the
-- `f` and `l` lines with a reference in order. The attributes `uv` and `N` of the vertices are there where some reference of these lines has
-- that part, and zero on the others. The groups of primitives are the first 256 different names in order of first use by a primitive.
use Rattle.std.specs.Prelude.{ℕ, ◌+◌, ◌-◌, Bool, true, false, if◌then◌else◌, ◌&&◌, ◌||◌, nat_le, nat_lt, List, [], ◌∷◌, length, map, take, filter_map, sum_by, slice_get, Option, None, Some, unwrap_or, is_some, Result, Ok, Err}
use Rattle.std.specs.List.{list_any, flat_map}
use Rattle.std.specs.Option.{option_and_then}
use Rattle.std.specs.Str.{bytes_eq}
use Rattle.sop_fixed.specs.declared.vec3.Vec3.{Vec3}
use Rattle.sop_model.specs.declared.geo.Geo.{Geo}
use Rattle.sop_model.specs.declared.geo.Primitive.{Primitive}
use Rattle.sop_model.specs.Limits.{most_points, most_prims, most_vertices, most_groups}
use Rattle.sop_model.specs.Values.{zero_vector}
use Rattle.sop_model.specs.Merge.{first_names}
use Rattle.geo_text.specs.declared.reference.Counts.{Counts}
use Rattle.geo_text.specs.declared.reference.Named.{Named}
use Rattle.geo_text.specs.ObjLines.{Line, lines_of}
use Rattle.geo_text.specs.declared.taker.Attributes.{Attributes}
use Rattle.geo_text.specs.declared.taker.Vertex.{Vertex}
use Rattle.geo_text.specs.ObjTaking.{begun, point_row, prim_from}
use Rattle.geo_text.specs.ObjStatements.{Part, Absent, Ahead, Back, Wrong, Reference, Place, Statement, Point, Texture, Normal, Shape, Checked, Groups, Nothing, statement_of}

-- Why a text gives no geometry: the number of a line, from 1, where a word isn't the number that is wanted, or where a reference names no
-- element; or more elements than a geometry may have.
pub data Refusal : Type 0 where
  Number : ℕ → Refusal
  Index : ℕ → Refusal
  Limit : Refusal

-- a statement with the number of its line
pub record Said : Type 0 where
  pub line : ℕ
  pub statement : Statement

abbrev pub said_by : Line → Said
said_by line = record { line = line.number; statement = statement_of line.words }

-- COUNTS

abbrev pub no_counts : Counts
no_counts = record { points = 0; textures = 0; normals = 0 }

-- the counts with the line of a statement
abbrev pub counted_in : Statement → Counts → Counts
counted_in (Point place) n = record n { points = n.points + 1 }
counted_in (Texture at) n = record n { textures = n.textures + 1 }
counted_in (Normal at) n = record n { normals = n.normals + 1 }
counted_in other n = n

abbrev pub counts_of : List Said → Counts
counts_of [] = no_counts
counts_of (s ∷ said) = counted_in s.statement (counts_of said)

-- the references of a line that makes a primitive
abbrev pub references_of : Statement → List Reference
references_of (Shape closed references) = references
references_of other = []

abbrev pub is_shape : Statement → ℕ
is_shape (Shape closed references) = 1
is_shape other = 0

-- whether there are more points, vertices or primitives than a geometry may have
abbrev pub passes_limits : List Said → Bool
passes_limits said =
    nat_lt most_points (counts_of said).points
    || nat_lt most_vertices (sum_by (λ s. length (references_of s.statement)) said)
    || nat_lt most_prims (sum_by (λ s. is_shape s.statement) said)

-- REFERENCES

abbrev pub within : Bool → ℕ → Option ℕ
within true element = Some element
within false element = None

-- the element that a part names, where there are `whole` in the text, and `so_far` before its line
abbrev pub element_of : ℕ → ℕ → Part → Option ℕ
element_of whole so_far (Ahead number) = within (nat_lt 0 number && nat_le number whole) (number - 1)
element_of whole so_far (Back number) = within (nat_lt 0 number && nat_le number so_far) (so_far - number)
element_of whole so_far other = None

abbrev pub named_or_index : ℕ → Option ℕ → Result ℕ Refusal
named_or_index line (Some element) = Ok element
named_or_index line None = Err (Index line)

abbrev pub map_ok : {A B : Type 0} → (A → B) → Result A Refusal → Result B Refusal
map_ok f (Ok x) = Ok (f x)
map_ok f (Err e) = Err e

abbrev pub and_then : {A B : Type 0} → Result A Refusal → (A → Result B Refusal) → Result B Refusal
and_then (Ok x) f = f x
and_then (Err e) f = Err e

-- a part that must be there
abbrev pub needed : ℕ → ℕ → ℕ → Part → Result ℕ Refusal
needed line whole so_far Absent = Err (Number line)
needed line whole so_far Wrong = Err (Number line)
needed line whole so_far part = named_or_index line (element_of whole so_far part)

abbrev pub optional : ℕ → ℕ → ℕ → Part → Result (Option ℕ) Refusal
optional line whole so_far Absent = Ok None
optional line whole so_far part = map_ok Some (needed line whole so_far part)

-- behind the three parts nothing may stand
abbrev pub at_end : ℕ → Bool → Named → Result Named Refusal
at_end line true named = Err (Number line)
at_end line false named = Ok named

abbrev pub named_by : ℕ → Counts → Counts → Reference → Result Named Refusal
named_by line whole so_far r =
    and_then (needed line whole.points so_far.points r.point)
    (λ point. and_then (optional line whole.textures so_far.textures r.texture)
    (λ texture. and_then (optional line whole.normals so_far.normals r.normal)
    (λ normal. at_end line r.is_long (record { point = point; texture = texture; normal = normal }))))

-- what each of some items gives, or the first refusal
abbrev pub put_first : {A : Type 0} → Result A Refusal → Result (List A) Refusal → Result (List A) Refusal
put_first (Err e) rest = Err e
put_first (Ok x) rest = map_ok (λ xs. x ∷ xs) rest

abbrev pub each_of : {A B : Type 0} → (A → Result B Refusal) → List A → Result (List B) Refusal
each_of f [] = Ok []
each_of f (x ∷ xs) = put_first (f x) (each_of f xs)

-- PIECES

-- what a line that isn't refused adds to the geometry
pub data Piece : Type 0 where
  PointPiece : Place → Piece
  TexturePiece : Vec3 → Piece
  NormalPiece : Vec3 → Piece
  ShapePiece : (closed : Bool) → List Named → Piece
  GroupsPiece : List (List ℕ) → Piece
  NoPiece : Piece

abbrev pub or_number : {A : Type 0} → ℕ → (A → Piece) → Option A → Result Piece Refusal
or_number line piece (Some x) = Ok (piece x)
or_number line piece None = Err (Number line)

abbrev pub piece_of : ℕ → Counts → Counts → Statement → Result Piece Refusal
piece_of line whole so_far (Point place) = or_number line PointPiece place
piece_of line whole so_far (Texture at) = or_number line TexturePiece at
piece_of line whole so_far (Normal at) = or_number line NormalPiece at
piece_of line whole so_far (Shape closed references) = map_ok (ShapePiece closed) (each_of (named_by line whole so_far) references)
piece_of line whole so_far (Checked references) = map_ok (λ all. NoPiece) (each_of (named_by line whole so_far) references)
piece_of line whole so_far (Groups names) = Ok (GroupsPiece names)
piece_of line whole so_far Nothing = Ok NoPiece

-- the pieces of some lines, or the first refusal, where so many elements stand before them
abbrev pub pieces_of : Counts → Counts → List Said → Result (List Piece) Refusal
pieces_of whole so_far [] = Ok []
pieces_of whole so_far (s ∷ said) = put_first (piece_of s.line whole so_far s.statement) (pieces_of whole (counted_in s.statement so_far) said)

-- THE GEOMETRY

abbrev pub place_of : Piece → Option Place
place_of (PointPiece place) = Some place
place_of other = None

abbrev pub texture_of : Piece → Option Vec3
texture_of (TexturePiece at) = Some at
texture_of other = None

abbrev pub normal_of : Piece → Option Vec3
normal_of (NormalPiece at) = Some at
normal_of other = None

-- a primitive with the names of its groups
pub record Shaped : Type 0 where
  pub closed : Bool
  pub corners : List Named
  pub groups : List (List ℕ)

-- the primitives of some pieces, where these groups hold before them
abbrev pub shapes_under : List (List ℕ) → List Piece → List Shaped
shapes_under groups [] = []
shapes_under groups (ShapePiece closed corners ∷ pieces) = record { closed = closed; corners = corners; groups = groups } ∷ shapes_under groups pieces
shapes_under groups (GroupsPiece names ∷ pieces) = shapes_under names pieces
shapes_under groups (other ∷ pieces) = shapes_under groups pieces

-- the different names, in order of first use, as many as a class may have groups
abbrev pub group_names : List Shaped → List (List ℕ)
group_names shapes = take most_groups (first_names (flat_map (λ s. s.groups) shapes))

abbrev pub is_among : List (List ℕ) → List ℕ → Bool
is_among names name = list_any (bytes_eq name) names

-- which attributes there are beside `P`
abbrev pub attributes_of : List Place → List Shaped → Attributes
attributes_of places shapes = record {
  colour = list_any (λ p. is_some p.colour) places;
  texture = list_any (λ s. list_any (λ c. is_some c.texture) s.corners) shapes;
  normal = list_any (λ s. list_any (λ c. is_some c.normal) s.corners) shapes;
}

abbrev pub vector_at : List Vec3 → Option ℕ → Vec3
vector_at vectors element = unwrap_or (option_and_then (slice_get vectors) element) zero_vector

-- the vertex that a reference means
abbrev pub vertex_of : List Vec3 → List Vec3 → Named → Vertex
vertex_of textures normals named = record { point = named.point; texture = vector_at textures named.texture; normal = vector_at normals named.normal }

abbrev pub prim_of : Attributes → List Vec3 → List Vec3 → List (List ℕ) → Shaped → Primitive
prim_of has textures normals names s = prim_from has s.closed (map (vertex_of textures normals) s.corners) (map (is_among s.groups) names)

abbrev pub geo_from : List Vec3 → List Vec3 → List Place → List Shaped → Geo
geo_from textures normals places shapes =
    let has = attributes_of places shapes in
    record (begun has) {
      prim = record { heads = []; groups = group_names shapes };
      points = map (λ p. point_row has p.at p.colour) places;
      prims = map (prim_of has textures normals (group_names shapes)) shapes;
    }

abbrev pub geo_of : List Piece → Geo
geo_of pieces = geo_from (filter_map texture_of pieces) (filter_map normal_of pieces) (filter_map place_of pieces) (shapes_under [] pieces)

-- a limit is decided before every line
abbrev pub geo_said : List Said → Result Geo Refusal
geo_said said = if passes_limits said then Err Limit else map_ok geo_of (pieces_of (counts_of said) no_counts said)

-- the meaning of a text
abbrev pub meaning : List ℕ → Result Geo Refusal
meaning bytes = geo_said (map said_by (lines_of bytes))
