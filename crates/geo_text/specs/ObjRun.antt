-- A geometry that is taken piece by piece, as private contracts speak of it.
use Rattle.std.specs.Prelude.{◌≡◌, ℕ, Bool, true, false, if◌then◌else◌, nat_lt, List, [], ◌∷◌, ◌++◌, length, map, replicate, set, position, Option, None, Some, Result, Err}
use Rattle.std.specs.Str.{bytes_eq}
use Rattle.sop_fixed.specs.declared.vec3.Vec3.{Vec3}
use Rattle.sop_model.specs.declared.geo.Geo.{Geo}
use Rattle.sop_model.specs.Limits.{most_groups}
use Rattle.geo_text.specs.declared.taker.Attributes.{Attributes}
use Rattle.geo_text.specs.declared.taker.Vertex.{Vertex}
use Rattle.geo_text.specs.declared.reference.Counts.{Counts}
use Rattle.geo_text.specs.declared.reader.Keyword.{Keyword}
use Rattle.geo_text.specs.declared.reader.Keyword.TheVariants as key
use Rattle.geo_text.specs.declared.reader.LineFault.{LineFault}
use Rattle.geo_text.specs.declared.reader.LineFault.TheVariants as fault
use Rattle.geo_text.specs.declared.reference.WordFault.{WordFault}
use Rattle.geo_text.specs.declared.reference.WordFault.TheVariants as word
use Rattle.geo_text.specs.declared.groups.Groups.{Groups}
use Rattle.geo_text.specs.declared.totals.Totals.{Totals}
use Rattle.geo_text.specs.ObjTaking.{point_taken, prim_taken, group_taken}
use Rattle.geo_text.specs.ObjStatements.{Reference, Statement, Point, Texture, Normal, Shape, Checked, Nothing, place_in, texture_in, normal_in, reference_of, shape_in, mended}
use Rattle.geo_text.specs.ObjStatements as said
use Rattle.geo_text.specs.ObjMeaning.{Refusal, Number, Index, map_ok, each_of, named_by, vertex_of, piece_of, Piece, PointPiece, ShapePiece, GroupsPiece}
use Rattle.geo_text.specs.ObjScan.{words_here}

-- GROUPS

-- a geometry with a flag for each of its groups of primitives
pub record Marked : Type 0 where
  pub geo : Geo
  pub flags : List Bool

abbrev pub noted_at : Option ℕ → List ℕ → Marked → Marked
noted_at (Some i) name m = record m { flags = set m.flags i true }
noted_at None name m = if nat_lt (length m.geo.prim.groups) most_groups then record { geo = group_taken name m.geo; flags = m.flags ++ true ∷ [] } else m

-- a group marked, or taken and marked, while there is room for one
abbrev pub noted_name : List ℕ → Marked → Marked
noted_name name m = noted_at (position (λ g. bytes_eq g name) m.geo.prim.groups) name m

abbrev pub noted : List (List ℕ) → Marked → Marked
noted [] m = m
noted (name ∷ names) m = noted names (noted_name name m)

abbrev pub unmarked : Geo → Marked
unmarked g = record { geo = g; flags = replicate (length g.prim.groups) false }

-- PIECES

-- what was taken, the groups of the primitives that follow, and their flags once they are known
pub record Taking : Type 0 where
  pub geo : Geo
  pub groups : List (List ℕ)
  pub flags : Option (List Bool)

abbrev pub marked_by : Option (List Bool) → List (List ℕ) → Geo → Marked
marked_by (Some flags) groups g = record { geo = g; flags = flags }
marked_by None groups g = noted groups (unmarked g)

abbrev pub with_prim : Attributes → Bool → List Vertex → List (List ℕ) → Marked → Taking
with_prim has closed vertices groups m = record { geo = prim_taken has closed vertices m.flags m.geo; groups = groups; flags = Some m.flags }

abbrev pub prim_behind : Attributes → Bool → List Vertex → Taking → Taking
prim_behind has closed vertices t = with_prim has closed vertices t.groups (marked_by t.flags t.groups t.geo)

abbrev pub piece_taken : Attributes → List Vec3 → List Vec3 → Piece → Taking → Taking
piece_taken has textures normals (PointPiece place) t = record t { geo = point_taken has place.at place.colour t.geo }
piece_taken has textures normals (ShapePiece closed corners) t = prim_behind has closed (map (vertex_of textures normals) corners) t
piece_taken has textures normals (GroupsPiece names) t = record t { groups = names; flags = None }
piece_taken has textures normals other t = t

abbrev pub pieces_taken : Attributes → List Vec3 → List Vec3 → List Piece → Taking → Taking
pieces_taken has textures normals [] t = t
pieces_taken has textures normals (p ∷ pieces) t = pieces_taken has textures normals pieces (piece_taken has textures normals p t)

-- LINES

abbrev pub groups_seen : Groups → List (List ℕ)
groups_seen g = map mended (words_here g.words.now)

abbrev pub flags_seen : Groups → Option (List Bool)
flags_seen g = if g.is_known then Some g.flags.items else None

abbrev pub taking_seen : Geo → Groups → Taking
taking_seen geo g = record { geo = geo; groups = groups_seen g; flags = flags_seen g }

-- what a line of these words says by its keyword
abbrev pub statement_as : Keyword → List (List ℕ) → Statement
statement_as key.Point words = Point (place_in words)
statement_as key.Texture words = Texture (texture_in words)
statement_as key.Normal words = Normal (normal_in words)
statement_as key.Closed words = shape_in true words
statement_as key.Open words = shape_in false words
statement_as key.Check words = Checked (map reference_of words)
statement_as key.Groups words = said.Groups (map mended words)
statement_as key.Other words = Nothing

abbrev pub IsRefused : {A : Type 0} → ℕ → LineFault → Result A Refusal → Type 0
IsRefused line fault.Number r = r ≡ Err (Number line)
IsRefused line fault.Index r = r ≡ Err (Index line)
IsRefused line fault.Memory r = Unit {0}

-- the vertex that a reference means, in a line of this number
abbrev pub vertex_said : ℕ → Counts → Counts → List Vec3 → List Vec3 → Reference → Result Vertex Refusal
vertex_said line whole so_far textures normals reference = map_ok (vertex_of textures normals) (named_by line whole so_far reference)

-- the vertex that a word means
abbrev pub vertex_by : ℕ → Counts → Counts → List Vec3 → List Vec3 → List ℕ → Result Vertex Refusal
vertex_by line whole so_far textures normals word = vertex_said line whole so_far textures normals (reference_of word)

abbrev pub vertices_by : ℕ → Counts → Counts → List Vec3 → List Vec3 → List (List ℕ) → Result (List Vertex) Refusal
vertices_by line whole so_far textures normals words = each_of (vertex_by line whole so_far textures normals) words

-- vertices before others
abbrev pub behind : List Vertex → Result (List Vertex) Refusal → Result (List Vertex) Refusal
behind done rest = map_ok (λ vertices. done ++ vertices) rest

-- what is taken with a line of this number
abbrev pub taken_by : ℕ → Attributes → Totals → Counts → Statement → Taking → Result Taking Refusal
taken_by line has totals so_far statement t =
    map_ok (λ p. piece_taken has totals.textures.items totals.normals.items p t) (piece_of line totals.counts so_far statement)

abbrev pub fault_of : WordFault → LineFault
fault_of word.Number = fault.Number
fault_of word.Index = fault.Index
