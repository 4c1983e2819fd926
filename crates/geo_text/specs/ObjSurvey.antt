-- What the lines of an OBJ text have, counted before they are judged, as private contracts speak of it.
use Rattle.std.specs.Prelude.{◌≡◌, ⊤, ℕ, ◌+◌, Bool, true, false, if◌then◌else◌, ◌||◌, nat_le, nat_lt, List, [], ◌∷◌, ◌++◌, length, map, Option, None, Some, unwrap_or, codes}
use Rattle.std.specs.Str.{bytes_eq}
use Rattle.std.specs.List.{list_any, slice_split}
use Rattle.sop_fixed.specs.declared.vec3.Vec3.{Vec3}
use Rattle.sop_model.specs.Limits.{most_points, most_prims, most_vertices}
use Rattle.sop_model.specs.Values.{zero_vector}
use Rattle.geo_text.specs.declared.obj_fault.ObjFault.{ObjFault}
use Rattle.geo_text.specs.declared.obj_fault.ObjFault.TheVariants as fault
use Rattle.geo_text.specs.declared.taker.Attributes.{Attributes}
use Rattle.geo_text.specs.declared.reader.Keyword.{Keyword}
use Rattle.geo_text.specs.declared.reader.Keyword.TheVariants as key
use Rattle.geo_text.specs.declared.survey.Survey.{Survey}
use Rattle.geo_text.specs.ObjLines.{words_of}
use Rattle.geo_text.specs.ObjStatements.{Part, Absent, reference_of, texture_in, normal_in}
use Rattle.geo_text.specs.ObjScan.{is_line_feed}

-- what some lines have
pub record Seen : Type 0 where
  pub points : ℕ
  pub prims : ℕ
  pub vertices : ℕ
  pub has : Attributes
  pub textures : List Vec3
  pub normals : List Vec3

abbrev pub no_attributes : Attributes
no_attributes = record { colour = false; texture = false; normal = false }

abbrev pub nothing_seen : Seen
nothing_seen = record { points = 0; prims = 0; vertices = 0; has = no_attributes; textures = []; normals = [] }

abbrev pub is_there : Part → Bool
is_there Absent = false
is_there part = true

abbrev pub has_texture : List ℕ → Bool
has_texture word = is_there (reference_of word).texture

abbrev pub has_normal : List ℕ → Bool
has_normal word = is_there (reference_of word).normal

-- a point has a colour where six words or more say it
abbrev pub point_seen : List (List ℕ) → Seen → Seen
point_seen words s = record s { points = s.points + 1; has = record s.has { colour = s.has.colour || nat_le 6 (length words) } }

abbrev pub texture_seen : List (List ℕ) → Seen → Seen
texture_seen words s = record s { textures = s.textures ++ unwrap_or (texture_in words) zero_vector ∷ [] }

abbrev pub normal_seen : List (List ℕ) → Seen → Seen
normal_seen words s = record s { normals = s.normals ++ unwrap_or (normal_in words) zero_vector ∷ [] }

abbrev pub shape_seen : List (List ℕ) → Seen → Seen
shape_seen [] s = s
shape_seen (word ∷ words) s = record s {
  prims = s.prims + 1;
  vertices = s.vertices + length (word ∷ words);
  has = record s.has { texture = s.has.texture || list_any has_texture (word ∷ words); normal = s.has.normal || list_any has_normal (word ∷ words) };
}

abbrev pub seen_as : Keyword → List (List ℕ) → Seen → Seen
seen_as key.Point words s = point_seen words s
seen_as key.Texture words s = texture_seen words s
seen_as key.Normal words s = normal_seen words s
seen_as key.Closed words s = shape_seen words s
seen_as key.Open words s = shape_seen words s
seen_as _ words s = s

abbrev pub survey_seen : Survey → Seen
survey_seen s = record { points = s.points; prims = s.prims; vertices = s.vertices; has = s.attributes; textures = s.textures.items; normals = s.normals.items }

-- past a limit
abbrev pub is_past : Seen → Bool
is_past s = nat_lt most_points s.points || nat_lt most_vertices s.vertices || nat_lt most_prims s.prims

-- want of memory, or a limit that is passed
abbrev pub IsPast : ObjFault → Seen → Type 0
IsPast fault.Limit s = is_past s ≡ true
IsPast fault.Memory s = ⊤
IsPast other s = ⊥

-- what a line is about whose first word is this
abbrev pub key_of : List ℕ → Keyword
key_of word =
    if bytes_eq word (codes "v") then key.Point
    else if bytes_eq word (codes "vt") then key.Texture
    else if bytes_eq word (codes "vn") then key.Normal
    else if bytes_eq word (codes "f") then key.Closed
    else if bytes_eq word (codes "l") then key.Open
    else if bytes_eq word (codes "p") then key.Check
    else if bytes_eq word (codes "g") then key.Groups
    else key.Other

abbrev pub line_seen : List (List ℕ) → Seen → Seen
line_seen [] s = s
line_seen (word ∷ words) s = seen_as (key_of word) words s

abbrev pub all_seen : List (List (List ℕ)) → Seen → Seen
all_seen [] s = s
all_seen (words ∷ lines) s = all_seen lines (line_seen words s)

-- the words of the lines of a text
abbrev pub worded : List ℕ → List (List (List ℕ))
worded text = map words_of (slice_split is_line_feed text)

abbrev pub worded_left : Option (List ℕ) → List (List (List ℕ))
worded_left None = []
worded_left (Some text) = worded text
