-- Texts that are made of lines of words.
use Rattle.std.specs.Prelude.{ℕ, ◌+◌, Bool, false, ◌&&◌, not, ◌==◌, nat_lt, if◌then◌else◌, List, [], ◌∷◌, ◌++◌, map, Option, None, Some, codes, decimal}
use Rattle.std.specs.List.{list_all, flat_map}
use Rattle.sop_fixed.specs.Numerals.{decimal_of}
use Rattle.sop_fixed.specs.declared.vec3.Vec3.{Vec3}
use Rattle.sop_model.specs.declared.class.Class.TheVariants.{Vertex}
use Rattle.sop_model.specs.declared.geo.Geo.{Geo}
use Rattle.sop_model.specs.declared.geo.Row.{Row}
use Rattle.sop_model.specs.declared.geo.Corner.{Corner}
use Rattle.sop_model.specs.declared.geo.Primitive.{Primitive}
use Rattle.sop_model.specs.Vertices.{size_of}
use Rattle.sop_model.specs.Places.{place_of}
use Rattle.sop_model.specs.Geometry.{rows_of}
use Rattle.geo_text.specs.declared.obj_writer.Parts.{Parts}
use Rattle.geo_text.specs.ObjText.{vector_head, vector_under, parts_text, parts_of, same_flags, groups_of, no_flags}
use Rattle.geo_text.specs.ObjScan.{ends_word}

-- words with a blank between them
abbrev pub words_text : List (List ℕ) → List ℕ
words_text [] = []
words_text (word ∷ []) = word
words_text (word ∷ next ∷ words) = word ++ 32 ∷ words_text (next ∷ words)

abbrev pub line_text : List (List ℕ) → List ℕ
line_text words = words_text words ++ 10 ∷ []

abbrev pub lines_text : List (List (List ℕ)) → List ℕ
lines_text lines = flat_map line_text lines

-- a byte below 128 that may stand anywhere in a word that is written
abbrev pub is_plain_byte : ℕ → Bool
is_plain_byte b = not (ends_word b) && not (b == 92) && nat_lt b 128

-- a word that is written: it has bytes, and is no comment
abbrev pub is_plain_word : List ℕ → Bool
is_plain_word [] = false
is_plain_word (b ∷ word) = not (b == 35) && list_all is_plain_byte (b ∷ word)

abbrev pub are_plain_words : List (List ℕ) → Bool
are_plain_words words = list_all is_plain_word words

-- THE LINES OF A GEOMETRY'S TEXT

abbrev pub vector_words : Vec3 → List (List ℕ)
vector_words v = decimal_of v.x ∷ decimal_of v.y ∷ decimal_of v.z ∷ []

abbrev pub colour_words : Option ℕ → Row → List (List ℕ)
colour_words None row = []
colour_words (Some head) row = vector_words (vector_under head row)

abbrev pub point_words : Option ℕ → Row → List (List ℕ)
point_words colour row = codes "v" ∷ (vector_words (place_of row) ++ colour_words colour row)

abbrev pub vectors_written : List ℕ → Option ℕ → List Row → List (List (List ℕ))
vectors_written key None rows = []
vectors_written key (Some head) rows = map (λ row. key ∷ vector_words (vector_under head row)) rows

abbrev pub references_words : Parts → ℕ → List Corner → List (List ℕ)
references_words parts before [] = []
references_words parts before (c ∷ corners) = (decimal (c.point + 1) ++ parts_text parts (before + 1)) ∷ references_words parts (before + 1) corners

abbrev pub shape_words : Geo → ℕ → Primitive → List (List ℕ)
shape_words g before p = (if p.closed then codes "f" else codes "l") ∷ references_words (parts_of g p) before p.corners

abbrev pub change_words : Geo → List Bool → Primitive → List (List (List ℕ))
change_words g flags p = if same_flags flags p.row.flags then [] else (codes "g" ∷ groups_of g p) ∷ []

abbrev pub prims_words : Geo → ℕ → List Bool → List Primitive → List (List (List ℕ))
prims_words g before flags [] = []
prims_words g before flags (p ∷ prims) = change_words g flags p ++ shape_words g before p ∷ prims_words g (before + size_of p) p.row.flags prims

abbrev pub lines_written : Geo → List (List (List ℕ))
lines_written g =
    map (point_words (vector_head g.point (codes "Cd"))) g.points
    ++ vectors_written (codes "vt") (vector_head g.vertex (codes "uv")) (rows_of g Vertex)
    ++ vectors_written (codes "vn") (vector_head g.vertex (codes "N")) (rows_of g Vertex)
    ++ prims_words g 0 (no_flags g) g.prims
