-- The definitions of OBJ, computed on small texts and geometries.
use Rattle.std.proofs.Common.{◌≡◌, ℕ, zero, suc, List, [], ◌∷◌, ◌++◌, length, Bool, true, false, refl, Ok, Err}
use Rattle.std.specs.Prelude.{ℤ, pos, negsuc, codes, replicate}
use Rattle.std.specs.Fmt.{digits}
use Rattle.sop_model.specs.declared.geo.Geo.{Geo}
use Rattle.sop_model.specs.declared.geo.Row.{Row}
use Rattle.sop_model.specs.declared.geo.Head.{Head}
use Rattle.sop_model.specs.declared.geo.Corner.{Corner}
use Rattle.sop_model.specs.declared.geo.Primitive.{Primitive}
use Rattle.sop_model.specs.declared.value.Kind.TheVariants as kind
use Rattle.sop_model.specs.declared.value.Value.{Value}
use Rattle.sop_model.specs.declared.value.Value.TheVariants as value
use Rattle.sop_model.specs.Geometry.{empty_geo, position_head}
use Rattle.geo_text.specs.ObjLines.{lines_of}
use Rattle.geo_text.specs.ObjStatements.{Part, Absent, Ahead, Back, Wrong, Reference, reference_of, mended, statement_of, Groups}
use Rattle.geo_text.specs.ObjMeaning.{meaning, Number, Index, Shaped, group_names, is_among}
use Rattle.geo_text.specs.ObjText.{text_of}
use Rattle.geo_text.specs.Carried.{carried}

-- ---- short names
v : ℤ → ℤ → ℤ → Value
v x y z = value.Vector (record { x = x; y = y; z = z })

row : List Value → Row
row values = record { values = values; flags = [] }

corner : ℕ → List Value → Corner
corner n values = record { point = n; row = row values }

prim : Bool → List Bool → List Corner → Primitive
prim closed flags corners = record { closed = closed; row = record { values = []; flags = flags }; corners = corners }

vector : List ℕ → Head
vector name = record { name = name; kind = kind.Vector }

geo : List Head → List Head → List (List ℕ) → List Row → List Primitive → Geo
geo points vertices groups rows prims = record empty_geo {
  prim = record { heads = []; groups = groups };
  point = record { heads = position_head ∷ points; groups = [] };
  vertex = record { heads = vertices; groups = [] };
  points = rows;
  prims = prims;
}

origin : Value
origin = v (pos 0) (pos 0) (pos 0)

right : Value
right = v (pos 1000000) (pos 0) (pos 0)

up : Value
up = v (pos 0) (pos 1000000) (pos 0)

-- ---- lines
-- a joined line has the number of its first part, and the line behind it its own
joined_lines : lines_of (codes "v 1\\\n2\\\r\n3\nf 1 #x y\n\\") ≡
    record { number = 1; words = codes "v" ∷ codes "1" ∷ codes "2" ∷ codes "3" ∷ [] }
    ∷ record { number = 4; words = codes "f" ∷ codes "1" ∷ [] }
    ∷ record { number = 5; words = codes "\\" ∷ [] } ∷ []
joined_lines = refl

-- a comment that ends in a backslash goes on, and a backslash elsewhere is a byte of its word
joined_comment : lines_of (codes "#a\\\nv 1\na\\b \\\\\n") ≡
    record { number = 1; words = [] }
    ∷ record { number = 3; words = codes "a\\b" ∷ codes "\\" ∷ [] } ∷ []
joined_comment = refl

-- a byte order mark is skipped at the start alone
marked : lines_of (239 ∷ 187 ∷ 191 ∷ codes "v\n" ++ 239 ∷ 187 ∷ 191 ∷ []) ≡
    record { number = 1; words = codes "v" ∷ [] } ∷ record { number = 2; words = (239 ∷ 187 ∷ 191 ∷ []) ∷ [] } ∷ []
marked = refl

-- ---- references
reference : Part → Part → Part → Bool → Reference
reference a b c long = record { point = a; texture = b; normal = c; is_long = long }

whole_reference : reference_of (codes "1/-2/+3") ≡ reference (Ahead 1) (Back 2) (Ahead 3) false
unfolding reference
whole_reference = refl

one_slash : reference_of (codes "1/") ≡ reference (Ahead 1) Absent Absent false
unfolding reference
one_slash = refl

two_slashes : reference_of (codes "1//") ≡ reference (Ahead 1) Absent Absent false
unfolding reference
two_slashes = refl

three_slashes : reference_of (codes "1///") ≡ reference (Ahead 1) Absent Absent false
unfolding reference
three_slashes = refl

four_slashes : reference_of (codes "1////") ≡ reference (Ahead 1) Absent Absent true
unfolding reference
four_slashes = refl

slash_at_end : reference_of (codes "1/2/3/") ≡ reference (Ahead 1) (Ahead 2) (Ahead 3) false
unfolding reference
slash_at_end = refl

no_point : reference_of (codes "//1") ≡ reference Absent Absent (Ahead 1) false
unfolding reference
no_point = refl

wrong_part : reference_of (codes "1.0/a") ≡ reference Wrong Wrong Absent false
unfolding reference
wrong_part = refl

-- ---- names
mended_names : statement_of (codes "g" ∷ codes "a.b" ∷ codes "1x" ∷ []) ≡ Groups (codes "a_b" ∷ codes "_1x" ∷ [])
mended_names = refl

cut_name : mended (replicate 70 97) ≡ replicate 64 97
cut_name = refl

cut_behind_start : length (mended (replicate 64 49)) ≡ 64
cut_behind_start = refl

-- so many different names
names : ℕ → List (List ℕ)
names zero = []
names (suc n) = (n ∷ []) ∷ names n

many : List Shaped
many = record { closed = true; corners = []; groups = names 257 } ∷ []

most_names : length (group_names many) ≡ 256
unfolding many names
most_names = refl

last_name : is_among (group_names many) (1 ∷ []) ≡ true
unfolding many names
last_name = refl

passed_over : is_among (group_names many) (0 ∷ []) ≡ false
unfolding many names
passed_over = refl

-- ---- texts
empty_means : meaning [] ≡ Ok empty_geo
empty_means = refl

back_means : meaning (codes "v 0 0 0\nv 1 0 0\nv 0 1 0\nf -1 -2 -3\n") ≡
    Ok (geo [] [] [] (row (origin ∷ []) ∷ row (right ∷ []) ∷ row (up ∷ []) ∷ []) (prim true [] (corner 2 [] ∷ corner 1 [] ∷ corner 0 [] ∷ []) ∷ []))
unfolding geo row origin right up v prim corner
back_means = refl

back_then_zero : meaning (codes "v 0 0 0\nv 1 0 0\nv 0 1 0\nf -1 -2 -3\nf 0 1 2\n") ≡ Err (Index 5)
back_then_zero = refl

triangle : List ℕ
triangle =
    codes "mtllib a.mtl\r\no Tri\r\nv 0.000000 0.000000 0.000000\r\nv 1.000000 0.000000 0.000000\r\nv 0.000000 1.000000 0.000000\r\n"
    ++ codes "vt 0 0\r\nvt 1 0\r\nvt 0 1\r\nvn 0 0 1\r\nusemtl Mat\r\ns off\r\nf 1/1/1 2/2/1 3/3/1\r\n"

front : Value
front = v (pos 0) (pos 0) (pos 1000000)

triangle_geo : Geo
triangle_geo =
    geo [] (vector (codes "uv") ∷ vector (codes "N") ∷ []) [] (row (origin ∷ []) ∷ row (right ∷ []) ∷ row (up ∷ []) ∷ [])
    (prim true [] (corner 0 (origin ∷ front ∷ []) ∷ corner 1 (right ∷ front ∷ []) ∷ corner 2 (up ∷ front ∷ []) ∷ []) ∷ [])

triangle_means : meaning triangle ≡ Ok triangle_geo
unfolding triangle triangle_geo geo row origin right up front v vector prim corner
triangle_means = refl

triangle_text : text_of triangle_geo ≡
    codes "v 0 0 0\nv 1 0 0\nv 0 1 0\nvt 0 0 0\nvt 1 0 0\nvt 0 1 0\nvn 0 0 1\nvn 0 0 1\nvn 0 0 1\nf 1/1/1 2/2/2 3/3/3\n"
unfolding triangle_geo geo row origin right up front v vector prim corner digits
triangle_text = refl

rounded_means : meaning (codes "v 0.0000005 -0.0000005 1e-9\n") ≡ Ok (geo [] [] [] (row (v (pos 1) (negsuc 0) (pos 0) ∷ []) ∷ []) [])
unfolding geo row v
rounded_means = refl

-- a colour takes six words; the other points then have zero
coloured_means : meaning (codes "v 0 0 0 1 0 0 x\nv 0 0 0 1 x\n") ≡ Ok (geo (vector (codes "Cd") ∷ []) [] [] (row (origin ∷ right ∷ []) ∷ row (origin ∷ origin ∷ []) ∷ []) [])
unfolding geo row origin right v vector
coloured_means = refl

colour_refused : meaning (codes "v 0 0 0 1 x 0\n") ≡ Err (Number 1)
colour_refused = refl

five_words : meaning (codes "v 0 0 0 1 0\n") ≡ Ok (geo [] [] [] (row (origin ∷ []) ∷ []) [])
unfolding geo row origin v
five_words = refl

-- one reference with a part gives all vertices the attribute; a line `p` gives none
some_part : meaning (codes "v 0 0 0\nvn 0 1 0\np 1//1\nl 1\nf 1//-1\n") ≡
    Ok (geo [] (vector (codes "N") ∷ []) [] (row (origin ∷ []) ∷ []) (prim false [] (corner 0 (origin ∷ []) ∷ []) ∷ prim true [] (corner 0 (up ∷ []) ∷ []) ∷ []))
unfolding geo row origin up v vector prim corner
some_part = refl

checked_alone : meaning (codes "v 0 0 0\nvt 1\np 1/1\n") ≡ Ok (geo [] [] [] (row (origin ∷ []) ∷ []) [])
unfolding geo row origin v
checked_alone = refl

checked_refused : meaning (codes "v 0 0 0\np 1 2\n") ≡ Err (Index 2)
checked_refused = refl

-- numbers without a minus reach forward, those with one only back
ahead_means : meaning (codes "f 1/1\nvt 1\nv 0 0 0\n") ≡
    Ok (geo [] (vector (codes "uv") ∷ []) [] (row (origin ∷ []) ∷ []) (prim true [] (corner 0 (right ∷ []) ∷ []) ∷ []))
unfolding geo row origin right v vector prim corner
ahead_means = refl

back_refused : meaning (codes "f -1\nv 0 0 0\n") ≡ Err (Index 1)
back_refused = refl

far_back_refused : meaning (codes "v 0 0 0\nf -2\n") ≡ Err (Index 2)
far_back_refused = refl

-- a line is an element by its keyword alone, so a line with a wrong word counts
counted_line : meaning (codes "f 2\nv x\nv 0 0 0\n") ≡ Err (Number 2)
counted_line = refl

zero_refused : meaning (codes "v 0 0 0\nf 1 -0 x\n") ≡ Err (Index 2)
zero_refused = refl

long_index : meaning (codes "v 0 0 0\nf 100000000000000000000000000001\n") ≡ Err (Index 2)
long_index = refl

long_small_index : meaning (codes "v 0 0 0\nl 000000000000000000000000000001\n") ≡ Ok (geo [] [] [] (row (origin ∷ []) ∷ []) (prim false [] (corner 0 [] ∷ []) ∷ []))
unfolding geo row origin v prim corner
long_small_index = refl

-- in a word the first part that is refused decides
index_first : meaning (codes "v 0 0 0\nf 0/x\n") ≡ Err (Index 2)
index_first = refl

number_first : meaning (codes "v 0 0 0\nf 1/x/9\n") ≡ Err (Number 2)
number_first = refl

fourth_part : meaning (codes "v 0 0 0\nvt 1\nvn 1 1 1\nf 1/1/1/1\n") ≡ Err (Number 4)
fourth_part = refl

fourth_last : meaning (codes "v 0 0 0\nf 1/1/1/1\n") ≡ Err (Index 2)
fourth_last = refl

joined_number : meaning (codes "#\\\n\nv 0 0\\\n\nv 0\n") ≡ Err (Number 3)
joined_number = refl

-- no line of one, two or three words of `vt` but numerals
texture_means : meaning (codes "vt 1 x\n") ≡ Err (Number 1)
texture_means = refl

texture_none : meaning (codes "vt\n") ≡ Err (Number 1)
texture_none = refl

-- keywords have case, and what no line says is nothing
others_mean : meaning (codes "V 1\nF 7\nf\nl # 7\ncurv x\n") ≡ Ok empty_geo
others_mean = refl

-- ---- groups
-- names in order of first use; a name twice is one group; a line without words ends them; what no primitive uses is no group
grouped : List ℕ
grouped = codes "v 0 0 0\nf 1\ng none\ng b a b\nf 1\nf 1\ng\nf 1\ng a.b a_b\nf 1\n"

grouped_geo : Geo
grouped_geo =
    let corners = corner 0 [] ∷ [] in
    geo [] [] (codes "b" ∷ codes "a" ∷ codes "a_b" ∷ []) (row (origin ∷ []) ∷ [])
    (prim true (false ∷ false ∷ false ∷ []) corners ∷ prim true (true ∷ true ∷ false ∷ []) corners ∷ prim true (true ∷ true ∷ false ∷ []) corners
    ∷ prim true (false ∷ false ∷ false ∷ []) corners ∷ prim true (false ∷ false ∷ true ∷ []) corners ∷ [])

grouped_means : meaning grouped ≡ Ok grouped_geo
unfolding grouped grouped_geo geo row origin v prim corner
grouped_means = refl

grouped_text : text_of grouped_geo ≡ codes "v 0 0 0\nf 1\ng b a\nf 1\nf 1\ng\nf 1\ng a_b\nf 1\n"
unfolding grouped_geo geo row origin v prim corner digits
grouped_text = refl

-- ---- a geometry with more than its text carries
rich : Geo
rich = record {
  detail = record { heads = vector (codes "d") ∷ []; groups = [] };
  prim = record { heads = record { name = codes "id"; kind = kind.Int } ∷ []; groups = codes "all" ∷ codes "none" ∷ codes "closed" ∷ [] };
  point = record { heads = position_head ∷ record { name = codes "w"; kind = kind.Real } ∷ vector (codes "Cd") ∷ []; groups = codes "p" ∷ [] };
  vertex = record { heads = vector (codes "N") ∷ vector (codes "uv") ∷ []; groups = [] };
  points = record { values = origin ∷ value.Real (pos 5) ∷ right ∷ []; flags = true ∷ [] } ∷ record { values = up ∷ value.Real (pos 5) ∷ up ∷ []; flags = false ∷ [] } ∷ [];
  prims =
      record { closed = false; row = record { values = value.Int (pos 1) ∷ []; flags = true ∷ false ∷ false ∷ [] }; corners = corner 1 (up ∷ right ∷ []) ∷ [] }
      ∷ record { closed = true; row = record { values = value.Int (pos 2) ∷ []; flags = true ∷ false ∷ true ∷ [] }; corners = corner 0 (right ∷ up ∷ []) ∷ corner 1 (up ∷ up ∷ []) ∷ [] }
      ∷ [];
  detail_row = record { values = right ∷ []; flags = [] };
}

-- no normal stands at an open primitive, but the lines of normals are one a vertex
rich_text : text_of rich ≡
    codes "v 0 0 0 1 0 0\nv 0 1 0 0 1 0\nvt 1 0 0\nvt 0 1 0\nvt 0 1 0\nvn 0 1 0\nvn 1 0 0\nvn 0 1 0\ng all\nl 2/1\ng all closed\nf 1/2/2 2/3/3\n"
unfolding rich row origin right up v vector corner digits
rich_text = refl

rich_comes_back : meaning (text_of rich) ≡ Ok (carried rich)
unfolding rich row origin right up v vector corner digits
rich_comes_back = refl

-- attributes without an element are not carried
bare : Geo
bare = record empty_geo { point = record { heads = position_head ∷ vector (codes "Cd") ∷ []; groups = [] }; vertex = record { heads = vector (codes "uv") ∷ vector (codes "N") ∷ []; groups = [] } }

bare_text : text_of bare ≡ []
unfolding bare vector
bare_text = refl

bare_carried : carried bare ≡ empty_geo
unfolding bare vector
bare_carried = refl
