-- The text of a geometry is made of lines of words.
use Rattle.std.proofs.Common.{◌≡◌, ℕ, ◌+◌, List, [], ◌∷◌, ◌++◌, map, append_assoc, append-nil, refl, sym, ap, ◌∙◌, Option, Some, None, Bool, inl, inr}
use Rattle.std.specs.Prelude.{codes, decimal, if◌then◌else◌}
use Rattle.std.specs.List.{flat_map}
use Rattle.std.proofs.lemmas.Bool.{cases_Bool}
use Rattle.std.proofs.lemmas.Grind.{flat_map-append}
use Rattle.sop_fixed.specs.declared.vec3.Vec3.{Vec3}
use Rattle.sop_model.specs.declared.class.Class.TheVariants.{Vertex}
use Rattle.sop_model.specs.declared.geo.Geo.{Geo}
use Rattle.sop_model.specs.declared.geo.Row.{Row}
use Rattle.sop_model.specs.declared.geo.Corner.{Corner}
use Rattle.sop_model.specs.declared.geo.Primitive.{Primitive}
use Rattle.sop_model.specs.Vertices.{size_of}
use Rattle.sop_model.specs.Places.{place_of}
use Rattle.sop_model.specs.Geometry.{rows_of}
use Rattle.geo_text.specs.declared.obj_writer.Parts.{Parts}
use Rattle.geo_text.specs.ObjText.{vector_head, vector_under, spaced_vector, colour_text, point_line, vector_lines, points_text, textures_text, normals_text, parts_text, references_text, parts_of, shape_line, same_flags, groups_of, change_of_groups, shapes_text, no_flags, text_of}
use Rattle.geo_text.specs.ObjWords.{words_text, line_text, lines_text, vector_words, colour_words, point_words, vectors_written, references_words, shape_words, change_words, prims_words, lines_written}

abbrev spaced : List ℕ → List ℕ
spaced word = 32 ∷ word

words_spaced : (w : List ℕ) (words : List (List ℕ)) → words_text (w ∷ words) ≡ w ++ flat_map spaced words
words_spaced w [] = sym (append-nil w)
words_spaced w (v ∷ words) = ap (λ l. w ++ 32 ∷ l) (words_spaced v words)

line_spaced : (w : List ℕ) (words : List (List ℕ)) → line_text (w ∷ words) ≡ w ++ flat_map spaced words ++ 10 ∷ []
line_spaced w words = ap (λ l. l ++ 10 ∷ []) (words_spaced w words)

vector_spaced : (v : Vec3) → flat_map spaced (vector_words v) ≡ spaced_vector v
vector_spaced v = simp (append_assoc, append-nil)

colour_spaced : (colour : Option ℕ) (row : Row) → flat_map spaced (colour_words colour row) ≡ colour_text colour row
colour_spaced None row = refl
colour_spaced (Some head) row = vector_spaced (vector_under head row)

point_written : (colour : Option ℕ) (row : Row) → line_text (point_words colour row) ≡ point_line colour row
point_written colour row =
    line_spaced (codes "v") (vector_words (place_of row) ++ colour_words colour row)
    ∙ ap (λ l. codes "v" ++ l ++ 10 ∷ []) (flat_map-append spaced (vector_words (place_of row)) (colour_words colour row))
    ∙ ap (λ l. codes "v" ++ (l ++ flat_map spaced (colour_words colour row)) ++ 10 ∷ []) (vector_spaced (place_of row))
    ∙ ap (λ l. codes "v" ++ (spaced_vector (place_of row) ++ l) ++ 10 ∷ []) (colour_spaced colour row)
    ∙ ap (λ l. l ++ 10 ∷ []) (sym (append_assoc (codes "v") (spaced_vector (place_of row)) (colour_text colour row)))

points_written : (colour : Option ℕ) (rows : List Row) → lines_text (map (point_words colour) rows) ≡ flat_map (point_line colour) rows
points_written colour [] = refl
points_written colour (row ∷ rows) = ap (λ l. l ++ lines_text (map (point_words colour) rows)) (point_written colour row) ∙ ap (λ l. point_line colour row ++ l) (points_written colour rows)

vectors_line : (key : List ℕ) (v : Vec3) → line_text (key ∷ vector_words v) ≡ key ++ spaced_vector v ++ codes "\n"
vectors_line key v = line_spaced key (vector_words v) ∙ ap (λ l. key ++ l ++ 10 ∷ []) (vector_spaced v)

vectors_lines : (key : List ℕ) (head : ℕ) (rows : List Row) → lines_text (map (λ row. key ∷ vector_words (vector_under head row)) rows) ≡ flat_map (λ row. key ++ spaced_vector (vector_under head row) ++ codes "\n") rows
vectors_lines key head [] = refl
vectors_lines key head (row ∷ rows) =
    ap (λ l. l ++ lines_text (map (λ row. key ∷ vector_words (vector_under head row)) rows)) (vectors_line key (vector_under head row))
    ∙ ap (λ l. (key ++ spaced_vector (vector_under head row) ++ codes "\n") ++ l) (vectors_lines key head rows)

vectors_text : (key : List ℕ) (head : Option ℕ) (rows : List Row) → lines_text (vectors_written key head rows) ≡ vector_lines key head rows
vectors_text key None rows = refl
vectors_text key (Some head) rows = vectors_lines key head rows

references_spaced : (parts : Parts) (before : ℕ) (corners : List Corner) → flat_map spaced (references_words parts before corners) ≡ references_text parts before corners
references_spaced parts before [] = refl
references_spaced parts before (c ∷ corners) = ap (λ l. (32 ∷ (decimal (c.point + 1) ++ parts_text parts (before + 1))) ++ l) (references_spaced parts (before + 1) corners)

shape_written : (g : Geo) (before : ℕ) (p : Primitive) → line_text (shape_words g before p) ≡ shape_line g before p
shape_written g before p =
    line_spaced (if p.closed then codes "f" else codes "l") (references_words (parts_of g p) before p.corners)
    ∙ ap (λ l. (if p.closed then codes "f" else codes "l") ++ l ++ 10 ∷ []) (references_spaced (parts_of g p) before p.corners)

change_written : (g : Geo) (flags : List Bool) (p : Primitive) → lines_text (change_words g flags p) ≡ change_of_groups g flags p
change_written g flags p =
    elim (cases_Bool (same_flags flags p.row.flags)) [
      | inl same ↦ rw same refl
      | inr other ↦ rw other (append-nil (line_text (codes "g" ∷ groups_of g p)) ∙ line_spaced (codes "g") (groups_of g p))
    ]

prims_written : (g : Geo) (before : ℕ) (flags : List Bool) (prims : List Primitive) → lines_text (prims_words g before flags prims) ≡ shapes_text g before flags prims
prims_written g before flags [] = refl
prims_written g before flags (p ∷ prims) =
    let more = prims_words g (before + size_of p) p.row.flags prims in
    flat_map-append line_text (change_words g flags p) (shape_words g before p ∷ more)
    ∙ ap (λ l. l ++ (line_text (shape_words g before p) ++ lines_text more)) (change_written g flags p)
    ∙ ap (λ l. change_of_groups g flags p ++ (l ++ lines_text more)) (shape_written g before p)
    ∙ ap (λ l. change_of_groups g flags p ++ (shape_line g before p ++ l)) (prims_written g (before + size_of p) p.row.flags prims)
    ∙ sym (append_assoc (change_of_groups g flags p) (shape_line g before p) (shapes_text g (before + size_of p) p.row.flags prims))

-- the text of a geometry has these lines
pub text_lines : (g : Geo) → lines_text (lines_written g) ≡ text_of g
text_lines g =
    let points = map (point_words (vector_head g.point (codes "Cd"))) g.points in
    let textures = vectors_written (codes "vt") (vector_head g.vertex (codes "uv")) (rows_of g Vertex) in
    let normals = vectors_written (codes "vn") (vector_head g.vertex (codes "N")) (rows_of g Vertex) in
    let prims = prims_words g 0 (no_flags g) g.prims in
    flat_map-append line_text (points ++ textures ++ normals) prims
    ∙ ap (λ l. l ++ lines_text prims) (flat_map-append line_text (points ++ textures) normals ∙ ap (λ l. l ++ lines_text normals) (flat_map-append line_text points textures))
    ∙ ap (λ l. l ++ lines_text textures ++ lines_text normals ++ lines_text prims) (points_written (vector_head g.point (codes "Cd")) g.points)
    ∙ ap (λ l. points_text g ++ l ++ lines_text normals ++ lines_text prims) (vectors_text (codes "vt") (vector_head g.vertex (codes "uv")) (rows_of g Vertex))
    ∙ ap (λ l. points_text g ++ textures_text g ++ l ++ lines_text prims) (vectors_text (codes "vn") (vector_head g.vertex (codes "N")) (rows_of g Vertex))
    ∙ ap (λ l. points_text g ++ textures_text g ++ normals_text g ++ l) (prims_written g 0 (no_flags g) g.prims)
