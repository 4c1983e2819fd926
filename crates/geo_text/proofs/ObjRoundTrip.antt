-- The text of a geometry means what it carries.
use Rattle.std.proofs.Common.{◌≡◌, ℕ, suc, ◌+◌, ◌<◌, ◌≤◌, List, [], ◌∷◌, ◌++◌, length, map, append_assoc, refl, ap, ◌∙◌, arith, Option, Some, None, Bool, true, false, length-append}
use Rattle.std.specs.Prelude.{All, codes, decimal, if◌then◌else◌, is_some}
use Rattle.std.specs.List.{list_all}
use Rattle.std.proofs.lemmas.Bool.{and_parts, and_from}
use Rattle.std.proofs.lemmas.List.{length-map}
use Rattle.std.proofs.lemmas.List.Elements.{All-nil, All-cons, All-head, All-tail, All-weaker}
use Rattle.sop_model.proofs.LimitsLemmas.{fits_within, within_points, within_vertices}
use Rattle.sop_fixed.specs.declared.vec3.Vec3.{Vec3}
use Rattle.sop_model.specs.declared.class.Class.TheVariants.{Prim, Vertex}
use Rattle.sop_model.specs.declared.geo.Geo.{Geo}
use Rattle.sop_model.specs.declared.geo.Row.{Row}
use Rattle.sop_model.specs.declared.geo.Corner.{Corner}
use Rattle.sop_model.specs.declared.geo.Primitive.{Primitive}
use Rattle.sop_model.specs.Names.{is_name}
use Rattle.sop_model.specs.Vertices.{size_of, corners_of}
use Rattle.sop_model.specs.Places.{place_of}
use Rattle.sop_model.specs.Geometry.{IsGood, Fits, rows_of}
use Rattle.geo_text.specs.declared.obj_writer.Parts.{Parts}
use Rattle.geo_text.specs.declared.reference.Counts.{Counts}
use Rattle.geo_text.specs.ObjMeaning.{Piece, PointPiece, TexturePiece, NormalPiece, ShapePiece, GroupsPiece, no_counts, piece_of, counted_in}
use Rattle.geo_text.specs.ObjText.{vector_head, vector_under, parts_text, parts_of, same_flags, groups_of, no_flags}
use Rattle.geo_text.specs.ObjWords.{is_plain_word, are_plain_words, vector_words, colour_words, point_words, vectors_written, references_words, shape_words, change_words, prims_words, lines_written}
use Rattle.geo_text.specs.ObjPieces.{place_written, vectors_under, prims_pieces, named_written, pieces_written}
use Rattle.geo_text.specs.ObjRange.{IsRealUnder, AreRealUnder, AreReal}
use Rattle.geo_text.proofs.ObjWritten.{are_plain_lines}
use Rattle.geo_text.proofs.ObjPlain.{vector_plain, reference_plain, chosen_plain}
use Rattle.geo_text.proofs.ObjReadBack.{point_back, texture_back, normal_back}
use Rattle.geo_text.proofs.ObjGives.{AllGive, give_append, counted_by, counts_in, Suits, prims_given}

-- ---- points and vectors give their pieces
points_given : (whole : Counts) (colour : Option ℕ) (rows : List Row) → AreRealUnder (Some 0) rows → AreRealUnder colour rows
    → AllGive whole (map (point_words colour) rows) (map (λ row. PointPiece (place_written colour row)) rows)
points_given whole colour [] places colours = tt
points_given whole colour (row ∷ rows) places colours =
    let says = point_back colour row (All-head (IsRealUnder (Some 0)) row rows places) (All-head (IsRealUnder colour) row rows colours) in (
      record { piece = λ line so_far. ap (piece_of line whole so_far) says; counts = λ n. ap (λ s. counted_in s n) says },
      points_given whole colour rows (All-tail (IsRealUnder (Some 0)) row rows places) (All-tail (IsRealUnder colour) row rows colours),
    )

textures_given : (whole : Counts) (head : ℕ) (rows : List Row) → AreRealUnder (Some head) rows → AllGive whole (map (λ row. codes "vt" ∷ vector_words (vector_under head row)) rows) (map TexturePiece (map (vector_under head) rows))
textures_given whole head [] all = tt
textures_given whole head (row ∷ rows) all =
    let says = texture_back (vector_under head row) (All-head (IsRealUnder (Some head)) row rows all) in (
      record { piece = λ line so_far. ap (piece_of line whole so_far) says; counts = λ n. ap (λ s. counted_in s n) says },
      textures_given whole head rows (All-tail (IsRealUnder (Some head)) row rows all),
    )

normals_given : (whole : Counts) (head : ℕ) (rows : List Row) → AreRealUnder (Some head) rows → AllGive whole (map (λ row. codes "vn" ∷ vector_words (vector_under head row)) rows) (map NormalPiece (map (vector_under head) rows))
normals_given whole head [] all = tt
normals_given whole head (row ∷ rows) all =
    let says = normal_back (vector_under head row) (All-head (IsRealUnder (Some head)) row rows all) in (
      record { piece = λ line so_far. ap (piece_of line whole so_far) says; counts = λ n. ap (λ s. counted_in s n) says },
      normals_given whole head rows (All-tail (IsRealUnder (Some head)) row rows all),
    )

some_textures : (whole : Counts) (head : Option ℕ) (rows : List Row) → AreRealUnder head rows → AllGive whole (vectors_written (codes "vt") head rows) (map TexturePiece (vectors_under head rows))
some_textures whole None rows all = tt
some_textures whole (Some head) rows all = textures_given whole head rows all

some_normals : (whole : Counts) (head : Option ℕ) (rows : List Row) → AreRealUnder head rows → AllGive whole (vectors_written (codes "vn") head rows) (map NormalPiece (vectors_under head rows))
some_normals whole None rows all = tt
some_normals whole (Some head) rows all = normals_given whole head rows all

-- ---- the counts of a text
abbrev pub whole_of : Geo → Counts
whole_of g = record {
  points = length g.points;
  textures = length (vectors_under (vector_head g.vertex (codes "uv")) (rows_of g Vertex));
  normals = length (vectors_under (vector_head g.vertex (codes "N")) (rows_of g Vertex));
}

same_counts : (a b : Counts) → a.points ≡ b.points → a.textures ≡ b.textures → a.normals ≡ b.normals → a ≡ b
same_counts a b p t n =
    ap (λ x. record { points = x; textures = a.textures; normals = a.normals }) p ∙ ap (λ x. record { points = b.points; textures = x; normals = a.normals }) t
    ∙ ap (λ x. record { points = b.points; textures = b.textures; normals = x }) n

abbrev more_points : ℕ → Counts → Counts
more_points k n = record n { points = n.points + k }

abbrev more_textures : ℕ → Counts → Counts
more_textures k n = record n { textures = n.textures + k }

abbrev more_normals : ℕ → Counts → Counts
more_normals k n = record n { normals = n.normals + k }

points_counted : {A : Type 0} (f : A → Piece) (xs : List A) (rest : List Piece) → ((x : A) (n : Counts) → counted_by (f x) n ≡ record n { points = n.points + 1 })
    → counts_in (map f xs ++ rest) ≡ record (counts_in rest) { points = (counts_in rest).points + length xs }
points_counted f [] rest h = let e : (counts_in rest).points ≡ (counts_in rest).points + 0 = omega arith in ap (λ n. record (counts_in rest) { points = n }) e
points_counted f (x ∷ xs) rest h =
    let m = counts_in rest in
    let e : m.points + length xs + 1 ≡ m.points + suc (length xs) = omega arith in
    h x (counts_in (map f xs ++ rest)) ∙ ap (more_points 1) (points_counted f xs rest h) ∙ ap (λ k. record m { points = k }) e

textures_counted : (vs : List Vec3) (rest : List Piece) → counts_in (map TexturePiece vs ++ rest) ≡ record (counts_in rest) { textures = (counts_in rest).textures + length vs }
textures_counted [] rest = let e : (counts_in rest).textures ≡ (counts_in rest).textures + 0 = omega arith in ap (λ n. record (counts_in rest) { textures = n }) e
textures_counted (v ∷ vs) rest =
    let m = counts_in rest in
    let e : m.textures + length vs + 1 ≡ m.textures + suc (length vs) = omega arith in
    ap (more_textures 1) (textures_counted vs rest) ∙ ap (λ k. record m { textures = k }) e

normals_counted : (vs : List Vec3) (rest : List Piece) → counts_in (map NormalPiece vs ++ rest) ≡ record (counts_in rest) { normals = (counts_in rest).normals + length vs }
normals_counted [] rest = let e : (counts_in rest).normals ≡ (counts_in rest).normals + 0 = omega arith in ap (λ n. record (counts_in rest) { normals = n }) e
normals_counted (v ∷ vs) rest =
    let m = counts_in rest in
    let e : m.normals + length vs + 1 ≡ m.normals + suc (length vs) = omega arith in
    ap (more_normals 1) (normals_counted vs rest) ∙ ap (λ k. record m { normals = k }) e

prims_counted : (g : Geo) (before : ℕ) (flags : List Bool) (prims : List Primitive) → counts_in (prims_pieces g before flags prims) ≡ no_counts
prims_counted g before flags [] = refl
prims_counted g before flags (p ∷ prims) =
    counted (same_flags flags p.row.flags) ∙ prims_counted g (before + size_of p) p.row.flags prims
  where
    counted : (b : Bool) → counts_in ((if b then [] else GroupsPiece (groups_of g p) ∷ []) ++ ShapePiece p.closed (named_written (parts_of g p) before p.corners) ∷ prims_pieces g (before + size_of p) p.row.flags prims)
        ≡ counts_in (prims_pieces g (before + size_of p) p.row.flags prims)
    counted true = refl
    counted false = refl

pub whole_counted : (g : Geo) → counts_in (pieces_written g) ≡ whole_of g
whole_counted g =
    let rows = rows_of g Vertex in
    let colour = vector_head g.point (codes "Cd") in
    let textures = vectors_under (vector_head g.vertex (codes "uv")) rows in
    let normals = vectors_under (vector_head g.vertex (codes "N")) rows in
    let prims = prims_pieces g 0 (no_flags g) g.prims in
    let points = map (λ row. PointPiece (place_written colour row)) g.points in
    let shape : points ++ map TexturePiece textures ++ map NormalPiece normals ++ prims ≡ points ++ (map TexturePiece textures ++ (map NormalPiece normals ++ prims)) = simp append_assoc in
    let n = normals_counted normals prims ∙ ap (more_normals (length normals)) (prims_counted g 0 (no_flags g) g.prims) in
    let t = textures_counted textures (map NormalPiece normals ++ prims) ∙ ap (more_textures (length textures)) n in
    let p = points_counted (λ row. PointPiece (place_written colour row)) g.points (map TexturePiece textures ++ (map NormalPiece normals ++ prims)) (λ row m. refl) ∙ ap (more_points (length g.points)) t in
    ap counts_in shape ∙ p ∙ same_counts _ (whole_of g) (omega arith) (omega arith) (omega arith)

-- ---- all lines give their pieces
rows_long : (g : Geo) → length (rows_of g Vertex) ≡ length (corners_of g.prims)
rows_long g = length-map (corners_of g.prims) (λ (c : Corner). c.row)

vectors_long : (head : Option ℕ) (rows : List Row) → is_some head ≡ true → length (vectors_under head rows) ≡ length rows
vectors_long None rows h = cc
vectors_long (Some head) rows h = length-map rows (vector_under head)

suits : (g : Geo) → IsGood g → Fits g → Suits g (whole_of g) (0 + length (corners_of g.prims))
suits g good f =
    let within = fits_within f in
    record {
      points = within_points within;
      few = (let e = within_vertices within in omega (arith, e));
      textures = λ h. omega (arith, vectors_long (vector_head g.vertex (codes "uv")) (rows_of g Vertex) h, rows_long g);
      normals = λ h. omega (arith, vectors_long (vector_head g.vertex (codes "N")) (rows_of g Vertex) h, rows_long g);
      names = (good.sound.named Prim).groups;
    }

pub all_given : (g : Geo) → IsGood g → Fits g → AreReal g → AllGive (whole_of g) (lines_written g) (pieces_written g)
all_given g good f real =
    let whole = whole_of g in
    let rows = rows_of g Vertex in
    let colour = vector_head g.point (codes "Cd") in
    let uv = vector_head g.vertex (codes "uv") in
    let n = vector_head g.vertex (codes "N") in
    let points = map (point_words colour) g.points in
    let point_pieces = map (λ row. PointPiece (place_written colour row)) g.points in
    let textures = vectors_written (codes "vt") uv rows in
    let normals = vectors_written (codes "vn") n rows in
    give_append whole (points ++ textures ++ normals) (point_pieces ++ map TexturePiece (vectors_under uv rows) ++ map NormalPiece (vectors_under n rows))
    (prims_words g 0 (no_flags g) g.prims) (prims_pieces g 0 (no_flags g) g.prims)
    (give_append whole (points ++ textures) (point_pieces ++ map TexturePiece (vectors_under uv rows)) normals (map NormalPiece (vectors_under n rows))
    (give_append whole points point_pieces textures (map TexturePiece (vectors_under uv rows)) (points_given whole colour g.points real.places real.colours) (some_textures whole uv rows real.textures))
    (some_normals whole n rows real.normals))
    (prims_given g whole 0 (no_flags g) g.prims (suits g good f) good.corners good.sound.points)

-- ---- the words of all lines are plain
lines_append : (xs ys : List (List (List ℕ))) → are_plain_lines xs ≡ true → are_plain_lines ys ≡ true → are_plain_lines (xs ++ ys) ≡ true
lines_append [] ys a b = b
lines_append (x ∷ xs) ys a b = let parts = and_parts (are_plain_words x) (are_plain_lines xs) a in and_from (are_plain_words x) (are_plain_lines (xs ++ ys)) parts.0 (lines_append xs ys parts.1 b)

words_append : (xs ys : List (List ℕ)) → are_plain_words xs ≡ true → are_plain_words ys ≡ true → are_plain_words (xs ++ ys) ≡ true
words_append [] ys a b = b
words_append (x ∷ xs) ys a b = let parts = and_parts (is_plain_word x) (are_plain_words xs) a in and_from (is_plain_word x) (are_plain_words (xs ++ ys)) parts.0 (words_append xs ys parts.1 b)

colour_plain : (colour : Option ℕ) (row : Row) → IsRealUnder colour row → are_plain_words (colour_words colour row) ≡ true
colour_plain None row real = refl
colour_plain (Some head) row real = vector_plain (vector_under head row) real

points_plain : (colour : Option ℕ) (rows : List Row) → AreRealUnder (Some 0) rows → AreRealUnder colour rows → are_plain_lines (map (point_words colour) rows) ≡ true
points_plain colour [] places colours = refl
points_plain colour (row ∷ rows) places colours =
    and_from (are_plain_words (point_words colour row)) (are_plain_lines (map (point_words colour) rows))
    (words_append (vector_words (place_of row)) (colour_words colour row)
    (vector_plain (place_of row) (All-head (IsRealUnder (Some 0)) row rows places)) (colour_plain colour row (All-head (IsRealUnder colour) row rows colours)))
    (points_plain colour rows (All-tail (IsRealUnder (Some 0)) row rows places) (All-tail (IsRealUnder colour) row rows colours))

vectors_plain : (key : List ℕ) (head : ℕ) (rows : List Row) → is_plain_word key ≡ true → AreRealUnder (Some head) rows → are_plain_lines (map (λ row. key ∷ vector_words (vector_under head row)) rows) ≡ true
vectors_plain key head [] k all = refl
vectors_plain key head (row ∷ rows) k all =
    let v = vector_under head row in
    and_from (are_plain_words (key ∷ vector_words v)) (are_plain_lines (map (λ row. key ∷ vector_words (vector_under head row)) rows))
    (and_from (is_plain_word key) (are_plain_words (vector_words v)) k (vector_plain v (All-head (IsRealUnder (Some head)) row rows all)))
    (vectors_plain key head rows k (All-tail (IsRealUnder (Some head)) row rows all))

some_plain : (key : List ℕ) (head : Option ℕ) (rows : List Row) → is_plain_word key ≡ true → AreRealUnder head rows → are_plain_lines (vectors_written key head rows) ≡ true
some_plain key None rows k all = refl
some_plain key (Some head) rows k all = vectors_plain key head rows k all

references_plain : (parts : Parts) (before : ℕ) (corners : List Corner) → before + length corners ≤ 4000000 → All (λ c. c.point < 1000000) corners → are_plain_words (references_words parts before corners) ≡ true
references_plain parts before [] less all = refl
references_plain parts before (c ∷ corners) less all =
    let here = All-head (λ (c : Corner). c.point < 1000000) c corners all in
    and_from (is_plain_word (decimal (c.point + 1) ++ parts_text parts (before + 1))) (are_plain_words (references_words parts (before + 1) corners))
    (reference_plain parts (c.point + 1) (before + 1) (omega arith) (omega arith))
    (references_plain parts (before + 1) corners (omega arith) (All-tail (λ (c : Corner). c.point < 1000000) c corners all))

key_plain : (closed : Bool) → is_plain_word (if closed then codes "f" else codes "l") ≡ true
key_plain true = refl
key_plain false = refl

prims_plain : (g : Geo) (before : ℕ) (flags : List Bool) (prims : List Primitive) → list_all is_name g.prim.groups ≡ true → before + length (corners_of prims) ≤ 4000000 → All (λ c. c.point < 1000000) (corners_of prims)
    → are_plain_lines (prims_words g before flags prims) ≡ true
prims_plain g before flags [] names less all = refl
prims_plain g before flags (p ∷ prims) names less all =
    let long = length-append p.corners (corners_of prims) in
    lines_append (change_words g flags p) (shape_words g before p ∷ prims_words g (before + size_of p) p.row.flags prims) (change (same_flags flags p.row.flags))
    (and_from (are_plain_words (shape_words g before p)) (are_plain_lines (prims_words g (before + size_of p) p.row.flags prims))
    (and_from (is_plain_word (if p.closed then codes "f" else codes "l")) (are_plain_words (references_words (parts_of g p) before p.corners)) (key_plain p.closed)
    (references_plain (parts_of g p) before p.corners (omega (arith, long)) (All-front p.corners (corners_of prims) all)))
    (prims_plain g (before + size_of p) p.row.flags prims names (omega (arith, long)) (All-back p.corners (corners_of prims) all)))
  where
    change : (b : Bool) → are_plain_lines (if b then [] else (codes "g" ∷ groups_of g p) ∷ []) ≡ true
    change true = refl
    change false = and_from (are_plain_words (codes "g" ∷ groups_of g p)) true (chosen_plain p.row.flags g.prim.groups names) refl

    All-front : (xs ys : List Corner) → All (λ c. c.point < 1000000) (xs ++ ys) → All (λ c. c.point < 1000000) xs
    All-front [] ys all = All-nil (λ c. c.point < 1000000)
    All-front (x ∷ xs) ys all = All-cons (λ c. c.point < 1000000) x xs (All-head (λ c. c.point < 1000000) x (xs ++ ys) all) (All-front xs ys (All-tail (λ c. c.point < 1000000) x (xs ++ ys) all))

    All-back : (xs ys : List Corner) → All (λ c. c.point < 1000000) (xs ++ ys) → All (λ c. c.point < 1000000) ys
    All-back [] ys all = all
    All-back (x ∷ xs) ys all = All-back xs ys (All-tail (λ c. c.point < 1000000) x (xs ++ ys) all)

pub all_plain : (g : Geo) → IsGood g → Fits g → AreReal g → are_plain_lines (lines_written g) ≡ true
all_plain g good f real =
    let within = fits_within f in
    let rows = rows_of g Vertex in
    let colour = vector_head g.point (codes "Cd") in
    let textures = vectors_written (codes "vt") (vector_head g.vertex (codes "uv")) rows in
    let normals = vectors_written (codes "vn") (vector_head g.vertex (codes "N")) rows in
    let few = within_points within in
    let below = All-weaker (λ (c : Corner). c.point < length g.points) (λ c. c.point < 1000000) (λ c h. omega (arith, h, few)) (corners_of g.prims) good.sound.points in
    lines_append (map (point_words colour) g.points ++ textures ++ normals) (prims_words g 0 (no_flags g) g.prims)
    (lines_append (map (point_words colour) g.points ++ textures) normals
    (lines_append (map (point_words colour) g.points) textures (points_plain colour g.points real.places real.colours) (some_plain (codes "vt") (vector_head g.vertex (codes "uv")) rows refl real.textures))
    (some_plain (codes "vn") (vector_head g.vertex (codes "N")) rows refl real.normals))
    (prims_plain g 0 (no_flags g) g.prims (good.sound.named Prim).groups (let e = within_vertices within in omega (arith, e)) below)
