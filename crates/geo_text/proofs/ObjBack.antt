-- What the pieces of a text that is written make.
use Rattle.std.proofs.Common.{◌≡◌, ℕ, ◌+◌, ◌<◌, List, [], ◌∷◌, ◌++◌, length, map, append_assoc, append-nil, refl, sym, ap, ◌∙◌, arith, Option, Some, None, Bool, true, false, inl, inr}
use Rattle.std.specs.Prelude.{◌||◌, ◌&&◌, unwrap_or, option_map, filter_map, is_some, codes, All}
use Rattle.std.specs.List.{list_any}
use Rattle.std.proofs.lemmas.Bool.{cases_Bool}
use Rattle.std.proofs.lemmas.List.Elements.{All-head, All-tail}
use Rattle.sop_model.specs.declared.class.Class.TheVariants.{Vertex}
use Rattle.sop_model.specs.declared.geo.Geo.{Geo}
use Rattle.sop_model.specs.declared.geo.Row.{Row}
use Rattle.sop_model.specs.declared.geo.Corner.{Corner}
use Rattle.sop_model.specs.declared.geo.Primitive.{Primitive}
use Rattle.sop_model.specs.Vertices.{size_of, corners_of}
use Rattle.sop_model.specs.Geometry.{rows_of}
use Rattle.geo_text.specs.declared.obj_writer.Parts.{Parts}
use Rattle.geo_text.specs.declared.reference.Named.{Named}
use Rattle.geo_text.specs.ObjLines.{is_filled}
use Rattle.geo_text.specs.ObjMeaning.{Piece, PointPiece, TexturePiece, NormalPiece, ShapePiece, GroupsPiece, NoPiece, place_of, texture_of, normal_of, shapes_under, geo_of, geo_from, attributes_of}
use Rattle.geo_text.specs.ObjText.{vector_head, vector_under, parts_of, same_flags, groups_of, no_flags}
use Rattle.geo_text.specs.ObjPieces.{place_written, vectors_under, named_written, prims_pieces, pieces_written}
use Rattle.geo_text.specs.Carried.{head_where, colour_carried, value_where, carried_point}
use Rattle.geo_text.specs.ObjTaking.{point_row, value_if}
use Rattle.geo_text.specs.declared.taker.Attributes.{Attributes}
use Rattle.sop_model.specs.declared.value.Value.TheVariants as value
use Rattle.sop_model.specs.Values.{zero_vector}
use Rattle.sop_model.specs.Places.{place_of as place_in}
use Rattle.geo_text.proofs.ObjShapesBack.{shapes_written, shapes_back}

-- ---- the pieces of one kind
taken_all : {A B : Type 0} (take : Piece → Option B) (piece : A → Piece) (value : A → B) (xs : List A) (rest : List Piece) → ((x : A) → take (piece x) ≡ Some (value x))
    → filter_map take (map piece xs ++ rest) ≡ map value xs ++ filter_map take rest
taken_all take piece value [] rest h = refl
taken_all take piece value (x ∷ xs) rest h = rw (h x) (ap (λ l. value x ∷ l) (taken_all take piece value xs rest h))

taken_none : {A B : Type 0} (take : Piece → Option B) (piece : A → Piece) (xs : List A) (rest : List Piece) → ((x : A) → take (piece x) ≡ None)
    → filter_map take (map piece xs ++ rest) ≡ filter_map take rest
taken_none take piece [] rest h = refl
taken_none take piece (x ∷ xs) rest h = rw (h x) (taken_none take piece xs rest h)

prims_none : {B : Type 0} (take : Piece → Option B) (g : Geo) (before : ℕ) (flags : List Bool) (prims : List Primitive) → ((closed : Bool) (corners : List Named) → take (ShapePiece closed corners) ≡ None)
    → ((names : List (List ℕ)) → take (GroupsPiece names) ≡ None) → take NoPiece ≡ None → filter_map take (prims_pieces g before flags prims ++ NoPiece ∷ []) ≡ []
prims_none take g before flags [] s n e = rw e refl
prims_none take g before flags (p ∷ prims) s n e =
    let rest = prims_none take g (before + size_of p) p.row.flags prims s n e in
    elim (cases_Bool (same_flags flags p.row.flags)) [
      | inl same ↦ rw same (rw (s p.closed (named_written (parts_of g p) before p.corners)) rest)
      | inr other ↦ rw other (rw (n (groups_of g p)) (rw (s p.closed (named_written (parts_of g p) before p.corners)) rest))
    ]

map_same : {A : Type 0} (xs : List A) → map (λ x. x) xs ≡ xs
map_same [] = refl
map_same (x ∷ xs) = ap (λ l. x ∷ l) (map_same xs)

abbrev blocks : Geo → List Piece
blocks g =
    map (λ row. PointPiece (place_written (vector_head g.point (codes "Cd")) row)) g.points
    ++ (map TexturePiece (vectors_under (vector_head g.vertex (codes "uv")) (rows_of g Vertex))
    ++ (map NormalPiece (vectors_under (vector_head g.vertex (codes "N")) (rows_of g Vertex)) ++ (prims_pieces g 0 (no_flags g) g.prims ++ NoPiece ∷ [])))

in_blocks : (g : Geo) → pieces_written g ++ NoPiece ∷ [] ≡ blocks g
in_blocks g = simp append_assoc

pub places_back : (g : Geo) → filter_map place_of (pieces_written g ++ NoPiece ∷ []) ≡ map (place_written (vector_head g.point (codes "Cd"))) g.points
places_back g =
    let colour = vector_head g.point (codes "Cd") in
    let textures = vectors_under (vector_head g.vertex (codes "uv")) (rows_of g Vertex) in
    let normals = vectors_under (vector_head g.vertex (codes "N")) (rows_of g Vertex) in
    let prims = prims_pieces g 0 (no_flags g) g.prims ++ NoPiece ∷ [] in
    ap (filter_map place_of) (in_blocks g)
    ∙ taken_all place_of (λ row. PointPiece (place_written colour row)) (place_written colour) g.points (map TexturePiece textures ++ (map NormalPiece normals ++ prims)) (λ row. refl)
    ∙ ap (λ l. map (place_written colour) g.points ++ l) (taken_none place_of TexturePiece textures (map NormalPiece normals ++ prims) (λ v. refl)
    ∙ taken_none place_of NormalPiece normals prims (λ v. refl) ∙ prims_none place_of g 0 (no_flags g) g.prims (λ c n. refl) (λ n. refl) refl)
    ∙ append-nil (map (place_written colour) g.points)

pub textures_back : (g : Geo) → filter_map texture_of (pieces_written g ++ NoPiece ∷ []) ≡ vectors_under (vector_head g.vertex (codes "uv")) (rows_of g Vertex)
textures_back g =
    let colour = vector_head g.point (codes "Cd") in
    let textures = vectors_under (vector_head g.vertex (codes "uv")) (rows_of g Vertex) in
    let normals = vectors_under (vector_head g.vertex (codes "N")) (rows_of g Vertex) in
    let prims = prims_pieces g 0 (no_flags g) g.prims ++ NoPiece ∷ [] in
    ap (filter_map texture_of) (in_blocks g)
    ∙ taken_none texture_of (λ row. PointPiece (place_written colour row)) g.points (map TexturePiece textures ++ (map NormalPiece normals ++ prims)) (λ row. refl)
    ∙ taken_all texture_of TexturePiece (λ v. v) textures (map NormalPiece normals ++ prims) (λ v. refl)
    ∙ ap (λ l. map (λ v. v) textures ++ l) (taken_none texture_of NormalPiece normals prims (λ v. refl) ∙ prims_none texture_of g 0 (no_flags g) g.prims (λ c n. refl) (λ n. refl) refl)
    ∙ append-nil (map (λ v. v) textures) ∙ map_same textures

pub normals_back : (g : Geo) → filter_map normal_of (pieces_written g ++ NoPiece ∷ []) ≡ vectors_under (vector_head g.vertex (codes "N")) (rows_of g Vertex)
normals_back g =
    let colour = vector_head g.point (codes "Cd") in
    let textures = vectors_under (vector_head g.vertex (codes "uv")) (rows_of g Vertex) in
    let normals = vectors_under (vector_head g.vertex (codes "N")) (rows_of g Vertex) in
    let prims = prims_pieces g 0 (no_flags g) g.prims ++ NoPiece ∷ [] in
    ap (filter_map normal_of) (in_blocks g)
    ∙ taken_none normal_of (λ row. PointPiece (place_written colour row)) g.points (map TexturePiece textures ++ (map NormalPiece normals ++ prims)) (λ row. refl)
    ∙ taken_none normal_of TexturePiece textures (map NormalPiece normals ++ prims) (λ v. refl)
    ∙ taken_all normal_of NormalPiece (λ v. v) normals prims (λ v. refl)
    ∙ ap (λ l. map (λ v. v) normals ++ l) (prims_none normal_of g 0 (no_flags g) g.prims (λ c n. refl) (λ n. refl) refl)
    ∙ append-nil (map (λ v. v) normals) ∙ map_same normals

-- ---- the geometry that they make
abbrev pub read_again : Geo → Geo
read_again g =
    geo_from (vectors_under (vector_head g.vertex (codes "uv")) (rows_of g Vertex)) (vectors_under (vector_head g.vertex (codes "N")) (rows_of g Vertex))
    (map (place_written (vector_head g.point (codes "Cd"))) g.points) (shapes_written g 0 g.prims)

pub geo_back : (g : Geo) → geo_of (pieces_written g ++ NoPiece ∷ []) ≡ read_again g
geo_back g =
    let pieces = pieces_written g ++ NoPiece ∷ [] in
    ap (λ t. geo_from t (filter_map normal_of pieces) (filter_map place_of pieces) (shapes_under [] pieces)) (textures_back g)
    ∙ ap (λ n. geo_from (vectors_under (vector_head g.vertex (codes "uv")) (rows_of g Vertex)) n (filter_map place_of pieces) (shapes_under [] pieces)) (normals_back g)
    ∙ ap (λ l. geo_from (vectors_under (vector_head g.vertex (codes "uv")) (rows_of g Vertex)) (vectors_under (vector_head g.vertex (codes "N")) (rows_of g Vertex)) l (shapes_under [] pieces)) (places_back g)
    ∙ ap (geo_from (vectors_under (vector_head g.vertex (codes "uv")) (rows_of g Vertex)) (vectors_under (vector_head g.vertex (codes "N")) (rows_of g Vertex)) (map (place_written (vector_head g.point (codes "Cd"))) g.points)) (shapes_back g)

-- ---- which attributes they have
colours_any : (colour : Option ℕ) (rows : List Row) → list_any (λ p. is_some p.colour) (map (place_written colour) rows) ≡ is_some (head_where (is_filled rows) colour)
colours_any colour [] = refl
colours_any None (row ∷ rows) = colours_none rows
  where
    colours_none : (rows : List Row) → list_any (λ p. is_some p.colour) (map (place_written None) rows) ≡ false
    colours_none [] = refl
    colours_none (row ∷ rows) = colours_none rows
colours_any (Some head) (row ∷ rows) = refl

pub colour_back : (g : Geo) → list_any (λ p. is_some p.colour) (map (place_written (vector_head g.point (codes "Cd"))) g.points) ≡ is_some (colour_carried g)
colour_back g = colours_any (vector_head g.point (codes "Cd")) g.points

filled_append : {A : Type 0} (a b : List A) → is_filled (a ++ b) ≡ (is_filled a || is_filled b)
filled_append [] b = refl
filled_append (x ∷ a) b = refl

and_false : (b : Bool) → (b && false) ≡ false
and_false true = refl
and_false false = refl

both_or : (t a b : Bool) → ((t && a) || (t && b)) ≡ (t && (a || b))
both_or true a b = refl
both_or false a b = refl

where_filled : (f : Bool) (head : Option ℕ) → (is_some head && f) ≡ is_some (head_where f head)
where_filled true None = refl
where_filled true (Some head) = refl
where_filled false None = refl
where_filled false (Some head) = refl

named_textures : (parts : Parts) (before : ℕ) (corners : List Corner) (b : Bool) → parts.texture ≡ b → list_any (λ c. is_some c.texture) (named_written parts before corners) ≡ (b && is_filled corners)
named_textures parts before [] b h = sym (and_false b)
named_textures parts before (c ∷ corners) true h = rw h refl
named_textures parts before (c ∷ corners) false h = rw h (named_textures parts (before + 1) corners false h)

named_normals : (parts : Parts) (before : ℕ) (corners : List Corner) (b : Bool) → parts.normal ≡ b → list_any (λ c. is_some c.normal) (named_written parts before corners) ≡ (b && is_filled corners)
named_normals parts before [] b h = sym (and_false b)
named_normals parts before (c ∷ corners) true h = rw h refl
named_normals parts before (c ∷ corners) false h = rw h (named_normals parts (before + 1) corners false h)

textures_any : (g : Geo) (before : ℕ) (prims : List Primitive)
    → list_any (λ s. list_any (λ c. is_some c.texture) s.corners) (shapes_written g before prims) ≡ (is_some (vector_head g.vertex (codes "uv")) && is_filled (corners_of prims))
textures_any g before [] = sym (and_false (is_some (vector_head g.vertex (codes "uv"))))
textures_any g before (p ∷ prims) =
    let b = is_some (vector_head g.vertex (codes "uv")) in
    ap (λ x. x || list_any (λ s. list_any (λ c. is_some c.texture) s.corners) (shapes_written g (before + size_of p) prims)) (named_textures (parts_of g p) before p.corners b refl)
    ∙ ap (λ x. (b && is_filled p.corners) || x) (textures_any g (before + size_of p) prims)
    ∙ both_or b (is_filled p.corners) (is_filled (corners_of prims))
    ∙ ap (λ x. b && x) (sym (filled_append p.corners (corners_of prims)))

some_filled : {A : Type 0} (xs : List A) → 0 < length xs → is_filled xs ≡ true
some_filled [] h = absurd (omega (arith, h))
some_filled (x ∷ xs) h = refl

closed_filled : (n c f : Bool) → f ≡ true → ((n && c) && f) ≡ (n && c)
closed_filled true true f h = h
closed_filled true false f h = refl
closed_filled false c f h = refl

normals_any : (g : Geo) (before : ℕ) (prims : List Primitive) → All (λ p. 0 < size_of p) prims
    → list_any (λ s. list_any (λ c. is_some c.normal) s.corners) (shapes_written g before prims) ≡ (is_some (vector_head g.vertex (codes "N")) && list_any (λ p. p.closed) prims)
normals_any g before [] all = sym (and_false (is_some (vector_head g.vertex (codes "N"))))
normals_any g before (p ∷ prims) all =
    let b = is_some (vector_head g.vertex (codes "N")) in
    ap (λ x. x || list_any (λ s. list_any (λ c. is_some c.normal) s.corners) (shapes_written g (before + size_of p) prims))
    (named_normals (parts_of g p) before p.corners (b && p.closed) refl ∙ closed_filled b p.closed (is_filled p.corners) (some_filled p.corners (All-head (λ p. 0 < size_of p) p prims all)))
    ∙ ap (λ x. (b && p.closed) || x) (normals_any g (before + size_of p) prims (All-tail (λ p. 0 < size_of p) p prims all))
    ∙ both_or b p.closed (list_any (λ p. p.closed) prims)

pub texture_back : (g : Geo) → list_any (λ s. list_any (λ c. is_some c.texture) s.corners) (shapes_written g 0 g.prims) ≡ is_some (head_where (is_filled (corners_of g.prims)) (vector_head g.vertex (codes "uv")))
texture_back g = textures_any g 0 g.prims ∙ where_filled (is_filled (corners_of g.prims)) (vector_head g.vertex (codes "uv"))

pub normal_back : (g : Geo) → All (λ p. 0 < size_of p) g.prims → list_any (λ s. list_any (λ c. is_some c.normal) s.corners) (shapes_written g 0 g.prims) ≡ is_some (head_where (list_any (λ p. p.closed) g.prims) (vector_head g.vertex (codes "N")))
normal_back g all = normals_any g 0 g.prims all ∙ where_filled (list_any (λ p. p.closed) g.prims) (vector_head g.vertex (codes "N"))

-- the attributes that the text carries
abbrev pub has_carried : Geo → Attributes
has_carried g = record {
  colour = is_some (colour_carried g);
  texture = is_some (head_where (is_filled (corners_of g.prims)) (vector_head g.vertex (codes "uv")));
  normal = is_some (head_where (list_any (λ p. p.closed) g.prims) (vector_head g.vertex (codes "N")));
}

same_attributes : (a b : Attributes) → a.colour ≡ b.colour → a.texture ≡ b.texture → a.normal ≡ b.normal → a ≡ b
same_attributes a b c t n =
    ap (λ x. record { colour = x; texture = a.texture; normal = a.normal }) c ∙ ap (λ x. record { colour = b.colour; texture = x; normal = a.normal }) t
    ∙ ap (λ x. record { colour = b.colour; texture = b.texture; normal = x }) n

pub attributes_back : (g : Geo) → All (λ p. 0 < size_of p) g.prims → attributes_of (map (place_written (vector_head g.point (codes "Cd"))) g.points) (shapes_written g 0 g.prims) ≡ has_carried g
attributes_back g all =
    same_attributes (attributes_of (map (place_written (vector_head g.point (codes "Cd"))) g.points) (shapes_written g 0 g.prims)) (has_carried g) (colour_back g) (texture_back g) (normal_back g all)

-- ---- points
colour_kept : (colour : Option ℕ) (row : Row) → value_if (is_some colour) (unwrap_or (option_map (λ head. vector_under head row) colour) zero_vector) ≡ value_where colour row
colour_kept None row = refl
colour_kept (Some head) row = refl

rows_back : (has : Attributes) (colour : Option ℕ) (rows : List Row) → has.colour ≡ is_some colour
    → map (λ p. point_row has p.at p.colour) (map (place_written colour) rows) ≡ map (λ row. record { values = value.Vector (place_in row) ∷ value_where colour row; flags = [] }) rows
rows_back has colour [] h = refl
rows_back has colour (row ∷ rows) h =
    ap (λ b. record { values = value.Vector (place_in row) ∷ value_if b (unwrap_or (option_map (λ head. vector_under head row) colour) zero_vector); flags = [] } ∷ map (λ p. point_row has p.at p.colour) (map (place_written colour) rows)) h
    ∙ ap (λ v. record { values = value.Vector (place_in row) ∷ v; flags = [] } ∷ map (λ p. point_row has p.at p.colour) (map (place_written colour) rows)) (colour_kept colour row)
    ∙ ap (λ l. record { values = value.Vector (place_in row) ∷ value_where colour row; flags = [] } ∷ l) (rows_back has colour rows h)

points_kept : (has : Attributes) (colour : Option ℕ) (rows : List Row) → has.colour ≡ is_some (head_where (is_filled rows) colour)
    → map (λ p. point_row has p.at p.colour) (map (place_written colour) rows) ≡ map (λ row. record { values = value.Vector (place_in row) ∷ value_where (head_where (is_filled rows) colour) row; flags = [] }) rows
points_kept has colour [] h = refl
points_kept has colour (row ∷ rows) h = rows_back has colour (row ∷ rows) h

pub points_back : (g : Geo) → map (λ p. point_row (has_carried g) p.at p.colour) (map (place_written (vector_head g.point (codes "Cd"))) g.points) ≡ map (carried_point g) g.points
points_back g = points_kept (has_carried g) (vector_head g.point (codes "Cd")) g.points refl
