-- The primitives of a text that is written are those that it carries.
use Rattle.std.proofs.Common.{◌≡◌, ℕ, zero, suc, ◌+◌, ◌≤◌, List, [], ◌∷◌, ◌++◌, length, map, append_assoc, length-append, refl, sym, ap, ◌∙◌, arith, Option, Some, None, Bool, true, false, Ok}
use Rattle.std.specs.Prelude.{◌||◌, ◌&&◌, unwrap_or, option_map, take, is_some, slice_get, codes}
use Rattle.std.specs.List.{list_any, flat_map}
use Rattle.std.proofs.lemmas.List.{take_all}
use Rattle.std.proofs.lemmas.Option.{slice_get-map}
use Rattle.sop_fixed.specs.declared.vec3.Vec3.{Vec3}
use Rattle.sop_model.specs.declared.class.Class.TheVariants.{Vertex}
use Rattle.sop_model.specs.declared.geo.Geo.{Geo}
use Rattle.sop_model.specs.declared.geo.Row.{Row}
use Rattle.sop_model.specs.declared.geo.Corner.{Corner}
use Rattle.sop_model.specs.declared.geo.Primitive.{Primitive}
use Rattle.sop_model.specs.declared.value.Value.TheVariants as value
use Rattle.sop_model.specs.Limits.{most_groups}
use Rattle.sop_model.specs.Values.{zero_vector}
use Rattle.sop_model.specs.Vertices.{size_of, corners_of}
use Rattle.sop_model.specs.Merge.{first_names}
use Rattle.sop_model.specs.Geometry.{IsGood, Fits, rows_of}
use Rattle.geo_text.specs.declared.taker.Attributes.{Attributes}
use Rattle.geo_text.specs.ObjLines.{is_filled}
use Rattle.geo_text.specs.ObjTaking.{value_if, point_row, begun, vertex_taken}
use Rattle.geo_text.specs.ObjMeaning.{vector_at, vertex_of, prim_of, group_names, meaning}
use Rattle.geo_text.specs.ObjText.{vector_head, vector_under, parts_of, groups_of, text_of}
use Rattle.geo_text.specs.ObjPieces.{place_written, vectors_under, number_if, named_written}
use Rattle.geo_text.specs.ObjRange.{AreReal}
use Rattle.geo_text.specs.Carried.{head_where, value_where, normal_where, texture_carried, normal_carried, carried_corner, carried_prim, carried_point, used_groups, carried}
use Rattle.geo_text.proofs.ObjShapesBack.{shapes_written}
use Rattle.geo_text.proofs.ObjBack.{has_carried, attributes_back, points_back, read_again, geo_back}
use Rattle.geo_text.proofs.ObjUnrefused.{text_read}
use Rattle.geo_text.proofs.ObjPigeon.{used_few}

at_front : {A : Type 0} (front : List A) (x : A) (back : List A) (k : ℕ) → length front ≡ k → slice_get (front ++ x ∷ back) k ≡ Some x
at_front [] x back zero h = refl
at_front [] x back (suc k) h = absurd (omega (arith, h))
at_front (y ∷ front) x back zero h = absurd (omega (arith, h))
at_front (y ∷ front) x back (suc k) h = at_front front x back k (omega (arith, h))

vector_got : (head : ℕ) (rows : List Row) (k : ℕ) (row : Row) → slice_get rows k ≡ Some row → vector_at (map (vector_under head) rows) (Some k) ≡ vector_under head row
vector_got head rows k row h =
    ap (λ o. unwrap_or o zero_vector) (slice_get-map (vector_under head) rows k ∙ ap (option_map (vector_under head)) h)

texture_value : (uv : Option ℕ) (filled : Bool) (rows : List Row) (k : ℕ) (row : Row) → filled ≡ true → slice_get rows k ≡ Some row
    → value_if (is_some (head_where filled uv)) (vector_at (vectors_under uv rows) (number_if (is_some uv) k)) ≡ value_where (head_where filled uv) row
texture_value None true rows k row f h = refl
texture_value (Some head) true rows k row f h = ap (λ v. value.Vector v ∷ []) (vector_got head rows k row h)
texture_value uv false rows k row f h = cc

normal_value : (n : Option ℕ) (any closed : Bool) (rows : List Row) (k : ℕ) (row : Row) → (closed ≡ true → any ≡ true) → slice_get rows k ≡ Some row
    → value_if (is_some (head_where any n)) (vector_at (vectors_under n rows) (number_if (is_some n && closed) k)) ≡ normal_where (head_where any n) closed row
normal_value None true closed rows k row c h = refl
normal_value None false closed rows k row c h = refl
normal_value (Some head) true true rows k row c h = ap (λ v. value.Vector v ∷ []) (vector_got head rows k row h)
normal_value (Some head) true false rows k row c h = refl
normal_value (Some head) false closed rows k row c h = refl

filled_at : {A : Type 0} (xs : List A) (k : ℕ) (x : A) → slice_get xs k ≡ Some x → is_filled xs ≡ true
filled_at [] k x h = cc
filled_at (y ∷ xs) k x h = refl

abbrev textures_of : Geo → List Vec3
textures_of g = vectors_under (vector_head g.vertex (codes "uv")) (rows_of g Vertex)

abbrev normals_of : Geo → List Vec3
normals_of g = vectors_under (vector_head g.vertex (codes "N")) (rows_of g Vertex)

row_at : (g : Geo) (k : ℕ) (c : Corner) → slice_get (corners_of g.prims) k ≡ Some c → slice_get (rows_of g Vertex) k ≡ Some c.row
row_at g k c h = slice_get-map (λ (c : Corner). c.row) (corners_of g.prims) k ∙ ap (option_map (λ (c : Corner). c.row)) h

corner_back : (g : Geo) (p : Primitive) (k : ℕ) (c : Corner) → (p.closed ≡ true → list_any (λ p. p.closed) g.prims ≡ true) → slice_get (corners_of g.prims) k ≡ Some c
    → vertex_taken (has_carried g) (vertex_of (textures_of g) (normals_of g) (record { point = c.point; texture = number_if (parts_of g p).texture k; normal = number_if (parts_of g p).normal k })) ≡ carried_corner g p.closed c
corner_back g p k c closed h =
    let uv = vector_head g.vertex (codes "uv") in
    let n = vector_head g.vertex (codes "N") in
    let at = row_at g k c h in
    ap (λ values. record { point = c.point; row = record { values = values ++ value_if (is_some (normal_carried g)) (vector_at (normals_of g) (number_if (is_some n && p.closed) k)); flags = [] } })
    (texture_value uv (is_filled (corners_of g.prims)) (rows_of g Vertex) k c.row (filled_at (corners_of g.prims) k c h) at)
    ∙ ap (λ values. record { point = c.point; row = record { values = value_where (texture_carried g) c.row ++ values; flags = [] } })
    (normal_value n (list_any (λ p. p.closed) g.prims) p.closed (rows_of g Vertex) k c.row closed at)

corners_back : (g : Geo) (p : Primitive) (front corners back : List Corner) (before : ℕ) → (p.closed ≡ true → list_any (λ p. p.closed) g.prims ≡ true) → length front ≡ before → front ++ (corners ++ back) ≡ corners_of g.prims
    → map (vertex_taken (has_carried g)) (map (vertex_of (textures_of g) (normals_of g)) (named_written (parts_of g p) before corners)) ≡ map (carried_corner g p.closed) corners
corners_back g p front [] back before closed l e = refl
corners_back g p front (c ∷ corners) back before closed l e =
    let got = ap (λ cs. slice_get cs before) (sym e) ∙ at_front front c (corners ++ back) before l in
    let long : length (front ++ c ∷ []) ≡ before + 1 = length-append front (c ∷ []) ∙ omega (arith, l) in
    let next = append_assoc front (c ∷ []) (corners ++ back) ∙ e in
    ap (λ x. x ∷ map (vertex_taken (has_carried g)) (map (vertex_of (textures_of g) (normals_of g)) (named_written (parts_of g p) (before + 1) corners))) (corner_back g p before c closed got)
    ∙ ap (λ l. carried_corner g p.closed c ∷ l) (corners_back g p (front ++ c ∷ []) corners back (before + 1) closed long next)

or_right : (a b : Bool) → b ≡ true → (a || b) ≡ true
or_right true b h = refl
or_right false b h = h

or_left : (a b : Bool) → a ≡ true → (a || b) ≡ true
or_left true b h = refl
or_left false b h = cc

abbrev carried_with : Geo → Primitive → List Corner → Primitive
carried_with g p cs = record (carried_prim g p) { corners = cs }

prims_kept : (g : Geo) (front : List Corner) (before : ℕ) (prims : List Primitive) → (list_any (λ p. p.closed) prims ≡ true → list_any (λ p. p.closed) g.prims ≡ true) → length front ≡ before
    → front ++ corners_of prims ≡ corners_of g.prims → map (prim_of (has_carried g) (textures_of g) (normals_of g) (used_groups g)) (shapes_written g before prims) ≡ map (carried_prim g) prims
prims_kept g front before [] closed l e = refl
prims_kept g front before (p ∷ prims) closed l e =
    let rest = list_any (λ p. p.closed) prims in
    let long : length (front ++ p.corners) ≡ before + size_of p = length-append front p.corners ∙ omega (arith, l) in
    let next = append_assoc front p.corners (corners_of prims) ∙ e in
    ap (λ cs. carried_with g p cs ∷ map (prim_of (has_carried g) (textures_of g) (normals_of g) (used_groups g)) (shapes_written g (before + size_of p) prims))
    (corners_back g p front p.corners (corners_of prims) before (λ c. closed (or_left p.closed rest c)) l e)
    ∙ ap (λ l. carried_prim g p ∷ l) (prims_kept g (front ++ p.corners) (before + size_of p) prims (λ c. closed (or_right p.closed rest c)) long next)

groups_written : (g : Geo) (before : ℕ) (prims : List Primitive) → flat_map (λ s. s.groups) (shapes_written g before prims) ≡ flat_map (groups_of g) prims
groups_written g before [] = refl
groups_written g before (p ∷ prims) = ap (λ l. groups_of g p ++ l) (groups_written g (before + size_of p) prims)

names_back : (g : Geo) → length (used_groups g) ≤ most_groups → group_names (shapes_written g 0 g.prims) ≡ used_groups g
names_back g few = ap (λ names. take most_groups (first_names names)) (groups_written g 0 g.prims) ∙ take_all most_groups (used_groups g) few

abbrev geo_with : Geo → Attributes → List (List ℕ) → Geo
geo_with g has names = record (begun has) {
  prim = record { heads = []; groups = names };
  points = map (λ p. point_row has p.at p.colour) (map (place_written (vector_head g.point (codes "Cd"))) g.points);
  prims = map (prim_of has (textures_of g) (normals_of g) names) (shapes_written g 0 g.prims);
}

abbrev rows_with : Geo → List Row → List Primitive → Geo
rows_with g rows prims = record (carried g) { points = rows; prims = prims }

again_carried : (g : Geo) → IsGood g → length (used_groups g) ≤ most_groups → read_again g ≡ carried g
again_carried g good few =
    let has = has_carried g in
    ap (λ h. geo_with g h (group_names (shapes_written g 0 g.prims))) (attributes_back g good.corners)
    ∙ ap (geo_with g has) (names_back g few)
    ∙ ap (λ rows. rows_with g rows (map (prim_of has (textures_of g) (normals_of g) (used_groups g)) (shapes_written g 0 g.prims))) (points_back g)
    ∙ ap (rows_with g (map (carried_point g) g.points)) (prims_kept g [] 0 g.prims (λ h. h) refl refl)

-- the text of a geometry means what it carries, where it uses as many groups as a class may have
pub round_trip_few : (g : Geo) → IsGood g → Fits g → AreReal g → length (used_groups g) ≤ most_groups → meaning (text_of g) ≡ Ok (carried g)
round_trip_few g good f real few = text_read g good f real ∙ ap Ok (geo_back g ∙ again_carried g good few)

-- the text of a geometry means what it carries
pub round_trip : (g : Geo) → IsGood g → Fits g → AreReal g → meaning (text_of g) ≡ Ok (carried g)
round_trip g good f real = round_trip_few g good f real (used_few g f)
