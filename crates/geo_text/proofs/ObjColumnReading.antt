-- Geometries in columns: what is read of them.
use Rattle.std.proofs.Common.{◌≡◌, ℕ, zero, suc, ◌+◌, ◌-◌, ◌<◌, ◌≤◌, List, [], ◌∷◌, ◌++◌, length, map, take, get_or, Bool, true, false, replicate, refl, sym, ap, subst, ◌∙◌, arith, inl, inr, Some}
use Rattle.std.specs.Prelude.{◌⊎◌, All, sum_by, slice_get, unwrap_or, IsTrue, codes, ◌==◌, ◌&&◌}
use Rattle.std.specs.List.{range_with_len}
use Rattle.std.specs.Option.{option_map, option_and_then}
use Rattle.std.proofs.lemmas.Bool.{and_parts}
use Rattle.std.proofs.lemmas.Bool.Decides.{nat_tests}
use Rattle.std.proofs.lemmas.List.{length-map, get_or_default, take-take}
use Rattle.std.proofs.lemmas.List.Sums.{sum_by-take-le}
use Rattle.std.proofs.lemmas.List.Elements.{All-nil, All-get_or}
use Rattle.std.proofs.lemmas.List.FromFn.{length-map-range_with_len}
use Rattle.std.proofs.lemmas.Option.{slice_get-map, get_or_from_slice_get, slice_get_read}
use Rattle.sop_fixed.specs.declared.vec3.Vec3.{Vec3}
use Rattle.sop_model.specs.declared.class.Class.{Class}
use Rattle.sop_model.specs.declared.class.Class.TheVariants.{Detail, Prim, Point, Vertex}
use Rattle.sop_model.specs.declared.geo.Geo.{Geo}
use Rattle.sop_model.specs.declared.geo.Row.{Row}
use Rattle.sop_model.specs.declared.value.Value.TheVariants as value
use Rattle.sop_model.specs.Values.{zero_vector}
use Rattle.sop_model.specs.Vertices.{corners_of, ends_of, first_vertex_in, size_of}
use Rattle.sop_model.specs.Limits.{most_heads, most_groups}
use Rattle.sop_model.specs.Geometry.{heads_of, rows_of, count_of, value_at, flag_at, position_head, IsNamed, IsRowOf, IsSound, IsWithin, IsReadable}
use Rattle.sop_model.proofs.VerticesLemmas.{length-ends_of, get_or-ends_of}
use Rattle.sop_model.proofs.LimitsLemmas.{IsWithin-from, within_heads, within_groups}
use Rattle.geo_text.specs.declared.columns.Outline.{Outline}
use Rattle.geo_text.specs.ObjTaking.{value_if, head_if}
use Rattle.geo_text.specs.ObjColumns.{ColumnLists, point_in, corner_in, outlined_prim, columns_geo, last_end, AreComplete, frame_of}
use Rattle.geo_text.proofs.ObjColumnLists.{slice_get-map-range, ends_of-outlined_prims, corners_of-outlined_prims, outlined_prims-get}

-- THE FRAME

without_elements : Geo → Geo
without_elements g = record g { points = []; prims = [] }

named_left : (g : Geo) → IsSound g → (class : Class) → IsNamed (heads_of (without_elements g) class)
unfolding without_elements
named_left g sound Detail = sound.named Detail
named_left g sound Prim = sound.named Prim
named_left g sound Point = sound.named Point
named_left g sound Vertex = sound.named Vertex

rows_left : (g : Geo) → IsSound g → (class : Class) → All (IsRowOf (heads_of (without_elements g) class)) (rows_of (without_elements g) class)
unfolding without_elements
rows_left g sound Detail = sound.rows Detail
rows_left g sound Prim = All-nil (IsRowOf g.prim)
rows_left g sound Point = All-nil (IsRowOf g.point)
rows_left g sound Vertex = All-nil (IsRowOf g.vertex)

sound_left : (g : Geo) → IsSound g → IsSound (without_elements g)
unfolding without_elements
sound_left g sound = record {
  detail_groups = sound.detail_groups;
  named = named_left g sound;
  rows = rows_left g sound;
  position = sound.position;
  points = All-nil (λ c. c.point < 0);
}

heads_few : (g : Geo) → IsWithin g → (class : Class) → length (heads_of (without_elements g) class).heads ≤ most_heads
unfolding without_elements
heads_few g within Detail = within_heads within Detail
heads_few g within Prim = within_heads within Prim
heads_few g within Point = within_heads within Point
heads_few g within Vertex = within_heads within Vertex

groups_few : (g : Geo) → IsWithin g → (class : Class) → length (heads_of (without_elements g) class).groups ≤ most_groups
unfolding without_elements
groups_few g within Detail = within_groups within Detail
groups_few g within Prim = within_groups within Prim
groups_few g within Point = within_groups within Point
groups_few g within Vertex = within_groups within Vertex

within_left : (g : Geo) → IsWithin g → IsWithin (without_elements g)
unfolding without_elements
within_left g within = IsWithin-from (without_elements g) (omega arith) (omega arith) (omega arith) (heads_few g within) (groups_few g within)

frame_left : (c : ColumnLists) → AreComplete c → c.frame ≡ without_elements (columns_geo c)
unfolding without_elements
frame_left c filled = filled.frame ∙ ap without_elements (sym filled.frame)

pub readable_frame : (c : ColumnLists) → AreComplete c → IsReadable (columns_geo c) → IsReadable c.frame
readable_frame c filled readable =
    subst IsReadable (sym (frame_left c filled)) (record { sound = sound_left (columns_geo c) readable.sound; within = within_left (columns_geo c) readable.within })

pub heads_same : (c : ColumnLists) (class : Class) → heads_of c.frame class ≡ heads_of (columns_geo c) class
heads_same c Detail = refl
heads_same c Prim = refl
heads_same c Point = refl
heads_same c Vertex = refl

-- COUNTS

pub point_count : (c : ColumnLists) → count_of (columns_geo c) Point ≡ length c.places
point_count c = length-map-range_with_len (point_in c.attributes c.places c.colours) 0 (length c.places)

pub ends_are : (c : ColumnLists) → AreComplete c → c.ends ≡ ends_of 0 (columns_geo c).prims
ends_are c filled = sym (ends_of-outlined_prims (corner_in c.attributes c.refers c.textures c.normals) (length c.frame.prim.groups) 0 c.ends c.outlines filled.rise filled.outlines)

pub prims_long : (c : ColumnLists) → AreComplete c → length (columns_geo c).prims ≡ length c.ends
prims_long c filled = sym (ap length (ends_are c filled) ∙ length-ends_of 0 (columns_geo c).prims)

pub prim_count : (c : ColumnLists) → AreComplete c → count_of (columns_geo c) Prim ≡ length c.ends
prim_count c filled = length-map (columns_geo c).prims (λ p. p.row) ∙ prims_long c filled

pub corners_are : (c : ColumnLists) → AreComplete c → corners_of (columns_geo c).prims ≡ map (corner_in c.attributes c.refers c.textures c.normals) (range_with_len 0 (last_end 0 c.ends))
corners_are c filled =
    let corner = corner_in c.attributes c.refers c.textures c.normals in
    let size : last_end 0 c.ends - 0 ≡ last_end 0 c.ends = omega arith in
    corners_of-outlined_prims corner (length c.frame.prim.groups) 0 c.ends c.outlines filled.rise filled.outlines ∙ ap (λ n. map corner (range_with_len 0 n)) size

pub corners_long : (c : ColumnLists) → AreComplete c → length (corners_of (columns_geo c).prims) ≡ last_end 0 c.ends
corners_long c filled = ap length (corners_are c filled) ∙ length-map-range_with_len (corner_in c.attributes c.refers c.textures c.normals) 0 (last_end 0 c.ends)

pub vertex_total : (c : ColumnLists) → AreComplete c → count_of (columns_geo c) Vertex ≡ last_end 0 c.ends
vertex_total c filled = length-map (corners_of (columns_geo c).prims) (λ k. k.row) ∙ corners_long c filled

-- VALUES

read_as : {A : Type 0} (xs : List A) (i : ℕ) (x d : A) → i < length xs → x ≡ get_or xs i x → get_or xs i d ≡ x
read_as xs i x d lt read = get_or_from_slice_get xs i x d (slice_get_read xs (length xs) i x refl lt read)

point_at : (c : ColumnLists) (i : ℕ) → i < length c.places → slice_get (columns_geo c).points i ≡ Some (point_in c.attributes c.places c.colours i)
point_at c i lt =
    let at : 0 + i ≡ i = omega arith in
    slice_get-map-range (point_in c.attributes c.places c.colours) 0 (length c.places) i lt ∙ ap (λ k. Some (point_in c.attributes c.places c.colours k)) at

vertex_at : (c : ColumnLists) (i : ℕ) → AreComplete c → i < last_end 0 c.ends → slice_get (corners_of (columns_geo c).prims) i ≡ Some (corner_in c.attributes c.refers c.textures c.normals i)
vertex_at c i filled lt =
    let corner = corner_in c.attributes c.refers c.textures c.normals in
    let at : 0 + i ≡ i = omega arith in
    ap (λ l. slice_get l i) (corners_are c filled) ∙ slice_get-map-range corner 0 (last_end 0 c.ends) i lt ∙ ap (λ k. Some (corner k)) at

-- the values of a row
first_value : (b : Bool) (v w : Vec3) (head : ℕ) → head ≡ 0 → slice_get (value.Vector v ∷ value_if b w) head ≡ Some (value.Vector v)
first_value b v w head at = ap (slice_get (value.Vector v ∷ value_if b w)) at

second_value : (b : Bool) (v w : Vec3) (head : ℕ) → head < length (position_head ∷ head_if b (codes "Cd")) → (head ≡ 0 → ⊥) → (b ≡ true) × (slice_get (value.Vector v ∷ value_if b w) head ≡ Some (value.Vector w))
second_value true v w zero lt not_first = absurd (not_first refl)
second_value true v w (suc zero) lt not_first = (refl, refl)
second_value true v w (suc (suc head)) lt not_first = absurd (omega arith)
second_value false v w zero lt not_first = absurd (not_first refl)
second_value false v w (suc head) lt not_first = absurd (omega arith)

-- the texture coordinate of a vertex
texture_value : (b d : Bool) (v w : Vec3) (head : ℕ) → IsTrue b → head ≡ 0 → slice_get (value_if b v ++ value_if d w) head ≡ Some (value.Vector v)
texture_value true d v w zero has first = refl
texture_value true d v w (suc head) has first = absurd (omega arith)
texture_value false d v w head has first = absurd (cc)

texture_parts : (b : Bool) (head : ℕ) → IsTrue (b && (head == 0)) → IsTrue b × (head ≡ 0)
texture_parts b head both =
    let parts = and_parts b (head == 0) both in
    let first = parts.1 in
    (parts.0, grind (arith, nat_tests))

-- its normal
normal_value : (b d : Bool) (v w : Vec3) (head : ℕ) → head < length (head_if b (codes "uv") ++ head_if d (codes "N")) → (b && (head == 0)) ≡ false
    → (d ≡ true) × (slice_get (value_if b v ++ value_if d w) head ≡ Some (value.Vector w))
normal_value true true v w zero lt other = absurd (cc)
normal_value true true v w (suc zero) lt other = (refl, refl)
normal_value true true v w (suc (suc head)) lt other = absurd (omega arith)
normal_value true false v w zero lt other = absurd (cc)
normal_value true false v w (suc head) lt other = absurd (omega arith)
normal_value false true v w zero lt other = (refl, refl)
normal_value false true v w (suc head) lt other = absurd (omega arith)
normal_value false false v w head lt other = absurd (omega arith)

pub place_read : (c : ColumnLists) (head i : ℕ) (v : Vec3) → i < length c.places → head ≡ 0 → v ≡ get_or c.places i v → value_at (columns_geo c) Point head i ≡ Some (value.Vector v)
place_read c head i v lt at read =
    ap (option_and_then (λ (row : Row). slice_get row.values head)) (point_at c i lt)
    ∙ first_value c.attributes.colour (get_or c.places i zero_vector) (get_or c.colours i zero_vector) head at
    ∙ ap (λ x. Some (value.Vector x)) (read_as c.places i v zero_vector lt read)

point_heads : (c : ColumnLists) (head : ℕ) → AreComplete c → head < length (heads_of (columns_geo c) Point).heads → head < length (position_head ∷ head_if c.attributes.colour (codes "Cd"))
point_heads c head filled lt = subst (λ (f : Geo). head < length f.point.heads) filled.frame lt

vertex_heads : (c : ColumnLists) (head : ℕ) → AreComplete c → head < length (heads_of (columns_geo c) Vertex).heads
    → head < length (head_if c.attributes.texture (codes "uv") ++ head_if c.attributes.normal (codes "N"))
vertex_heads c head filled lt = subst (λ (f : Geo). head < length f.vertex.heads) filled.frame lt

pub colour_there : (c : ColumnLists) (head i : ℕ) → AreComplete c → head < length (heads_of (columns_geo c) Point).heads → (head ≡ 0 → ⊥) → i < length c.places → i < length c.colours
colour_there c head i filled few other lt =
    let has = (second_value c.attributes.colour zero_vector zero_vector head (point_heads c head filled few) other).0 in
    omega (arith, lt, filled.colours has)

pub colour_read : (c : ColumnLists) (head i : ℕ) (v : Vec3) → AreComplete c → head < length (heads_of (columns_geo c) Point).heads → (head ≡ 0 → ⊥) → i < length c.places → v ≡ get_or c.colours i v
    → value_at (columns_geo c) Point head i ≡ Some (value.Vector v)
colour_read c head i v filled few other lt read =
    let there = colour_there c head i filled few other lt in
    ap (option_and_then (λ (row : Row). slice_get row.values head)) (point_at c i lt)
    ∙ (second_value c.attributes.colour (get_or c.places i zero_vector) (get_or c.colours i zero_vector) head (point_heads c head filled few) other).1
    ∙ ap (λ x. Some (value.Vector x)) (read_as c.colours i v zero_vector there read)

vertex_values : (c : ColumnLists) (head i : ℕ) → AreComplete c → i < last_end 0 c.ends
    → value_at (columns_geo c) Vertex head i ≡ slice_get (value_if c.attributes.texture (get_or c.textures i zero_vector) ++ value_if c.attributes.normal (get_or c.normals i zero_vector)) head
vertex_values c head i filled lt =
    ap (option_and_then (λ (row : Row). slice_get row.values head))
    (slice_get-map (λ k. k.row) (corners_of (columns_geo c).prims) i ∙ ap (option_map (λ k. k.row)) (vertex_at c i filled lt))

pub texture_there : (c : ColumnLists) (head i : ℕ) → AreComplete c → i < last_end 0 c.ends → IsTrue (c.attributes.texture && (head == 0)) → i < length c.textures
texture_there c head i filled lt first = omega (arith, lt, filled.textures (texture_parts c.attributes.texture head first).0)

pub texture_read : (c : ColumnLists) (head i : ℕ) (v : Vec3) → AreComplete c → i < last_end 0 c.ends → IsTrue (c.attributes.texture && (head == 0)) → v ≡ get_or c.textures i v
    → value_at (columns_geo c) Vertex head i ≡ Some (value.Vector v)
texture_read c head i v filled lt first read =
    let there = texture_there c head i filled lt first in
    let parts = texture_parts c.attributes.texture head first in
    vertex_values c head i filled lt
    ∙ texture_value c.attributes.texture c.attributes.normal (get_or c.textures i zero_vector) (get_or c.normals i zero_vector) head parts.0 parts.1
    ∙ ap (λ x. Some (value.Vector x)) (read_as c.textures i v zero_vector there read)

pub normal_there : (c : ColumnLists) (head i : ℕ) → AreComplete c → head < length (heads_of (columns_geo c) Vertex).heads → i < last_end 0 c.ends → (c.attributes.texture && (head == 0)) ≡ false → i < length c.normals
normal_there c head i filled few lt other =
    let has = (normal_value c.attributes.texture c.attributes.normal zero_vector zero_vector head (vertex_heads c head filled few) other).0 in
    omega (arith, lt, filled.normals has)

pub normal_read : (c : ColumnLists) (head i : ℕ) (v : Vec3) → AreComplete c → head < length (heads_of (columns_geo c) Vertex).heads → i < last_end 0 c.ends → (c.attributes.texture && (head == 0)) ≡ false → v ≡ get_or c.normals i v
    → value_at (columns_geo c) Vertex head i ≡ Some (value.Vector v)
normal_read c head i v filled few lt other read =
    let there = normal_there c head i filled few lt other in
    vertex_values c head i filled lt
    ∙ (normal_value c.attributes.texture c.attributes.normal (get_or c.textures i zero_vector) (get_or c.normals i zero_vector) head (vertex_heads c head filled few) other).1
    ∙ ap (λ x. Some (value.Vector x)) (read_as c.normals i v zero_vector there read)

-- PRIMITIVES

pub outline_there : (c : ColumnLists) (i : ℕ) → AreComplete c → i < length c.ends → i < length c.outlines
outline_there c i filled lt = omega (arith, filled.outlines)

prim_at : (c : ColumnLists) (i : ℕ) (o : Outline) → AreComplete c → i < length c.ends → o ≡ get_or c.outlines i o
    → slice_get (columns_geo c).prims i ≡ Some (outlined_prim (corner_in c.attributes c.refers c.textures c.normals) (length c.frame.prim.groups) (get_or (0 ∷ c.ends) i 0) (get_or c.ends i 0) o)
prim_at c i o filled lt read =
    let at = slice_get_read c.outlines (length c.outlines) i o refl (outline_there c i filled lt) read in
    outlined_prims-get (corner_in c.attributes c.refers c.textures c.normals) (length c.frame.prim.groups) 0 c.ends c.outlines i 0 o lt at

pub closed_read : (c : ColumnLists) (i : ℕ) (o : Outline) → AreComplete c → i < length c.ends → o ≡ get_or c.outlines i o → option_map (λ p. p.closed) (slice_get (columns_geo c).prims i) ≡ Some o.closed
closed_read c i o filled lt read = ap (option_map (λ p. p.closed)) (prim_at c i o filled lt read)

flag_in : (flags : List Bool) (k g : ℕ) → g < length (flags ++ replicate k false) → slice_get (flags ++ replicate k false) g ≡ Some (unwrap_or (slice_get flags g) false)
flag_in [] zero g lt = absurd (omega arith)
flag_in [] (suc k) zero lt = refl
flag_in [] (suc k) (suc g) lt = flag_in [] k g (omega arith)
flag_in (f ∷ flags) k zero lt = refl
flag_in (f ∷ flags) k (suc g) lt = flag_in flags k g (omega arith)

-- a row has a flag for each group
flags_long : (c : ColumnLists) (i : ℕ) (row : Row) → IsSound (columns_geo c) → slice_get (rows_of (columns_geo c) Prim) i ≡ Some row → i < count_of (columns_geo c) Prim → length row.flags ≡ length c.frame.prim.groups
flags_long c i row sound at lt =
    let each = All-get_or (IsRowOf (columns_geo c).prim) (rows_of (columns_geo c) Prim) i row lt (sound.rows Prim) in
    let same = get_or_from_slice_get (rows_of (columns_geo c) Prim) i row row at in
    ap (λ (r : Row). length r.flags) (sym same) ∙ each.flags

pub member_read : (c : ColumnLists) (group i : ℕ) (o : Outline) → AreComplete c → IsSound (columns_geo c) → group < length c.frame.prim.groups → i < length c.ends → o ≡ get_or c.outlines i o
    → flag_at (columns_geo c) Prim group i ≡ Some (unwrap_or (slice_get o.flags.items group) false)
member_read c group i o filled sound few lt read =
    let n = length c.frame.prim.groups in
    let p = outlined_prim (corner_in c.attributes c.refers c.textures c.normals) n (get_or (0 ∷ c.ends) i 0) (get_or c.ends i 0) o in
    let row : slice_get (rows_of (columns_geo c) Prim) i ≡ Some p.row = slice_get-map (λ q. q.row) (columns_geo c).prims i ∙ ap (option_map (λ q. q.row)) (prim_at c i o filled lt read) in
    let long = flags_long c i p.row sound row (omega (arith, prim_count c filled)) in
    ap (option_and_then (λ (r : Row). slice_get r.flags group)) row ∙ flag_in o.flags.items (n - o.known) group (omega (arith, long))

-- where the vertices of a primitive begin
outline_at : (os : List Outline) (i : ℕ) → i < length os → Outline
outline_at [] i lt = absurd (omega arith)
outline_at (o ∷ os) zero lt = o
outline_at (o ∷ os) (suc i) lt = outline_at os i (omega arith)

outline_same : (os : List Outline) (i : ℕ) (lt : i < length os) → get_or os i (outline_at os i lt) ≡ get_or os i (get_or os i (outline_at os i lt))
outline_same os i lt = get_or_default os i (outline_at os i lt) (get_or os i (outline_at os i lt)) lt

pub start_read : (c : ColumnLists) (i : ℕ) → AreComplete c → i ≤ length c.ends → get_or (0 ∷ c.ends) i 0 ≡ first_vertex_in (columns_geo c).prims i
start_read c zero filled within = refl
start_read c (suc i) filled within =
    ap (λ es. get_or es i 0) (ends_are c filled) ∙ get_or-ends_of 0 (columns_geo c).prims i 0 (omega (arith, prims_long c filled)) ∙ omega arith

pub size_read : (c : ColumnLists) (i start end size : ℕ) → AreComplete c → i < length c.ends → start ≡ first_vertex_in (columns_geo c).prims i → end ≡ get_or c.ends i end → size ≡ end - start
    → option_map size_of (slice_get (columns_geo c).prims i) ≡ Some size
size_read c i start end size filled lt start_is read is =
    let corner = corner_in c.attributes c.refers c.textures c.normals in
    let o = get_or c.outlines i (outline_at c.outlines i (outline_there c i filled lt)) in
    let first = start_read c i filled (omega arith) in
    let last = read_as c.ends i end 0 lt read in
    let long = length-map-range_with_len corner (get_or (0 ∷ c.ends) i 0) (get_or c.ends i 0 - get_or (0 ∷ c.ends) i 0) in
    let value : size_of (outlined_prim corner (length c.frame.prim.groups) (get_or (0 ∷ c.ends) i 0) (get_or c.ends i 0) o) ≡ size = omega (arith, first, last, long) in
    ap (option_map size_of) (prim_at c i o filled lt (outline_same c.outlines i (outline_there c i filled lt))) ∙ ap Some value

pub refer_read : (c : ColumnLists) (i point : ℕ) → AreComplete c → i < last_end 0 c.ends → point ≡ get_or c.refers i point → option_map (λ k. k.point) (slice_get (corners_of (columns_geo c).prims) i) ≡ Some point
refer_read c i point filled lt read =
    ap (option_map (λ k. k.point)) (vertex_at c i filled lt) ∙ ap Some (read_as c.refers i point 0 (omega (arith, filled.refers)) read)

pub ends_ordered : (c : ColumnLists) (i start end : ℕ) → AreComplete c → i < length c.ends → start ≡ first_vertex_in (columns_geo c).prims i → end ≡ get_or c.ends i end → start ≤ end
ends_ordered c i start end filled lt start_is read =
    let prims = (columns_geo c).prims in
    let last : end ≡ 0 + first_vertex_in prims (suc i) = read ∙ ap (λ es. get_or es i end) (ends_are c filled) ∙ get_or-ends_of 0 prims i end (omega (arith, prims_long c filled)) in
    let part : i ≤ suc i = omega arith in
    omega (arith, last, sum_by-take-le size_of (take (suc i) prims) i, ap (sum_by size_of) (take-take i (suc i) prims part))

-- neither the detail nor primitives have an attribute
pub no_other_heads : (c : ColumnLists) (class : Class) (head : ℕ) → c.frame ≡ frame_of c.attributes c.frame.prim.groups → (class ≡ Detail) ⊎ (class ≡ Prim) → head < length (heads_of (columns_geo c) class).heads → ⊥
no_other_heads c class head is (inl detail) lt =
    let none = subst (λ (f : Geo). head < length f.detail.heads) is (subst (λ k. head < length (heads_of (columns_geo c) k).heads) detail lt) in
    omega (arith, none)
no_other_heads c class head is (inr prim) lt =
    let none = subst (λ (f : Geo). head < length f.prim.heads) is (subst (λ k. head < length (heads_of (columns_geo c) k).heads) prim lt) in
    omega (arith, none)
