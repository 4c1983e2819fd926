-- Geometries in columns: what a point, a group and a primitive more make of them.
use Rattle.std.proofs.Common.{◌≡◌, ℕ, suc, ◌+◌, ◌<◌, ◌≤◌, List, [], ◌∷◌, ◌++◌, length, map, take, get_or, Bool, true, false, refl, sym, ap, subst, ◌∙◌, arith, replicate, ◌-◌, Some, Option}
use Rattle.std.specs.Prelude.{All, slice_get, unwrap_or, IsTrue}
use Rattle.std.specs.List.{range_with_len}
use Rattle.std.specs.Option.{option_map}
use Rattle.std.proofs.lemmas.List.{length-map, length-append, length-take, take_all, append-nil, get_or_append_left, get_or-append_right, get_or-take}
use Rattle.std.proofs.lemmas.List.Elements.{All-nil, All-cons, All-append, All-take}
use Rattle.std.proofs.lemmas.Option.{slice_get-map, get_or_from_slice_get}
use Rattle.std.proofs.lemmas.List.FromFn.{map-range_with_len_more}
use Rattle.sop_fixed.specs.declared.vec3.Vec3.{Vec3}
use Rattle.sop_model.specs.declared.geo.Geo.{Geo}
use Rattle.sop_model.specs.declared.geo.Row.{Row}
use Rattle.sop_model.specs.declared.geo.Corner.{Corner}
use Rattle.sop_model.specs.declared.geo.Primitive.{Primitive}
use Rattle.sop_model.specs.declared.value.Value.{Value}
use Rattle.sop_model.specs.declared.value.Value.TheVariants as value
use Rattle.sop_model.specs.Values.{zero_vector}
use Rattle.geo_text.specs.declared.taker.Attributes.{Attributes}
use Rattle.geo_text.specs.declared.taker.Vertex.{Vertex}
use Rattle.geo_text.specs.declared.vertex_columns.VertexVector.TheVariants as vector
use Rattle.geo_text.specs.declared.columns.Outline.{Outline}
use Rattle.geo_text.specs.ObjTaking.{point_row, point_taken, vertex_taken, value_if, prim_from, prim_taken, group_taken}
use Rattle.geo_text.specs.ObjColumns.{ColumnLists, point_in, points_in, corner_in, vector_at_vertex, flags_among, outlined_prim, outlined_prims, columns_geo, last_end, Rise, Fills, AreComplete}
use Rattle.geo_text.proofs.ObjColumnLists.{map-range-same, last_end-push, Rise-push, outlined_prims-same, outlined_prims-push, outlined_prims-more}
use Rattle.geo_text.proofs.ObjMaking.{rows_more}

-- the last of the ends, as a read of the list
last_read : (ends : List ℕ) (e d : ℕ) → unwrap_or (slice_get (e ∷ ends) (length ends)) d ≡ last_end e ends
last_read [] e d = refl
last_read (f ∷ ends) e d = last_read ends f d

pub last_end_read : (ends : List ℕ) → unwrap_or (slice_get ends (length ends - 1)) 0 ≡ last_end 0 ends
last_end_read [] = refl
last_end_read (e ∷ ends) =
    let place : length (e ∷ ends) - 1 ≡ length ends = omega arith in
    ap (λ i. unwrap_or (slice_get (e ∷ ends) i) 0) place ∙ last_read ends e 0

-- COLUMNS

length_front : {A : Type 0} (n : ℕ) (xs : List A) → n ≤ length xs → length (take n xs) ≡ n
length_front n xs h = omega (arith, length-take n xs)

-- what stands behind the front of a column changes no value of the front
pub front_same : {A : Type 0} (xs ys more : List A) (n i : ℕ) (d : A) → ys ≡ take n xs ++ more → n ≤ length xs → i < n → get_or ys i d ≡ get_or xs i d
front_same xs ys more n i d is h lt =
    ap (λ l. get_or l i d) is ∙ get_or_append_left (take n xs) more d i (omega (arith, length_front n xs h)) ∙ get_or-take n xs i d lt

-- and stands there itself
pub behind_front : {A : Type 0} (xs ys more : List A) (n k : ℕ) (d : A) → ys ≡ take n xs ++ more → n ≤ length xs → get_or ys (n + k) d ≡ get_or more k d
behind_front xs ys more n k d is h =
    let place : n + k - n ≡ k = omega arith in
    ap (λ l. get_or l (n + k) d) is ∙ get_or-append_right (take n xs) more n (n + k) d (length_front n xs h) (omega arith) ∙ ap (λ j. get_or more j d) place

value_if_same : (b : Bool) (v w : Vec3) → (IsTrue b → v ≡ w) → value_if b v ≡ value_if b w
value_if_same true v w same = ap (λ x. value_if true x) (same refl)
value_if_same false v w same = refl

-- POINTS

row_of : List Value → Row
row_of values = record { values = values; flags = [] }

point_same : (has : Attributes) (places more colours behind : List Vec3) (v c : Vec3) (i : ℕ) → v ≡ get_or more i zero_vector → (IsTrue has.colour → c ≡ get_or behind i zero_vector)
    → point_row has v (Some c) ≡ point_in has more behind i
unfolding row_of
point_same has places more colours behind v c i place colour =
    ap (λ x. row_of (value.Vector x ∷ value_if has.colour c)) place ∙ ap (λ vs. row_of (value.Vector (get_or more i zero_vector) ∷ vs)) (value_if_same has.colour c (get_or behind i zero_vector) colour)

-- a point more
pub points_pushed : (has : Attributes) (places colours more behind : List Vec3) (place : Vec3) (colour : Option Vec3) → more ≡ places ++ place ∷ [] → Fills has.colour (length places) colours
    → (IsTrue has.colour → behind ≡ take (length places) colours ++ unwrap_or colour zero_vector ∷ []) → points_in has more behind ≡ points_in has places colours ++ point_row has place colour ∷ []
points_pushed has places colours more behind place colour is fills put =
    let n = length places in
    let long : length more ≡ n + 1 = ap length is ∙ length-append places (place ∷ []) in
    let front : more ≡ take n places ++ place ∷ [] = is ∙ ap (λ l. l ++ place ∷ []) (sym (take_all n places (omega arith))) in
    let all : n ≤ length places = omega arith in
    let old : (i : ℕ) → 0 ≤ i → i < 0 + n → point_in has more behind i ≡ point_in has places colours i = λ i ge lt.
    let below : i < n = omega arith in
    sym (point_same has places more colours behind (get_or places i zero_vector) (get_or colours i zero_vector) i (sym (front_same places more (place ∷ []) n i zero_vector front all below)) (λ t. sym (front_same colours behind (unwrap_or colour zero_vector ∷ []) n i zero_vector (put t) (fills t) below))) in
    let at : n ≡ n + 0 = omega arith in
    let new : point_in has more behind n ≡ point_row has place colour =
    sym (point_same has places more colours behind place (unwrap_or colour zero_vector) n (sym (ap (λ k. get_or more k zero_vector) at ∙ behind_front places more (place ∷ []) n 0 zero_vector front all)) (λ t. sym (ap (λ k. get_or behind k zero_vector) at ∙ behind_front colours behind (unwrap_or colour zero_vector ∷ []) n 0 zero_vector (put t) (fills t)))) in
    ap (λ k. map (point_in has more behind) (range_with_len 0 k)) long ∙ map-range_with_len_more (point_in has more behind) 0 n n (omega arith) ∙ ap (λ rs. rs ++ point_in has more behind n ∷ []) (map-range-same (point_in has more behind) (point_in has places colours) 0 n old) ∙ ap (λ r. points_in has places colours ++ r ∷ []) new

-- VERTICES

corner_of : ℕ → List Value → Corner
corner_of point values = record { point = point; row = record { values = values; flags = [] } }

pub corner_same : (has : Attributes) (p q : ℕ) (t u m n : Vec3) → p ≡ q → (IsTrue has.texture → t ≡ u) → (IsTrue has.normal → m ≡ n)
    → vertex_taken has (record { point = p; texture = t; normal = m }) ≡ vertex_taken has (record { point = q; texture = u; normal = n })
unfolding corner_of
corner_same has p q t u m n point texture normal =
    ap (λ x. corner_of x (value_if has.texture t ++ value_if has.normal m)) point
    ∙ ap (λ vs. corner_of q (vs ++ value_if has.normal m)) (value_if_same has.texture t u texture)
    ∙ ap (λ vs. corner_of q (value_if has.texture u ++ vs)) (value_if_same has.normal m n normal)

-- columns of vertices that keep their first values, and have those of some vertices behind
pub record ArePut (has : Attributes) (start : ℕ) (vertices : List Vertex) (refers : List ℕ) (textures normals : List Vec3) (points : List ℕ) (ts ns : List Vec3) : Type 0 where
  pub point_put : points ≡ take start refers ++ map (λ v. v.point) vertices
  pub texture_put : IsTrue has.texture → ts ≡ take start textures ++ map (vector_at_vertex vector.Texture) vertices
  pub normal_put : IsTrue has.normal → ns ≡ take start normals ++ map (vector_at_vertex vector.Normal) vertices
  pub point_room : start ≤ length refers
  pub texture_room : Fills has.texture start textures
  pub normal_room : Fills has.normal start normals

pub corners_kept : (has : Attributes) (start : ℕ) (vertices : List Vertex) (refers : List ℕ) (textures normals : List Vec3) (points : List ℕ) (ts ns : List Vec3) → ArePut has start vertices refers textures normals points ts ns
    → (i : ℕ) → i < start → corner_in has points ts ns i ≡ corner_in has refers textures normals i
corners_kept has start vertices refers textures normals points ts ns put i lt =
    corner_same has (get_or points i 0) (get_or refers i 0) (get_or ts i zero_vector) (get_or textures i zero_vector) (get_or ns i zero_vector) (get_or normals i zero_vector)
    (front_same refers points (map (λ v. v.point) vertices) start i 0 put.point_put put.point_room lt)
    (λ t. front_same textures ts (map (vector_at_vertex vector.Texture) vertices) start i zero_vector (put.texture_put t) (put.texture_room t) lt)
    (λ t. front_same normals ns (map (vector_at_vertex vector.Normal) vertices) start i zero_vector (put.normal_put t) (put.normal_room t) lt)

map_at : {A B : Type 0} (f : A → B) (xs : List A) (k : ℕ) (x : A) (d : B) → slice_get xs k ≡ Some x → get_or (map f xs) k d ≡ f x
map_at f xs k x d at = get_or_from_slice_get (map f xs) k (f x) d (slice_get-map f xs k ∙ ap (option_map f) at)

corner_put : (has : Attributes) (start : ℕ) (vertices : List Vertex) (refers : List ℕ) (textures normals : List Vec3) (points : List ℕ) (ts ns : List Vec3) → ArePut has start vertices refers textures normals points ts ns
    → (k : ℕ) (v : Vertex) → slice_get vertices k ≡ Some v → corner_in has points ts ns (start + k) ≡ vertex_taken has v
corner_put has start vertices refers textures normals points ts ns put k v at =
    corner_same has (get_or points (start + k) 0) v.point (get_or ts (start + k) zero_vector) v.texture (get_or ns (start + k) zero_vector) v.normal
    (behind_front refers points (map (λ v. v.point) vertices) start k 0 put.point_put put.point_room ∙ map_at (λ v. v.point) vertices k v 0 at)
    (λ t. behind_front textures ts (map (vector_at_vertex vector.Texture) vertices) start k zero_vector (put.texture_put t) (put.texture_room t) ∙ map_at (vector_at_vertex vector.Texture) vertices k v zero_vector at)
    (λ t. behind_front normals ns (map (vector_at_vertex vector.Normal) vertices) start k zero_vector (put.normal_put t) (put.normal_room t) ∙ map_at (vector_at_vertex vector.Normal) vertices k v zero_vector at)

map-range-list : {A B : Type 0} (f : ℕ → A) (g : B → A) (start : ℕ) (xs : List B) → ((k : ℕ) (x : B) → slice_get xs k ≡ Some x → f (start + k) ≡ g x) → map f (range_with_len start (length xs)) ≡ map g xs
map-range-list f g start [] each = refl
map-range-list f g start (x ∷ xs) each =
    let first : start ≡ start + 0 = omega arith in
    let here : f start ≡ g x = ap f first ∙ each 0 x refl in
    let next : (k : ℕ) → start + 1 + k ≡ start + suc k = λ k. omega arith in
    let rest = map-range-list f g (start + 1) xs (λ k y at. ap f (next k) ∙ each (suc k) y at) in
    ap (λ y. y ∷ map f (range_with_len (start + 1) (length xs))) here ∙ ap (λ ys. g x ∷ ys) rest

pub corners_put : (has : Attributes) (start : ℕ) (vertices : List Vertex) (refers : List ℕ) (textures normals : List Vec3) (points : List ℕ) (ts ns : List Vec3) → ArePut has start vertices refers textures normals points ts ns
    → map (corner_in has points ts ns) (range_with_len start (length vertices)) ≡ map (vertex_taken has) vertices
corners_put has start vertices refers textures normals points ts ns put =
    map-range-list (corner_in has points ts ns) (vertex_taken has) start vertices (corner_put has start vertices refers textures normals points ts ns put)

-- PRIMITIVES

prim_made : Bool → List Bool → List Corner → Primitive
prim_made closed flags corners = record { closed = closed; row = record { values = []; flags = flags }; corners = corners }

-- a primitive more
pub prims_pushed : (has : Attributes) (groups end : ℕ) (closed : Bool) (flags : List Bool) (vertices : List Vertex) (ends : List ℕ) (os : List Outline) (o : Outline) (refers : List ℕ) (textures normals : List Vec3) (points : List ℕ) (ts ns : List Vec3)
    → ArePut has (last_end 0 ends) vertices refers textures normals points ts ns → Rise 0 ends → length ends ≤ length os → end ≡ last_end 0 ends + length vertices → o.closed ≡ closed → o.known ≡ groups → o.flags.items ≡ flags
    → outlined_prims (corner_in has points ts ns) groups 0 (ends ++ end ∷ []) (take (length ends) os ++ o ∷ []) ≡ outlined_prims (corner_in has refers textures normals) groups 0 ends os ++ prim_from has closed vertices flags ∷ []
unfolding prim_made
prims_pushed has groups end closed flags vertices ends os o refers textures normals points ts ns put rise long end_is closed_is known_is flags_is =
    let start = last_end 0 ends in
    let corner = corner_in has points ts ns in
    let kept = outlined_prims-same corner (corner_in has refers textures normals) groups 0 ends os rise (λ i ge lt. corners_kept has start vertices refers textures normals points ts ns put i lt) in
    let size : end - start ≡ length vertices = omega arith in
    let corners : map corner (range_with_len start (end - start)) ≡ map (vertex_taken has) vertices = ap (λ n. map corner (range_with_len start n)) size ∙ corners_put has start vertices refers textures normals points ts ns put in
    let none : groups - o.known ≡ 0 = omega arith in
    let own : flags_among groups o ≡ flags = ap (λ n. o.flags.items ++ replicate n false) none ∙ append-nil o.flags.items ∙ flags_is in
    let new : outlined_prim corner groups start end o ≡ prim_from has closed vertices flags =
    ap (λ c. prim_made c (flags_among groups o) (map corner (range_with_len start (end - start)))) closed_is ∙ ap (λ fs. prim_made closed fs (map corner (range_with_len start (end - start)))) own ∙ ap (prim_made closed flags) corners in
    outlined_prims-push corner groups 0 ends os end o long ∙ ap (λ ps. ps ++ outlined_prim corner groups start end o ∷ []) kept ∙ ap (λ p. outlined_prims (corner_in has refers textures normals) groups 0 ends os ++ p ∷ []) new

-- GEOMETRIES

grouped : ColumnLists → List (List ℕ) → List Primitive → Geo
grouped c groups prims = record c.frame {
  prim = record { heads = c.frame.prim.heads; groups = groups };
  points = points_in c.attributes c.places c.colours;
  prims = prims;
}

-- a group more
pub group_pushed : (c : ColumnLists) (name : List ℕ) (groups : List (List ℕ)) → AreComplete c → groups ≡ c.frame.prim.groups ++ name ∷ []
    → columns_geo (record c { frame = record c.frame { prim = record { heads = c.frame.prim.heads; groups = groups } } }) ≡ group_taken name (columns_geo c)
unfolding grouped
group_pushed c name groups filled is =
    let corner = corner_in c.attributes c.refers c.textures c.normals in
    let n = length c.frame.prim.groups in
    let long : length groups ≡ n + 1 = ap length is ∙ length-append c.frame.prim.groups (name ∷ []) in
    let prims = ap (λ k. outlined_prims corner k 0 c.ends c.outlines) long ∙ outlined_prims-more corner n 0 c.ends c.outlines filled.known ∙ sym (rows_more (outlined_prims corner n 0 c.ends c.outlines)) in
    ap (λ gs. grouped c gs (outlined_prims corner (length groups) 0 c.ends c.outlines)) is ∙ ap (grouped c (c.frame.prim.groups ++ name ∷ [])) prims

shaped : ColumnLists → List Primitive → Geo
shaped c prims = record c.frame { points = points_in c.attributes c.places c.colours; prims = prims }

-- a primitive more
pub prim_pushed : (c : ColumnLists) (closed : Bool) (flags : List Bool) (vertices : List Vertex) (o : Outline) (end : ℕ) (ends : List ℕ) (os : List Outline) (points : List ℕ) (ts ns : List Vec3) → AreComplete c
    → ArePut c.attributes (last_end 0 c.ends) vertices c.refers c.textures c.normals points ts ns → ends ≡ c.ends ++ end ∷ [] → os ≡ take (length c.ends) c.outlines ++ o ∷ []
    → end ≡ last_end 0 c.ends + length vertices → o.closed ≡ closed → o.known ≡ length c.frame.prim.groups → o.flags.items ≡ flags
    → columns_geo (record c { ends = ends; outlines = os; refers = points; textures = ts; normals = ns }) ≡ prim_taken c.attributes closed vertices flags (columns_geo c)
unfolding shaped
prim_pushed c closed flags vertices o end ends os points ts ns filled put ends_is os_is end_is closed_is known_is flags_is =
    let prims = λ (es : List ℕ) (ps : List Outline). outlined_prims (corner_in c.attributes points ts ns) (length c.frame.prim.groups) 0 es ps in
    ap (λ es. shaped c (prims es os)) ends_is
    ∙ ap (λ ps. shaped c (prims (c.ends ++ end ∷ []) ps)) os_is
    ∙ ap (shaped c) (prims_pushed c.attributes (length c.frame.prim.groups) end closed flags vertices c.ends c.outlines o c.refers c.textures c.normals points ts ns put filled.rise filled.outlines end_is closed_is known_is flags_is)

-- the outline of a primitive more, behind those that were taken
pub filled_outline : (c : ColumnLists) (o : Outline) (os : List Outline) → AreComplete c → os ≡ take (length c.ends) c.outlines ++ o ∷ [] → o.known ≡ length c.frame.prim.groups → AreComplete (record c { outlines = os })
filled_outline c o os filled is known =
    let Known : Outline → Type 0 = λ o. o.known ≤ length c.frame.prim.groups in
    let front : length (take (length c.ends) c.outlines) ≡ length c.ends = length_front (length c.ends) c.outlines filled.outlines in
    record {
      frame = filled.frame;
      colours = filled.colours;
      rise = filled.rise;
      outlines = omega (arith, ap length is, length-append (take (length c.ends) c.outlines) (o ∷ []), front);
      known = subst (All Known) (sym is) (All-append Known (take (length c.ends) c.outlines) (o ∷ []) (All-take Known (length c.ends) c.outlines filled.known) (All-cons Known o [] (omega arith) (All-nil Known)));
      refers = filled.refers;
      textures = filled.textures;
      normals = filled.normals;
    }

-- columns of vertices that keep the values of those that were taken
pub filled_vertices : (c : ColumnLists) (points : List ℕ) (ts ns : List Vec3) → AreComplete c → last_end 0 c.ends ≤ length points → Fills c.attributes.texture (last_end 0 c.ends) ts → Fills c.attributes.normal (last_end 0 c.ends) ns
    → AreComplete (record c { refers = points; textures = ts; normals = ns })
filled_vertices c points ts ns filled refers textures normals = record {
  frame = filled.frame;
  colours = filled.colours;
  rise = filled.rise;
  outlines = filled.outlines;
  known = filled.known;
  refers = refers;
  textures = textures;
  normals = normals;
}

put_room : {A : Type 0} (start : ℕ) (old new more : List A) → start ≤ length old → new ≡ take start old ++ more → start + length more ≤ length new
put_room start old new more room is =
    omega (arith, ap length is, length-append (take start old) more, length_front start old room)

-- and with the primitive
pub filled_prim : (c : ColumnLists) (vertices : List Vertex) (o : Outline) (end : ℕ) (ends : List ℕ) (os : List Outline) (points : List ℕ) (ts ns : List Vec3) → AreComplete c
    → ArePut c.attributes (last_end 0 c.ends) vertices c.refers c.textures c.normals points ts ns → ends ≡ c.ends ++ end ∷ [] → os ≡ take (length c.ends) c.outlines ++ o ∷ []
    → end ≡ last_end 0 c.ends + length vertices → o.known ≡ length c.frame.prim.groups
    → AreComplete (record c { ends = ends; outlines = os; refers = points; textures = ts; normals = ns })
filled_prim c vertices o end ends os points ts ns filled put ends_is os_is end_is known =
    let start = last_end 0 c.ends in
    let outlined = filled_outline c o os filled os_is known in
    let last : last_end 0 ends ≡ end = ap (last_end 0) ends_is ∙ last_end-push 0 c.ends end in
    let front : length (take (length c.ends) c.outlines) ≡ length c.ends = length_front (length c.ends) c.outlines filled.outlines in
    record {
      frame = filled.frame;
      colours = filled.colours;
      rise = subst (Rise 0) (sym ends_is) (Rise-push 0 c.ends end filled.rise (omega arith));
      outlines = omega (arith, ap length os_is, ap length ends_is, length-append (take (length c.ends) c.outlines) (o ∷ []), length-append c.ends (end ∷ []), front);
      known = outlined.known;
      refers = omega (arith, last, put_room start c.refers points (map (λ v. v.point) vertices) put.point_room put.point_put, length-map vertices (λ v. v.point));
      textures = λ t. omega (arith, last, put_room start c.textures ts (map (vector_at_vertex vector.Texture) vertices) (put.texture_room t) (put.texture_put t), length-map vertices (vector_at_vertex vector.Texture));
      normals = λ t. omega (arith, last, put_room start c.normals ns (map (vector_at_vertex vector.Normal) vertices) (put.normal_room t) (put.normal_put t), length-map vertices (vector_at_vertex vector.Normal));
    }

-- a point more
pub point_pushed : (c : ColumnLists) (place : Vec3) (colour : Option Vec3) (places colours : List Vec3) → AreComplete c → places ≡ c.places ++ place ∷ [] → (IsTrue c.attributes.colour → colours ≡ take (length c.places) c.colours ++ unwrap_or colour zero_vector ∷ [])
    → columns_geo (record c { places = places; colours = colours }) ≡ point_taken c.attributes place colour (columns_geo c)
point_pushed c place colour places colours filled is put =
    ap (λ rows. record c.frame { points = rows; prims = outlined_prims (corner_in c.attributes c.refers c.textures c.normals) (length c.frame.prim.groups) 0 c.ends c.outlines })
    (points_pushed c.attributes c.places c.colours places colours place colour is filled.colours put)

pub put_at : (has : Attributes) (count start : ℕ) (vertices : List Vertex) (refers : List ℕ) (textures normals : List Vec3) (points : List ℕ) (ts ns : List Vec3) → count ≡ start
    → points ≡ take count refers ++ map (λ v. v.point) vertices
    → (IsTrue has.texture → ts ≡ take count textures ++ map (vector_at_vertex vector.Texture) vertices)
    → (IsTrue has.normal → ns ≡ take count normals ++ map (vector_at_vertex vector.Normal) vertices)
    → start ≤ length refers → Fills has.texture start textures → Fills has.normal start normals
    → ArePut has start vertices refers textures normals points ts ns
put_at has count start vertices refers textures normals points ts ns same point texture normal point_room texture_room normal_room = record {
  point_put = point ∙ ap (λ n. take n refers ++ map (λ v. v.point) vertices) same;
  texture_put = λ t. texture t ∙ ap (λ n. take n textures ++ map (vector_at_vertex vector.Texture) vertices) same;
  normal_put = λ t. normal t ∙ ap (λ n. take n normals ++ map (vector_at_vertex vector.Normal) vertices) same;
  point_room = point_room;
  texture_room = texture_room;
  normal_room = normal_room;
}
