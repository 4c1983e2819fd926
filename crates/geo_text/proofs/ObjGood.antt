-- The geometry of a text that isn't refused is well made and within every limit.
use Rattle.std.proofs.Common.{◌≡◌, ℕ, ◌*◌, ◌<◌, ◌≤◌, List, [], ◌∷◌, ◌++◌, length, map, refl, ◌∙◌, subst, arith, Bool, true, false, inl, inr, length-append}
use Rattle.std.specs.Prelude.{All, sum_by, codes, unwrap_or}
use Rattle.std.specs.List.{flat_map, list_all}
use Rattle.std.proofs.lemmas.Bool.{cases_Bool, and_parts, and_from}
use Rattle.std.proofs.lemmas.List.{length-map, length-take}
use Rattle.std.proofs.lemmas.List.Elements.{All-nil, All-cons, All-head, All-tail, All-append, All-map, All-weaker}
use Rattle.std.proofs.lemmas.List.Sums.{sum_by-cons}
use Rattle.sop_fixed.specs.declared.vec3.Vec3.{Vec3}
use Rattle.sop_model.specs.declared.class.Class.{Class}
use Rattle.sop_model.specs.declared.class.Class.TheVariants.{Detail, Prim, Point, Vertex}
use Rattle.sop_model.specs.declared.geo.Geo.{Geo}
use Rattle.sop_model.specs.declared.geo.Row.{Row}
use Rattle.sop_model.specs.declared.geo.Corner.{Corner}
use Rattle.sop_model.specs.declared.geo.Primitive.{Primitive}
use Rattle.sop_model.specs.declared.value.Value.TheVariants as value
use Rattle.sop_model.specs.Values.{kind_of, zero_vector}
use Rattle.sop_model.specs.Names.{is_name}
use Rattle.sop_model.specs.Limits.{most_points, most_prims, most_vertices, most_heads, most_groups, most_weight}
use Rattle.sop_model.specs.Vertices.{size_of, corners_of}
use Rattle.sop_model.specs.Merge.{first_names}
use Rattle.sop_model.specs.Geometry.{empty_row, no_heads, position_head, heads_of, rows_of, row_weight, geo_weight, is_row_within, IsNamed, IsRowOf, IsGood, Fits, AreValuesWithin}
use Rattle.sop_model.proofs.LimitsLemmas.{IsWithin-from, Fits-from}
use Rattle.geo_text.specs.declared.taker.Attributes.{Attributes}
use Rattle.geo_text.specs.declared.reference.Named.{Named}
use Rattle.geo_text.specs.ObjStatements.{Place}
use Rattle.geo_text.specs.ObjTaking.{head_if, value_if, made_of, point_row, vertex_row, vertex_taken}
use Rattle.geo_text.specs.ObjMeaning.{Shaped, group_names, prim_of, vertex_of}
use Rattle.geo_text.proofs.ObjGrouping.{Names, added, names_into, has_room, first_into}
use Rattle.geo_text.proofs.ObjGeometry.{used_distinct}
use Rattle.geo_text.proofs.ObjSound.{are_names, corners_in, IsSoundShape}
use Rattle.geo_text.specs.ObjMeaning.{is_among}

-- ---- names of groups
names_append : (xs ys : Names) → are_names xs ≡ true → are_names ys ≡ true → are_names (xs ++ ys) ≡ true
names_append [] ys a b = b
names_append (x ∷ xs) ys a b =
    let parts = and_parts (is_name x) (are_names xs) a in and_from (is_name x) (are_names (xs ++ ys)) parts.0 (names_append xs ys parts.1 b)

added_named : (x : List ℕ) (names : Names) → is_name x ≡ true → are_names names ≡ true → are_names (added x names) ≡ true
added_named x names a b =
    elim (cases_Bool (is_among names x)) [
      | inl there ↦ rw there b
      | inr new ↦ elim (cases_Bool (has_room names)) [
        | inl room ↦ rw (new, room) (names_append names (x ∷ []) b (and_from (is_name x) true a refl))
        | inr full ↦ rw (new, full) b
      ]
    ]

into_named : (names more : Names) → are_names names ≡ true → are_names more ≡ true → are_names (names_into names more) ≡ true
into_named names [] a b = a
into_named names (x ∷ more) a b = let parts = and_parts (is_name x) (are_names more) b in into_named (added x names) more (added_named x names parts.0 a) parts.1

used_names : (total : ℕ) (shapes : List Shaped) → All (IsSoundShape total) shapes → are_names (flat_map (λ s. s.groups) shapes) ≡ true
used_names total [] all = refl
used_names total (s ∷ shapes) all =
    names_append s.groups (flat_map (λ s. s.groups) shapes) (All-head (IsSoundShape total) s shapes all).names (used_names total shapes (All-tail (IsSoundShape total) s shapes all))

group_named : (total : ℕ) (shapes : List Shaped) → All (IsSoundShape total) shapes → are_names (group_names shapes) ≡ true
group_named total shapes all = subst (λ n. are_names n ≡ true) (first_into [] (flat_map (λ s. s.groups) shapes)) (into_named [] (flat_map (λ s. s.groups) shapes) refl (used_names total shapes all))

few_groups : (shapes : List Shaped) → length (group_names shapes) ≤ most_groups
few_groups shapes = omega (arith, length-take most_groups (first_names (flat_map (λ s. s.groups) shapes)))

-- ---- rows
point_kinds : (b : Bool) (v w : Vec3) → map kind_of (value.Vector v ∷ value_if b w) ≡ map (λ h. h.kind) (position_head ∷ head_if b (codes "Cd"))
point_kinds true v w = refl
point_kinds false v w = refl

vertex_kinds : (b c : Bool) (v w : Vec3) → map kind_of (value_if b v ++ value_if c w) ≡ map (λ h. h.kind) (head_if b (codes "uv") ++ head_if c (codes "N"))
vertex_kinds true true v w = refl
vertex_kinds true false v w = refl
vertex_kinds false true v w = refl
vertex_kinds false false v w = refl

point_weight : (b : Bool) (v w : Vec3) → row_weight (record { values = value.Vector v ∷ value_if b w; flags = [] }) ≤ 6
point_weight true v w = omega arith
point_weight false v w = omega arith

point_within : (b : Bool) (v w : Vec3) → is_row_within (record { values = value.Vector v ∷ value_if b w; flags = [] }) ≡ true
point_within true v w = refl
point_within false v w = refl

vertex_within : (b c : Bool) (v w : Vec3) → is_row_within (record { values = value_if b v ++ value_if c w; flags = [] }) ≡ true
vertex_within true true v w = refl
vertex_within true false v w = refl
vertex_within false true v w = refl
vertex_within false false v w = refl

list_all-same : {X : Type 0} (test : X → Bool) (xs : List X) → All (λ x. test x ≡ true) xs → list_all test xs ≡ true
list_all-same test [] all = refl
list_all-same test (x ∷ xs) all = and_from _ _ (All-head (λ x. test x ≡ true) x xs all) (list_all-same test xs (All-tail (λ x. test x ≡ true) x xs all))

vertex_weight : (b c : Bool) (v w : Vec3) → row_weight (record { values = value_if b v ++ value_if c w; flags = [] }) ≤ 6
vertex_weight true true v w = omega arith
vertex_weight true false v w = omega arith
vertex_weight false true v w = omega arith
vertex_weight false false v w = omega arith

point_heads : (b : Bool) → IsNamed (record { heads = position_head ∷ head_if b (codes "Cd"); groups = [] }) × (length (position_head ∷ head_if b (codes "Cd")) ≤ most_heads)
point_heads true = (record { heads = refl; groups = refl; distinct_heads = refl; distinct_groups = refl }, omega arith)
point_heads false = (record { heads = refl; groups = refl; distinct_heads = refl; distinct_groups = refl }, omega arith)

vertex_heads : (b c : Bool) → IsNamed (record { heads = head_if b (codes "uv") ++ head_if c (codes "N"); groups = [] }) × (length (head_if b (codes "uv") ++ head_if c (codes "N")) ≤ most_heads)
vertex_heads true true = (record { heads = refl; groups = refl; distinct_heads = refl; distinct_groups = refl }, omega arith)
vertex_heads true false = (record { heads = refl; groups = refl; distinct_heads = refl; distinct_groups = refl }, omega arith)
vertex_heads false true = (record { heads = refl; groups = refl; distinct_heads = refl; distinct_groups = refl }, omega arith)
vertex_heads false false = (record { heads = refl; groups = refl; distinct_heads = refl; distinct_groups = refl }, omega arith)

sum_most : {X : Type 0} (f : X → ℕ) (k : ℕ) (xs : List X) → All (λ x. f x ≤ k) xs → sum_by f xs ≤ k * length xs
sum_most f k [] all = omega arith
sum_most f k (x ∷ xs) all =
    let here = All-head (λ x. f x ≤ k) x xs all in
    let rest = sum_most f k xs (All-tail (λ x. f x ≤ k) x xs all) in
    grind (arith, sum_by-cons f x xs)

module _ (has : Attributes) (textures normals : List Vec3) where
  abbrev prims_of : List (List ℕ) → List Shaped → List Primitive
  prims_of names shapes = map (prim_of has textures normals names) shapes

  -- what holds of the corner of each reference holds of all vertices
  named_corners : (total : ℕ) (P : Corner → Type 0) → ((n : Named) → n.point < total → P (vertex_taken has (vertex_of textures normals n))) → (named : List Named) → All (λ n. n.point < total) named
      → All P (map (vertex_taken has) (map (vertex_of textures normals) named))
  named_corners total P holds [] all = All-nil P
  named_corners total P holds (n ∷ named) all =
      All-cons P (vertex_taken has (vertex_of textures normals n)) (map (vertex_taken has) (map (vertex_of textures normals) named)) (holds n (All-head (λ n. n.point < total) n named all))
      (named_corners total P holds named (All-tail (λ n. n.point < total) n named all))

  all_corners : (total : ℕ) (P : Corner → Type 0) → ((n : Named) → n.point < total → P (vertex_taken has (vertex_of textures normals n))) → (names : List (List ℕ)) (shapes : List Shaped) → All (IsSoundShape total) shapes
      → All P (corners_of (prims_of names shapes))
  all_corners total P holds names [] all = All-nil P
  all_corners total P holds names (s ∷ shapes) all =
      All-append P (map (vertex_taken has) (map (vertex_of textures normals) s.corners)) (corners_of (prims_of names shapes))
      (named_corners total P holds s.corners (All-head (IsSoundShape total) s shapes all).points)
      (all_corners total P holds names shapes (All-tail (IsSoundShape total) s shapes all))

  size_is : (names : List (List ℕ)) (s : Shaped) → size_of (prim_of has textures normals names s) ≡ length s.corners
  size_is names s = length-map (map (vertex_of textures normals) s.corners) (vertex_taken has) ∙ length-map s.corners (vertex_of textures normals)

  corners_many : (names : List (List ℕ)) (shapes : List Shaped) → length (corners_of (prims_of names shapes)) ≡ corners_in shapes
  corners_many names [] = refl
  corners_many names (s ∷ shapes) =
      let one = size_is names s in
      let rest = corners_many names shapes in
      let both = length-append (prim_of has textures normals names s).corners (corners_of (prims_of names shapes)) in
      omega (arith, one, rest, both, sum_by-cons (λ (s : Shaped). length s.corners) s shapes)

  filled : (total : ℕ) (names : List (List ℕ)) (shapes : List Shaped) → All (IsSoundShape total) shapes → All (λ p. 0 < size_of p) (prims_of names shapes)
  filled total names shapes all =
      All-map (λ p. 0 < size_of p) (prim_of has textures normals names) shapes
      (All-weaker (IsSoundShape total) (λ s. 0 < size_of (prim_of has textures normals names s)) (λ s sound. omega (arith, sound.some, size_is names s)) shapes all)

  prim_rows : (Q : Row → Type 0) (names : List (List ℕ)) → ((s : Shaped) → Q (prim_of has textures normals names s).row) → (shapes : List Shaped) → All Q (map (λ (p : Primitive). p.row) (prims_of names shapes))
  prim_rows Q names holds [] = All-nil Q
  prim_rows Q names holds (s ∷ shapes) = All-cons Q (prim_of has textures normals names s).row (map (λ (p : Primitive). p.row) (prims_of names shapes)) (holds s) (prim_rows Q names holds shapes)

  abbrev place_rows : List Place → List Row
  place_rows places = map (λ p. point_row has p.at p.colour) places

  point_rows : (Q : Row → Type 0) → ((p : Place) → Q (point_row has p.at p.colour)) → (places : List Place) → All Q (place_rows places)
  point_rows Q holds [] = All-nil Q
  point_rows Q holds (p ∷ places) = All-cons Q (point_row has p.at p.colour) (place_rows places) (holds p) (point_rows Q holds places)

  -- ---- the geometry of these points and primitives
  abbrev pub whole : List Place → List Shaped → Geo
  whole places shapes = made_of has (place_rows places) (group_names shapes) (prims_of (group_names shapes) shapes)

  prim_set : (total : ℕ) (shapes : List Shaped) → All (IsSoundShape total) shapes → IsNamed (record { heads = []; groups = group_names shapes })
  prim_set total shapes all = record { heads = refl; groups = group_named total shapes all; distinct_heads = refl; distinct_groups = used_distinct has textures normals shapes }

  named : (places : List Place) (shapes : List Shaped) (total : ℕ) → All (IsSoundShape total) shapes → (class : Class) → IsNamed (heads_of (whole places shapes) class)
  named places shapes total all Detail = record { heads = refl; groups = refl; distinct_heads = refl; distinct_groups = refl }
  named places shapes total all Prim = prim_set total shapes all
  named places shapes total all Point = (point_heads has.colour).0
  named places shapes total all Vertex = (vertex_heads has.texture has.normal).0

  vertices_rows : (Q : Row → Type 0) → ((n : Named) → Q (vertex_row has (vertex_of textures normals n))) → (total : ℕ) (shapes : List Shaped) → All (IsSoundShape total) shapes
      → All Q (map (λ (c : Corner). c.row) (corners_of (prims_of (group_names shapes) shapes)))
  vertices_rows Q holds total shapes all =
      All-map Q (λ (c : Corner). c.row) (corners_of (prims_of (group_names shapes) shapes)) (all_corners total (λ c. Q c.row) (λ n below. holds n) (group_names shapes) shapes all)

  rows : (places : List Place) (shapes : List Shaped) (total : ℕ) → All (IsSoundShape total) shapes → (class : Class) → All (IsRowOf (heads_of (whole places shapes) class)) (rows_of (whole places shapes) class)
  rows places shapes total all Detail = All-cons (IsRowOf no_heads) empty_row [] (record { kinds = refl; flags = refl }) (All-nil (IsRowOf no_heads))
  rows places shapes total all Prim =
      prim_rows (IsRowOf (record { heads = []; groups = group_names shapes })) (group_names shapes) (λ s. record { kinds = refl; flags = length-map (group_names shapes) (is_among s.groups) }) shapes
  rows places shapes total all Point =
      point_rows (IsRowOf (heads_of (whole places shapes) Point)) (λ p. record { kinds = point_kinds has.colour p.at (unwrap_or p.colour zero_vector); flags = refl }) places
  rows places shapes total all Vertex =
      vertices_rows (IsRowOf (heads_of (whole places shapes) Vertex))
      (λ n. let v = vertex_of textures normals n in record { kinds = vertex_kinds has.texture has.normal v.texture v.normal; flags = refl }) total shapes all

  pub whole_good : (places : List Place) (shapes : List Shaped) → All (IsSoundShape (length places)) shapes → IsGood (whole places shapes)
  whole_good places shapes all = record {
    sound = record {
      detail_groups = refl;
      named = named places shapes (length places) all;
      rows = rows places shapes (length places) all;
      position = refl;
      points = all_corners (length places) (λ c. c.point < length (place_rows places)) (λ n below. omega (arith, below, length-map places (λ (p : Place). point_row has p.at p.colour))) (group_names shapes) shapes all;
    };
    corners = filled (length places) (group_names shapes) shapes all;
  }

  few_heads : (places : List Place) (shapes : List Shaped) (class : Class) → length (heads_of (whole places shapes) class).heads ≤ most_heads
  few_heads places shapes Detail = omega arith
  few_heads places shapes Prim = omega arith
  few_heads places shapes Point = (point_heads has.colour).1
  few_heads places shapes Vertex = (vertex_heads has.texture has.normal).1

  few_names : (places : List Place) (shapes : List Shaped) (class : Class) → length (heads_of (whole places shapes) class).groups ≤ most_groups
  few_names places shapes Detail = omega arith
  few_names places shapes Prim = few_groups shapes
  few_names places shapes Point = omega arith
  few_names places shapes Vertex = omega arith

  whole_weight : (places : List Place) (shapes : List Shaped) → All (IsSoundShape (length places)) shapes → length places ≤ most_points → corners_in shapes ≤ most_vertices → geo_weight (whole places shapes) ≤ most_weight
  whole_weight places shapes all few less =
      let g = whole places shapes in
      let points = sum_most row_weight 6 (place_rows places) (point_rows (λ row. row_weight row ≤ 6) (λ p. point_weight has.colour p.at (unwrap_or p.colour zero_vector)) places) in
      let prims = sum_most row_weight 0 (rows_of g Prim) (prim_rows (λ row. row_weight row ≤ 0) (group_names shapes) (λ s. omega arith) shapes) in
      let vertices = sum_most row_weight 6 (rows_of g Vertex)
      (vertices_rows (λ row. row_weight row ≤ 6) (λ n. let v = vertex_of textures normals n in vertex_weight has.texture has.normal v.texture v.normal) (length places) shapes all) in
      let detail : sum_by row_weight (rows_of g Detail) ≤ 0 = omega (arith, sum_by-cons row_weight empty_row []) in
      let many = length-map places (λ (p : Place). point_row has p.at p.colour) in
      let corners : length (rows_of g Vertex) ≡ corners_in shapes = length-map (corners_of g.prims) (λ (c : Corner). c.row) ∙ corners_many (group_names shapes) shapes in
      omega (arith, points, prims, vertices, detail, many, corners, few, less)

  pub whole_fits : (places : List Place) (shapes : List Shaped) → All (IsSoundShape (length places)) shapes → length places ≤ most_points → length shapes ≤ most_prims → corners_in shapes ≤ most_vertices → Fits (whole places shapes)
  whole_fits places shapes all few some less =
      let points : length (place_rows places) ≤ most_points = omega (arith, few, length-map places (λ (p : Place). point_row has p.at p.colour)) in
      let prims : length (prims_of (group_names shapes) shapes) ≤ most_prims = omega (arith, some, length-map shapes (prim_of has textures normals (group_names shapes))) in
      let vertices : length (corners_of (prims_of (group_names shapes) shapes)) ≤ most_vertices = omega (arith, less, corners_many (group_names shapes) shapes) in
      Fits-from (whole places shapes) (IsWithin-from (whole places shapes) points prims vertices (few_heads places shapes) (few_names places shapes)) (whole_weight places shapes all few less)

  -- no value is a string or a list
  pub whole_within : (places : List Place) (shapes : List Shaped) → All (IsSoundShape (length places)) shapes → AreValuesWithin (whole places shapes)
  whole_within places shapes all =
      let g = whole places shapes in
      let prims = list_all-same is_row_within (rows_of g Prim) (prim_rows (λ row. is_row_within row ≡ true) (group_names shapes) (λ s. refl) shapes) in
      let points = list_all-same is_row_within g.points (point_rows (λ row. is_row_within row ≡ true) (λ p. point_within has.colour p.at (unwrap_or p.colour zero_vector)) places) in
      let vertices = list_all-same is_row_within (rows_of g Vertex)
      (vertices_rows (λ row. is_row_within row ≡ true) (λ n. let v = vertex_of textures normals n in vertex_within has.texture has.normal v.texture v.normal) (length places) shapes all) in
      record { within = and_from _ _ (and_from _ _ (and_from _ _ refl prims) points) vertices }
