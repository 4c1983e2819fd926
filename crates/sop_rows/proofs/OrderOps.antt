-- Points or primitives in another order: the rows are the old ones in that order, vertices refer to the points that they were on, and what
-- is left is well made and within the limits.
use Rattle.std.proofs.Common.{◌≡◌, ℕ, ◌<◌, eqb, List, [], ◌∷◌, ◌++◌, length, map, get_or, refl, ap, sym, ◌∙◌, subst, arith, inl, inr}
use Rattle.std.specs.Prelude.{All, Contains, IsPermutation}
use Rattle.std.specs.List.{range_with_len}
use Rattle.std.proofs.lemmas.Bool.{cases_lt, eqb-true, eq-eqb, false≢true}
use Rattle.std.proofs.lemmas.List.{length-map, map-append, get_or-map}
use Rattle.std.proofs.lemmas.List.Concat.{length-flat_map}
use Rattle.std.proofs.lemmas.List.FromFn.{length-range_with_len, get_or-range_with_len, fill_by_all}
use Rattle.std.proofs.lemmas.List.Elements.{All-head, All-tail, All-weaker, All-map, All-from_get_or}
use Rattle.std.proofs.lemmas.List.Sorted.{IsPermutation-refl, IsPermutation-map, length_permutation, All-permutation, Contains-permutation, sum_by-IsPermutation}
use Rattle.std.proofs.lemmas.List.Sums.{fails_before_first, passes_at_first}
use Rattle.sop_model.specs.declared.class.Class.{Class}
use Rattle.sop_model.specs.declared.class.Class.TheVariants.{Detail, Prim, Point, Vertex}
use Rattle.sop_model.specs.declared.geo.Geo.{Geo}
use Rattle.sop_model.specs.declared.geo.Row.{Row}
use Rattle.sop_model.specs.declared.geo.Corner.{Corner}
use Rattle.sop_model.specs.declared.geo.Primitive.{Primitive}
use Rattle.sop_model.specs.Vertices.{size_of, corners_of}
use Rattle.sop_model.specs.Geometry.{empty_row, heads_of, rows_of, count_of, IsNamed, IsRowOf, IsSound, IsGood, IsWithin}
use Rattle.sop_model.specs.Rows.{renumbered_corner, renumbered, place_in, no_prim, picked, reordered, IsOrderOf}
use Rattle.sop_model.proofs.RowLists.{All-under_map}
use Rattle.sop_rows.proofs.ElementOps.{IsSoundCorner, sound_corners, All-by_prim, All-corners}
use Rattle.sop_model.proofs.LimitsLemmas.{IsWithin-from, within_points, within_prims, within_vertices, within_heads, within_groups}

-- OTHER NUMBERS OF POINTS

module _ (f : ℕ → ℕ) where
  pub corners_of-renumbered : (prims : List Primitive) → corners_of (map (renumbered f) prims) ≡ map (renumbered_corner f) (corners_of prims)
  corners_of-renumbered [] = refl
  corners_of-renumbered (p ∷ prims) =
      ap (λ rest. map (renumbered_corner f) p.corners ++ rest) (corners_of-renumbered prims) ∙ sym (map-append (renumbered_corner f) p.corners (corners_of prims))

  same_rows : (corners : List Corner) → map (λ c. c.row) (map (renumbered_corner f) corners) ≡ map (λ c. c.row) corners
  same_rows [] = refl
  same_rows (c ∷ corners) = ap (λ rest. c.row ∷ rest) (same_rows corners)

  pub rows_of-renumbered : (prims : List Primitive) → map (λ p. p.row) (map (renumbered f) prims) ≡ map (λ p. p.row) prims
  rows_of-renumbered [] = refl
  rows_of-renumbered (p ∷ prims) = ap (λ rest. p.row ∷ rest) (rows_of-renumbered prims)

  pub vertex_rows_of-renumbered : (prims : List Primitive) → map (λ c. c.row) (corners_of (map (renumbered f) prims)) ≡ map (λ c. c.row) (corners_of prims)
  vertex_rows_of-renumbered prims = ap (map (λ c. c.row)) (corners_of-renumbered prims) ∙ same_rows (corners_of prims)

  pub sizes_of-renumbered : (prims : List Primitive) → map size_of (map (renumbered f) prims) ≡ map size_of prims
  sizes_of-renumbered [] = refl
  sizes_of-renumbered (p ∷ prims) =
      let here = length-map p.corners (renumbered_corner f) in
      let rest = sizes_of-renumbered prims in
      cc

  pub vertices_of-renumbered : (prims : List Primitive) → length (corners_of (map (renumbered f) prims)) ≡ length (corners_of prims)
  vertices_of-renumbered prims = ap length (corners_of-renumbered prims) ∙ length-map (corners_of prims) (renumbered_corner f)

-- AN ORDER

module _ (n : ℕ) (perm : List ℕ) (is : IsOrderOf n perm) where
  pub length-order : length perm ≡ n
  length-order = length_permutation (range_with_len 0 n) perm is ∙ length-range_with_len 0 n

  pub order_within : All (λ i. i < n) perm
  order_within =
      All-permutation (λ i. i < n) (range_with_len 0 n) perm is
      (All-from_get_or (λ i. i < n) (range_with_len 0 n) 0 (λ i lt. let e = length-range_with_len 0 n in let g = get_or-range_with_len 0 n i 0 (omega arith) in omega arith))

  order_has : (i : ℕ) → i < n → Contains perm i
  order_has i lt =
      let at = get_or-range_with_len 0 n i i lt in
      Contains-permutation (range_with_len 0 n) perm i is (i, (let e = length-range_with_len 0 n in omega arith), at ∙ omega arith)

  first_place : (i k : ℕ) → k < length perm → get_or perm k i ≡ i → place_in perm i < length perm
  first_place i k within here = elim (cases_lt (place_in perm i) (length perm)) [
    | inl lt ↦ lt
    | inr far ↦ absurd (false≢true (sym (fails_before_first (λ j. eqb j i) perm k i (omega arith)) ∙ eq-eqb (get_or perm k i) i here))
  ]

  -- where each number stands
  pub place_in-lt : (i : ℕ) → i < n → place_in perm i < n
  place_in-lt i lt = let has = order_has i lt in let e = length-order in let p = first_place i has.0 has.1 has.2 in omega arith

  pub at_place : (i d : ℕ) → i < n → get_or perm (place_in perm i) d ≡ i
  at_place i d lt =
      let within : place_in perm i < length perm = let e = length-order in let p = place_in-lt i lt in omega arith in
      eqb-true (get_or perm (place_in perm i) d) i (passes_at_first (λ j. eqb j i) perm d within)

  pub IsPermutation-picked : {X : Type 0} (xs : List X) (d : X) → length xs ≡ n → IsPermutation xs (picked xs d perm)
  IsPermutation-picked xs d long =
      subst (λ ys. IsPermutation ys (picked xs d perm)) (sym (fill_by_all (λ i. get_or xs i d) xs n d long (λ k lt. refl)))
      (IsPermutation-map (λ i. get_or xs i d) (range_with_len 0 n) perm is)

  -- what is read of picked items
  pub map-picked : {X Y : Type 0} (f : X → Y) (xs : List X) (d : X) (e : Y) → length xs ≡ n → map f (picked xs d perm) ≡ picked (map f xs) e perm
  map-picked f xs d e long = map_over perm order_within
    where
      map_over : (is : List ℕ) → All (λ i. i < n) is → map f (picked xs d is) ≡ picked (map f xs) e is
      map_over [] all = refl
      map_over (i ∷ is) all =
          let here = get_or-map f xs i d e (let lt = All-head (λ i. i < n) i is all in omega arith) in
          let rest = map_over is (All-tail (λ i. i < n) i is all) in
          cc

-- POINTS OR PRIMITIVES IN ANOTHER ORDER

pub heads_of-reordered : (g : Geo) (class : Class) (perm : List ℕ) (other : Class) → heads_of (reordered g class perm) other ≡ heads_of g other
heads_of-reordered g Detail perm other = refl
heads_of-reordered g Prim perm Detail = refl
heads_of-reordered g Prim perm Prim = refl
heads_of-reordered g Prim perm Point = refl
heads_of-reordered g Prim perm Vertex = refl
heads_of-reordered g Point perm Detail = refl
heads_of-reordered g Point perm Prim = refl
heads_of-reordered g Point perm Point = refl
heads_of-reordered g Point perm Vertex = refl
heads_of-reordered g Vertex perm other = refl

module _ (g : Geo) (perm : List ℕ) where
  -- POINTS
  pub points_of-reordered : rows_of (reordered g Point perm) Point ≡ picked (rows_of g Point) empty_row perm
  points_of-reordered = refl

  point_rows : IsSound g → IsOrderOf (count_of g Point) perm → (class : Class) → All (IsRowOf (heads_of (reordered g Point perm) class)) (rows_of (reordered g Point perm) class)
  point_rows sound is Detail = sound.rows Detail
  point_rows sound is Prim = subst (All (IsRowOf g.prim)) (sym (rows_of-renumbered (place_in perm) g.prims)) (sound.rows Prim)
  point_rows sound is Point = All-permutation (IsRowOf g.point) g.points (picked g.points empty_row perm) (IsPermutation-picked (length g.points) perm is g.points empty_row refl) (sound.rows Point)
  point_rows sound is Vertex = subst (All (IsRowOf g.vertex)) (sym (vertex_rows_of-renumbered (place_in perm) g.prims)) (sound.rows Vertex)

  IsSound-points : IsSound g → IsOrderOf (count_of g Point) perm → IsSound (reordered g Point perm)
  IsSound-points sound is = record {
    detail_groups = sound.detail_groups;
    named = λ class. subst IsNamed (sym (heads_of-reordered g Point perm class)) (sound.named class);
    rows = point_rows sound is;
    position = sound.position;
    points =
        let P : Corner → Type 0 = λ c. c.point < length (picked g.points empty_row perm) in
        let long = length-map perm (λ i. get_or g.points i empty_row) in
        let e = length-order (length g.points) perm is in
        subst (All P) (sym (corners_of-renumbered (place_in perm) g.prims))
        (All-map P (renumbered_corner (place_in perm)) (corners_of g.prims)
        (All-weaker (λ c. c.point < length g.points) (λ c. P (renumbered_corner (place_in perm) c)) (λ c lt. let p = place_in-lt (length g.points) perm is c.point lt in omega arith) (corners_of g.prims) sound.points));
  }

  IsGood-points : IsGood g → IsOrderOf (count_of g Point) perm → IsGood (reordered g Point perm)
  IsGood-points good is = record {
    sound = IsSound-points good.sound is;
    corners =
        let P : ℕ → Type 0 = λ n. 0 < n in
        All-under_map P size_of (map (renumbered (place_in perm)) g.prims) (subst (All P) (sym (sizes_of-renumbered (place_in perm) g.prims)) (All-map P size_of g.prims good.corners));
  }

  IsWithin-points : IsWithin g → IsOrderOf (count_of g Point) perm → IsWithin (reordered g Point perm)
  IsWithin-points within is =
      IsWithin-from (reordered g Point perm)
      (let a = length-map perm (λ i. get_or g.points i empty_row) in let b = length-order (length g.points) perm is in let c = (within_points within) in omega arith)
      (let a = length-map g.prims (renumbered (place_in perm)) in let b = (within_prims within) in omega arith)
      (let a = vertices_of-renumbered (place_in perm) g.prims in let b = (within_vertices within) in omega arith)
      (within_heads within)
      (within_groups within)

  -- PRIMITIVES
  pub prims_of-reordered : IsOrderOf (count_of g Prim) perm → rows_of (reordered g Prim perm) Prim ≡ picked (rows_of g Prim) empty_row perm
  prims_of-reordered is = map-picked (count_of g Prim) perm is (λ p. p.row) g.prims no_prim empty_row (sym (length-map g.prims (λ p. p.row)))

  prims_permuted : IsOrderOf (count_of g Prim) perm → IsPermutation g.prims (picked g.prims no_prim perm)
  prims_permuted is = IsPermutation-picked (count_of g Prim) perm is g.prims no_prim (sym (length-map g.prims (λ p. p.row)))

  prims_sound : IsSound g → IsOrderOf (count_of g Prim) perm → All (IsSoundCorner g) (corners_of (reordered g Prim perm).prims)
  prims_sound sound is =
      All-corners (IsSoundCorner g) (picked g.prims no_prim perm)
      (All-permutation (λ p. All (IsSoundCorner g) p.corners) g.prims (picked g.prims no_prim perm) (prims_permuted is) (All-by_prim (IsSoundCorner g) g.prims (sound_corners g sound)))

  prim_rows : IsSound g → IsOrderOf (count_of g Prim) perm → (class : Class) → All (IsRowOf (heads_of (reordered g Prim perm) class)) (rows_of (reordered g Prim perm) class)
  prim_rows sound is Detail = sound.rows Detail
  prim_rows sound is Prim =
      All-map (IsRowOf g.prim) (λ p. p.row) (picked g.prims no_prim perm)
      (All-permutation (λ p. IsRowOf g.prim p.row) g.prims (picked g.prims no_prim perm) (prims_permuted is) (All-under_map (IsRowOf g.prim) (λ p. p.row) g.prims (sound.rows Prim)))
  prim_rows sound is Point = sound.rows Point
  prim_rows sound is Vertex =
      All-map (IsRowOf g.vertex) (λ c. c.row) (corners_of (picked g.prims no_prim perm))
      (All-weaker (IsSoundCorner g) (λ c. IsRowOf g.vertex c.row) (λ c both. both.0) (corners_of (picked g.prims no_prim perm)) (prims_sound sound is))

  IsSound-prims : IsSound g → IsOrderOf (count_of g Prim) perm → IsSound (reordered g Prim perm)
  IsSound-prims sound is = record {
    detail_groups = sound.detail_groups;
    named = λ class. subst IsNamed (sym (heads_of-reordered g Prim perm class)) (sound.named class);
    rows = prim_rows sound is;
    position = sound.position;
    points = All-weaker (IsSoundCorner g) (λ c. c.point < length g.points) (λ c both. both.1) (corners_of (picked g.prims no_prim perm)) (prims_sound sound is);
  }

  IsGood-prims : IsGood g → IsOrderOf (count_of g Prim) perm → IsGood (reordered g Prim perm)
  IsGood-prims good is = record {
    sound = IsSound-prims good.sound is;
    corners = All-permutation (λ p. 0 < size_of p) g.prims (picked g.prims no_prim perm) (prims_permuted is) good.corners;
  }

  vertices_same : IsOrderOf (count_of g Prim) perm → length (corners_of (picked g.prims no_prim perm)) ≡ length (corners_of g.prims)
  vertices_same is = length-flat_map (λ p. p.corners) (picked g.prims no_prim perm) ∙ sum_by-IsPermutation size_of g.prims (picked g.prims no_prim perm) (prims_permuted is) ∙ sym (length-flat_map (λ p. p.corners) g.prims)

  IsWithin-prims : IsWithin g → IsOrderOf (count_of g Prim) perm → IsWithin (reordered g Prim perm)
  IsWithin-prims within is =
      IsWithin-from (reordered g Prim perm)
      (within_points within)
      (let a = length_permutation g.prims (picked g.prims no_prim perm) (prims_permuted is) in let b = (within_prims within) in omega arith)
      (let a = vertices_same is in let b = (within_vertices within) in omega arith)
      (within_heads within)
      (within_groups within)

  -- AS MANY ELEMENTS OF EACH CLASS
  points_counted : IsOrderOf (count_of g Point) perm → (class : Class) → count_of (reordered g Point perm) class ≡ count_of g class
  points_counted is Detail = refl
  points_counted is Prim = ap length (rows_of-renumbered (place_in perm) g.prims)
  points_counted is Point = length-map perm (λ i. get_or g.points i empty_row) ∙ length-order (length g.points) perm is
  points_counted is Vertex = ap length (vertex_rows_of-renumbered (place_in perm) g.prims)

  prims_counted : IsOrderOf (count_of g Prim) perm → (class : Class) → count_of (reordered g Prim perm) class ≡ count_of g class
  prims_counted is Detail = refl
  prims_counted is Prim = length-map (picked g.prims no_prim perm) (λ p. p.row) ∙ length_permutation g.prims (picked g.prims no_prim perm) (prims_permuted is) ∙ sym (length-map g.prims (λ p. p.row))
  prims_counted is Point = refl
  prims_counted is Vertex = length-map (corners_of (picked g.prims no_prim perm)) (λ c. c.row) ∙ vertices_same is ∙ sym (length-map (corners_of g.prims) (λ c. c.row))

-- EITHER

pub IsSound-reordered : (g : Geo) (class : Class) (perm : List ℕ) → IsSound g → IsOrderOf (count_of g class) perm → IsSound (reordered g class perm)
IsSound-reordered g Detail perm sound is = sound
IsSound-reordered g Prim perm sound is = IsSound-prims g perm sound is
IsSound-reordered g Point perm sound is = IsSound-points g perm sound is
IsSound-reordered g Vertex perm sound is = sound

pub IsGood-reordered : (g : Geo) (class : Class) (perm : List ℕ) → IsGood g → IsOrderOf (count_of g class) perm → IsGood (reordered g class perm)
IsGood-reordered g Detail perm good is = good
IsGood-reordered g Prim perm good is = IsGood-prims g perm good is
IsGood-reordered g Point perm good is = IsGood-points g perm good is
IsGood-reordered g Vertex perm good is = good

pub IsWithin-reordered : (g : Geo) (class : Class) (perm : List ℕ) → IsWithin g → IsOrderOf (count_of g class) perm → IsWithin (reordered g class perm)
IsWithin-reordered g Detail perm within is = within
IsWithin-reordered g Prim perm within is = IsWithin-prims g perm within is
IsWithin-reordered g Point perm within is = IsWithin-points g perm within is
IsWithin-reordered g Vertex perm within is = within

pub count_of-reordered : (g : Geo) (class : Class) (perm : List ℕ) → IsOrderOf (count_of g class) perm → (other : Class) → count_of (reordered g class perm) other ≡ count_of g other
count_of-reordered g Detail perm is other = refl
count_of-reordered g Prim perm is other = prims_counted g perm is other
count_of-reordered g Point perm is other = points_counted g perm is other
count_of-reordered g Vertex perm is other = refl

-- the rows of the class are the old ones, moved
pub rows_moved : (g : Geo) (class : Class) (perm : List ℕ) → IsOrderOf (count_of g class) perm → IsPermutation (rows_of g class) (rows_of (reordered g class perm) class)
rows_moved g Detail perm is = IsPermutation-refl (rows_of g Detail)
rows_moved g Prim perm is = IsPermutation-map (λ p. p.row) g.prims (picked g.prims no_prim perm) (prims_permuted g perm is)
rows_moved g Point perm is = IsPermutation-picked (length g.points) perm is g.points empty_row refl
rows_moved g Vertex perm is = IsPermutation-refl (rows_of g Vertex)

-- the row of a point stands under its new number
pub row_at_place : (g : Geo) (perm : List ℕ) → IsOrderOf (count_of g Point) perm → (point : ℕ) (d : Row) → point < count_of g Point → get_or (rows_of (reordered g Point perm) Point) (place_in perm point) d ≡ get_or (rows_of g Point) point empty_row
row_at_place g perm is point d lt =
    let e = length-order (length g.points) perm is in
    let within : place_in perm point < length perm = let p = place_in-lt (length g.points) perm is point lt in omega arith in
    get_or-map (λ i. get_or g.points i empty_row) perm (place_in perm point) 0 d within ∙ ap (λ i. get_or g.points i empty_row) (at_place (length g.points) perm is point 0 lt)
