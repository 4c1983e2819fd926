-- The shape of what is left of a geometry, by the flags of what stays.
use Rattle.std.proofs.Common.{◌≡◌, ℕ, zero, suc, ◌+◌, ◌<◌, ◌≤◌, Bool, false, cond, ltb, List, [], ◌∷◌, length, map, get_or, refl, ap, sym, ◌∙◌, subst, arith, inl, inr}
use Rattle.std.specs.Prelude.{All}
use Rattle.std.specs.List.{range_with_len}
use Rattle.std.proofs.lemmas.Bool.{cases_Bool, ltb-false}
use Rattle.std.proofs.lemmas.List.{length-map}
use Rattle.std.proofs.lemmas.List.FromFn.{length-range_with_len, get_or-range_with_len}
use Rattle.std.proofs.lemmas.List.Elements.{All-weaker, All-map, All-get_or}
use Rattle.sop_model.specs.declared.class.Class.TheVariants.{Prim, Point, Vertex}
use Rattle.sop_model.specs.declared.geo.Geo.{Geo}
use Rattle.sop_model.specs.declared.geo.Primitive.{Primitive}
use Rattle.sop_model.specs.Geometry.{count_of}
use Rattle.sop_model.specs.Vertices.{size_of, ends_of}
use Rattle.sop_model.specs.Rows.{picked}
use Rattle.sop_model.specs.Sweep.{MarkSet, is_marked, stays, kept, how_many, swept}
use Rattle.sop_model.proofs.RowLists.{map_agree}
use Rattle.sop_model.proofs.VerticesLemmas.{get_or-ends_of, first_vertex_in-le}
use Rattle.sop_rows.specs.Parts.{how_many_from, sizes_kept}
use Rattle.sop_rows.proofs.KeptLemmas.{kept-yes, kept-no, All-kept, how_many-le, length-kept-le}
use Rattle.sop_rows.proofs.PartLemmas.{closed_of-swept, sizes_of-swept, refers_of-swept}
use Rattle.sop_shape.specs.Shapes.{ShapeLists, shape_with, HasShape, IsShape}
use Rattle.sop_shape.specs.Tests.{numbers_left, flags_of, AreCounts}
use Rattle.sop_shape.proofs.ReadLemmas.{closed_is, ends_is, refers_is, prims_counted, vertices_counted, ends_counted, count_prims, count_vertices}
use Rattle.sop_shape.proofs.CountLemmas.{kept_picked}
use Rattle.sop_shape.proofs.StayLemmas.{kept_agree, how_many_agree, flag_is, length-flags, prim_stays_by_ends}

-- ENDS OF WHAT IS LEFT

-- running ends of sizes
abbrev ends_from : ℕ → List ℕ → List ℕ
ends_from before [] = []
ends_from before (size ∷ sizes) = (before + size) ∷ ends_from (before + size) sizes

ends_by_size : (before : ℕ) (ps : List Primitive) → ends_of before ps ≡ ends_from before (map size_of ps)
ends_by_size before [] = refl
ends_by_size before (p ∷ ps) = ap (λ es. (before + size_of p) ∷ es) (ends_by_size (before + size_of p) ps)

-- the count up to the end of so many numbers
count_to : (t : ℕ → Bool) (v n : ℕ) → how_many t v + length (kept t v (range_with_len v n)) ≡ how_many t (v + n)
count_to t v n = counted v v n
  where
    counted : (a v n : ℕ) → how_many t v + length (kept t v (range_with_len a n)) ≡ how_many t (v + n)
    counted a v zero = let place : v ≡ v + 0 = omega arith in let e = ap (how_many t) place in omega arith
    counted a v (suc n) =
        let rest = counted (a + 1) (suc v) n in
        let place : suc v + n ≡ v + suc n = omega arith in
        let same = ap (how_many t) place in
        elim (cases_Bool (t v)) [
          | inl stays_here ↦
              let more : how_many t (suc v) ≡ how_many t v + 1 = ap (λ (b : Bool). how_many t v + cond b 1 0) stays_here in
              let long = ap length (kept-yes t v a (range_with_len (a + 1) n) stays_here) in
              omega arith
          | inr goes ↦
              let none : how_many t (suc v) ≡ how_many t v + 0 = ap (λ (b : Bool). how_many t v + cond b 1 0) goes in
              let long = ap length (kept-no t v a (range_with_len (a + 1) n) goes) in
              omega arith
        ]

-- the ends of the groups that are kept, where a group that goes has nothing that passes
kept_ends : (ps vs : ℕ → Bool) (n v : ℕ) (sizes : List ℕ) → ((i : ℕ) → i < length sizes → ps (n + i) ≡ false → how_many vs (get_or (v ∷ ends_from v sizes) i 0) ≡ how_many vs (get_or (ends_from v sizes) i 0))
    → ends_from (how_many vs v) (kept ps n (sizes_kept vs v sizes)) ≡ map (how_many vs) (kept ps n (ends_from v sizes))
kept_ends ps vs n v [] none = refl
kept_ends ps vs n v (z ∷ sizes) none =
    let here : how_many vs v + how_many_from vs v z ≡ how_many vs (v + z) = count_to vs v z in
    let sizes_left = sizes_kept vs (v + z) sizes in
    let ends_left = ends_from (v + z) sizes in
    let rest = kept_ends ps vs (suc n) (v + z) sizes (λ i lt goes. let place : suc n + i ≡ n + suc i = omega arith in none (suc i) (omega arith) (sym (ap ps place) ∙ goes)) in
    elim (cases_Bool (ps n)) [
      | inl stays_here ↦
          ap (ends_from (how_many vs v)) (kept-yes ps n (how_many_from vs v z) sizes_left stays_here) ∙ ap (λ k. k ∷ ends_from k (kept ps (suc n) sizes_left)) here ∙ ap (λ es. how_many vs (v + z) ∷ es) rest
          ∙ sym (ap (map (how_many vs)) (kept-yes ps n (v + z) ends_left stays_here))
      | inr goes ↦
          let place : n + 0 ≡ n = omega arith in
          let same : how_many vs v ≡ how_many vs (v + z) = none 0 (omega arith) (ap ps place ∙ goes) in
          ap (ends_from (how_many vs v)) (kept-no ps n (how_many_from vs v z) sizes_left goes) ∙ ap (λ k. ends_from k (kept ps (suc n) sizes_left)) same ∙ rest ∙ sym (ap (map (how_many vs)) (kept-no ps n (v + z) ends_left goes))
    ]

module _ (g : Geo) (s : ShapeLists) (has : HasShape g s) (m : MarkSet) where
  abbrev points_stay : ℕ → Bool
  points_stay = stays g m Point

  abbrev vertices_stay : ℕ → Bool
  vertices_stay = stays g m Vertex

  abbrev prims_stay : ℕ → Bool
  prims_stay = stays g m Prim

  none_between : (i : ℕ) → i < length g.prims → prims_stay (0 + i) ≡ false → how_many vertices_stay (get_or (0 ∷ ends_of 0 g.prims) i 0) ≡ how_many vertices_stay (get_or (ends_of 0 g.prims) i 0)
  none_between i lt goes =
      let place : 0 + i ≡ i = omega arith in
      let by : ltb (how_many vertices_stay (get_or (0 ∷ ends_of 0 g.prims) i 0)) (how_many vertices_stay (get_or (ends_of 0 g.prims) i 0)) ≡ false = sym (prim_stays_by_ends g s has m i lt) ∙ ap prims_stay (sym place) ∙ goes in
      let ge = ltb-false (how_many vertices_stay (get_or (0 ∷ ends_of 0 g.prims) i 0)) (how_many vertices_stay (get_or (ends_of 0 g.prims) i 0)) by in
      let le = how_many-le vertices_stay (get_or (0 ∷ ends_of 0 g.prims) i 0) (get_or (ends_of 0 g.prims) i 0) (ends_rise g.prims i lt) in
      omega arith
    where
      ends_rise_from : (before : ℕ) (ps : List Primitive) (i : ℕ) → i < length ps → get_or (before ∷ ends_of before ps) i 0 ≤ get_or (ends_of before ps) i 0
      ends_rise_from before [] i lt = absurd (omega arith)
      ends_rise_from before (p ∷ ps) zero lt = omega arith
      ends_rise_from before (p ∷ ps) (suc i) lt = ends_rise_from (before + size_of p) ps i (omega arith)

      ends_rise : (ps : List Primitive) (i : ℕ) → i < length ps → get_or (0 ∷ ends_of 0 ps) i 0 ≤ get_or (ends_of 0 ps) i 0
      ends_rise ps i lt = ends_rise_from 0 ps i lt

  ends_of-swept : ends_of 0 (swept g m).prims ≡ map (how_many vertices_stay) (kept prims_stay 0 (ends_of 0 g.prims))
  ends_of-swept =
      let sizes = map size_of g.prims in
      let same = ends_by_size 0 g.prims in
      ends_by_size 0 (swept g m).prims ∙ ap (ends_from 0) (sizes_of-swept g m)
      ∙ kept_ends prims_stay vertices_stay 0 0 sizes
      (λ i lt goes.
      let in_prims : i < length g.prims = omega (arith, length-map g.prims size_of) in
      ap (λ es. how_many vertices_stay (get_or (0 ∷ es) i 0)) (sym same) ∙ none_between i in_prims goes ∙ ap (λ es. how_many vertices_stay (get_or es i 0)) same)
      ∙ ap (λ es. map (how_many vertices_stay) (kept prims_stay 0 es)) (sym same)

  -- the places of the flags of a test
  numbers_by : (test : ℕ → Bool) (n : ℕ) (flags : List Bool) (numbers : List ℕ) → flags ≡ flags_of test n → numbers ≡ kept (is_marked flags) 0 (range_with_len 0 (length flags)) → numbers ≡ kept test 0 (range_with_len 0 n)
  numbers_by test n flags numbers flags_are is =
      let long : length flags ≡ n = ap length flags_are ∙ length-flags test n in
      is ∙ ap (λ fs. kept (is_marked fs) 0 (range_with_len 0 (length flags))) flags_are ∙ ap (λ k. kept (is_marked (flags_of test n)) 0 (range_with_len 0 k)) long
      ∙ kept_agree (is_marked (flags_of test n)) test 0 (range_with_len 0 n) (λ i le lt. let many = length-range_with_len 0 n in flag_is test n i (omega arith))

  -- counts of flags are counts of the test
  counts_by : (test : ℕ → Bool) (n : ℕ) (flags : List Bool) → flags ≡ flags_of test n → (i : ℕ) → i ≤ n → how_many (is_marked flags) i ≡ how_many test i
  counts_by test n flags flags_are i le = how_many_agree (is_marked flags) test i (λ k lt. ap (λ fs. is_marked fs k) flags_are ∙ flag_is test n k (omega arith))

  -- numbers that are kept, each counted anew
  renumbered_by : (test : ℕ → Bool) (n : ℕ) (flags : List Bool) (keep : ℕ → Bool) (old places new : List ℕ) → flags ≡ flags_of test n → All (λ k. k ≤ n) old → places ≡ kept keep 0 (range_with_len 0 (length old)) → new ≡ map (how_many (is_marked flags)) (picked old 0 places)
      → new ≡ map (how_many test) (kept keep 0 old)
  renumbered_by test n flags keep old places new flags_are within places_are new_is =
      let P : ℕ → Type 0 = λ k. k ≤ n in
      let inside : All P (kept keep 0 old) = All-kept keep P 0 old (λ i d lt passes. All-get_or P old i d lt within) in
      new_is ∙ ap (λ ps. map (how_many (is_marked flags)) (picked old 0 ps)) places_are ∙ ap (map (how_many (is_marked flags))) (sym (kept_picked keep 0 old))
      ∙ map_agree (how_many (is_marked flags)) (how_many test) (kept keep 0 old) (All-weaker P (λ k. how_many (is_marked flags) k ≡ how_many test k) (λ k le. counts_by test n flags flags_are k le) (kept keep 0 old) inside)

  -- what flags say of the classes
  module _ (points : ℕ) (point_flags vertex_flags prim_flags : List Bool) (points_are : point_flags ≡ flags_of points_stay points) (vertices_are : vertex_flags ≡ flags_of vertices_stay (length s.refers)) (prims_are : prim_flags ≡ flags_of prims_stay (length s.closed)) where
    pub points_left : (numbers : List ℕ) → count_of g Point ≡ points → numbers ≡ kept (is_marked point_flags) 0 (range_with_len 0 (length point_flags)) → numbers ≡ numbers_left g m Point
    points_left numbers many is = numbers_by points_stay points point_flags numbers points_are is ∙ ap (λ n. kept points_stay 0 (range_with_len 0 n)) (sym many)

    pub vertices_left : (numbers : List ℕ) → numbers ≡ kept (is_marked vertex_flags) 0 (range_with_len 0 (length vertex_flags)) → numbers ≡ numbers_left g m Vertex
    vertices_left numbers is = numbers_by vertices_stay (length s.refers) vertex_flags numbers vertices_are is ∙ ap (λ n. kept vertices_stay 0 (range_with_len 0 n)) (count_vertices g s has)

    pub prims_left : (numbers : List ℕ) → numbers ≡ kept (is_marked prim_flags) 0 (range_with_len 0 (length prim_flags)) → numbers ≡ numbers_left g m Prim
    prims_left numbers is = numbers_by prims_stay (length s.closed) prim_flags numbers prims_are is ∙ ap (λ n. kept prims_stay 0 (range_with_len 0 n)) (count_prims g s has)

    module _ (cs : List Bool) (es rs vertices prims : List ℕ) (below : All (λ n. n < points) s.refers) (vertices_is : vertices ≡ kept (is_marked vertex_flags) 0 (range_with_len 0 (length vertex_flags))) (prims_is : prims ≡ kept (is_marked prim_flags) 0 (range_with_len 0 (length prim_flags)))
        (cs_are : cs ≡ picked s.closed false prims) (es_are : es ≡ map (how_many (is_marked vertex_flags)) (picked s.ends 0 prims)) (rs_are : rs ≡ map (how_many (is_marked point_flags)) (picked s.refers 0 vertices)) where
      vertex_numbers : vertices ≡ kept vertices_stay 0 (range_with_len 0 (length s.refers))
      vertex_numbers = numbers_by vertices_stay (length s.refers) vertex_flags vertices vertices_are vertices_is

      prim_numbers : prims ≡ kept prims_stay 0 (range_with_len 0 (length s.closed))
      prim_numbers = numbers_by prims_stay (length s.closed) prim_flags prims prims_are prims_is

      ends_many : length s.closed ≡ length s.ends
      ends_many = prims_counted g s has ∙ sym (ends_counted g s has)

      ends_small : All (λ k. k ≤ length s.refers) s.ends
      ends_small k d lt =
          let many = ends_counted g s has in
          let end = ap (λ es. get_or es k d) (ends_is g s has) ∙ get_or-ends_of 0 g.prims k d (omega arith) in
          let few = first_vertex_in-le g.prims (suc k) in
          let vertices_many = vertices_counted g s has in
          omega arith

      pub has-swept : HasShape (swept g m) (shape_with cs es rs)
      has-swept =
          let a = closed_of-swept g m ∙ ap (kept prims_stay 0) (sym (closed_is g s has)) ∙ kept_picked prims_stay false s.closed ∙ ap (picked s.closed false) (sym prim_numbers) ∙ sym cs_are in
          let b = ends_of-swept ∙ ap (λ xs. map (how_many vertices_stay) (kept prims_stay 0 xs)) (sym (ends_is g s has))
          ∙ sym (renumbered_by vertices_stay (length s.refers) vertex_flags prims_stay s.ends prims es vertices_are ends_small (prim_numbers ∙ ap (λ n. kept prims_stay 0 (range_with_len 0 n)) ends_many) es_are) in
          let c = refers_of-swept g m ∙ ap (λ xs. map (how_many points_stay) (kept vertices_stay 0 xs)) (sym (refers_is g s has))
          ∙ sym (renumbered_by points_stay points point_flags vertices_stay s.refers vertices rs points_are (All-weaker (λ n. n < points) (λ n. n ≤ points) (λ n lt. omega arith) s.refers below) vertex_numbers rs_are) in
          λ j. shape_with (a j) (b j) (c j)

-- WHAT IS LEFT IS A SHAPE, AND PLACES ARE WITHIN

module _ (s : ShapeLists) (is : IsShape s) (m : MarkSet) (cs : List Bool) (es rs vertices prims : List ℕ) (has : HasShape (swept is.geo m) (shape_with cs es rs)) (cs_are : cs ≡ picked s.closed false prims) (rs_long : length rs ≡ length vertices) where
  pub is-swept : length prims ≤ length s.closed → length vertices ≤ length s.refers → IsShape (shape_with cs es rs)
  is-swept few_prims few_vertices = record {
    geo = swept is.geo m;
    has = has;
    prims = omega (arith, is.prims, ap length cs_are, length-map prims (λ i. get_or s.closed i false));
    vertices = omega (arith, is.vertices);
  }

-- places of flags are places of the list that has as many items
pub places_within : (test : ℕ → Bool) (n : ℕ) (places : List ℕ) → places ≡ kept test 0 (range_with_len 0 n) → All (λ k. k < n) places
places_within test n places are =
    subst (All (λ k. k < n)) (sym are) (All-kept test (λ k. k < n) 0 (range_with_len 0 n) (λ i d lt passes. let many = length-range_with_len 0 n in let at = get_or-range_with_len 0 n i d (omega arith) in omega arith))

pub places_few : (test : ℕ → Bool) (n : ℕ) (places : List ℕ) → places ≡ kept test 0 (range_with_len 0 n) → length places ≤ n
places_few test n places are = let few = length-kept-le test 0 (range_with_len 0 n) in let many = length-range_with_len 0 n in let same = ap length are in omega arith

-- counts read at numbers
pub counts_read : (flags : List Bool) (counts old made : List ℕ) → AreCounts flags counts → All (λ k. k ≤ length flags) old → made ≡ picked counts 0 old → made ≡ map (how_many (is_marked flags)) old
counts_read flags counts old made are within made_is =
    made_is ∙ map_agree (λ k. get_or counts k 0) (how_many (is_marked flags)) old (All-weaker (λ k. k ≤ length flags) (λ k. get_or counts k 0 ≡ how_many (is_marked flags) k) (λ k le. are.each k le) old within)

-- what holds of items holds of picked ones
pub All-picked : (P : ℕ → Type 0) (xs places : List ℕ) → All (λ n. n < length xs) places → All P xs → All P (picked xs 0 places)
All-picked P xs places within all =
    All-map P (λ i. get_or xs i 0) places (All-weaker (λ n. n < length xs) (λ n. P (get_or xs n 0)) (λ n lt. all n 0 lt) places within)

-- numbers that are no larger than there are flags have counts
pub counts_within : (flags : List Bool) (counts old : List ℕ) → AreCounts flags counts → All (λ k. k ≤ length flags) old → All (λ n. n < length counts) old
counts_within flags counts old are within = All-weaker (λ k. k ≤ length flags) (λ n. n < length counts) (λ k le. omega (arith, are.long)) old within
