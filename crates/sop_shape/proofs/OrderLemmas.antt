-- The shape of a geometry in another order, and the places where numbers stand in an order.
use Rattle.std.proofs.Common.{◌≡◌, ℕ, zero, suc, ◌+◌, ◌-◌, ◌<◌, ◌≤◌, Bool, false, not, cond, eqb, List, [], ◌∷◌, ◌++◌, length, map, get_or, set, take, drop, refl, ap, sym, ◌∙◌, subst, arith, inl, inr, length-append, append_assoc}
use Rattle.std.specs.Prelude.{All, sum_by}
use Rattle.std.specs.List.{range_with_len}
use Rattle.std.proofs.lemmas.Bool.{cases_Bool, eqb-true, eqb-false}
use Rattle.std.proofs.lemmas.List.{append-nil, length-map, map-append, length-set, take_more, take-append-drop, drop_more, get_or-set_same, get_or-set_other}
use Rattle.std.proofs.lemmas.List.Concat.{flat_map-append}
use Rattle.std.proofs.lemmas.List.FromFn.{length-range_with_len}
use Rattle.std.proofs.lemmas.List.Sums.{sum_by-cons, sum_by_more}
use Rattle.std.proofs.lemmas.List.Elements.{All-nil, All-cons, All-head, All-tail, All-append, All-weaker}
use Rattle.sop_model.specs.declared.class.Class.TheVariants.{Prim, Point, Vertex}
use Rattle.sop_model.specs.declared.geo.Geo.{Geo}
use Rattle.sop_model.specs.declared.geo.Primitive.{Primitive}
use Rattle.sop_model.specs.Geometry.{count_of}
use Rattle.sop_model.specs.Vertices.{size_of, corners_of, first_vertex_in, ends_of}
use Rattle.sop_model.specs.Rows.{place_in, no_prim, picked, renumbered, reordered, IsOrderOf}
use Rattle.sop_model.proofs.RowLists.{map_agree}
use Rattle.sop_model.proofs.VerticesLemmas.{ends_of-push, first_vertex_in-le}
use Rattle.sop_rows.specs.Parts.{vertices_with}
use Rattle.sop_rows.proofs.OrderOps.{length-order, order_within, place_in-lt, sizes_of-renumbered, count_of-reordered}
use Rattle.sop_rows.proofs.PartLemmas.{closed_of-renumbered, refers_of-renumbered, closed_of-reordered, refers_of-reordered}
use Rattle.sop_shape.specs.Shapes.{ShapeLists, shape_with, HasShape, IsShape}
use Rattle.sop_shape.specs.Tests.{number_at}
use Rattle.sop_shape.proofs.ReadLemmas.{closed_is, ends_is, refers_is, count_prims, prims_counted, vertices_counted}
use Rattle.sop_shape.proofs.GrowLemmas.{ends_by_sizes}
use Rattle.sop_shape.proofs.SortLemmas.{range_more}
use Rattle.sop_shape.proofs.AddLemmas.{read_alike}

-- WHERE NUMBERS STAND

-- the numbers that stand from a place on have the first such place
pub record IsInverting (perm : List ℕ) (left : ℕ) (places : List ℕ) : Type 0 where
  pub within : left ≤ length perm
  pub long : length places ≡ length perm
  pub each : (n : ℕ) → place_in (drop left perm) n < length perm - left → number_at places n ≡ left + place_in (drop left perm) n

module _ (perm : List ℕ) (is : IsOrderOf (length perm) perm) where
  pub number_within : (k d : ℕ) → k < length perm → get_or perm k d < length perm
  number_within k d lt = order_within (length perm) perm is k d lt

  each_more : (left n : ℕ) (places : List ℕ) → left < length perm → IsInverting perm (left + 1) places → place_in (get_or perm left 0 ∷ drop (left + 1) perm) n < length perm - left
      → number_at (set places (get_or perm left 0) left) n ≡ left + place_in (get_or perm left 0 ∷ drop (left + 1) perm) n
  each_more left n places lt inverting near =
      let x = get_or perm left 0 in
      let small = number_within left 0 lt in
      let rest = place_in (drop (left + 1) perm) n in
      let place = λ (b : Bool). cond (not b) (1 + rest) 0 in
      elim (cases_Bool (eqb x n)) [
        | inl here ↦
            let first : place_in (x ∷ drop (left + 1) perm) n ≡ 0 = ap place here in
            ap (λ m. get_or (set places x left) m 0) (sym (eqb-true x n here)) ∙ get_or-set_same places x left 0 (omega (arith, inverting.long)) ∙ omega arith
        | inr other ↦
            let later : place_in (x ∷ drop (left + 1) perm) n ≡ 1 + rest = ap place other in
            let apart : n ≡ x → ⊥ = λ e. eqb-false x n other (sym e) in
            let was = inverting.each n (omega arith) in
            get_or-set_other places x n left 0 apart ∙ was ∙ omega arith
      ]

  -- one number more, from behind
  pub inverting_more : (left x : ℕ) (places new : List ℕ) → left < length perm → x ≡ get_or perm left 0 → new ≡ set places x left → IsInverting perm (left + 1) places → IsInverting perm left new
  inverting_more left x places new lt x_is new_is inverting =
      let put : new ≡ set places (get_or perm left 0) left = new_is ∙ ap (λ n. set places n left) x_is in
      let rest = drop_more perm left 0 lt in
      record {
        within = omega arith;
        long = ap length put ∙ length-set places (get_or perm left 0) left ∙ inverting.long;
        each = λ n near.
            let near_too : place_in (get_or perm left 0 ∷ drop (left + 1) perm) n < length perm - left = subst (λ ks. place_in ks n < length perm - left) rest near in
            ap (λ ns. number_at ns n) put ∙ each_more left n places lt inverting near_too ∙ ap (λ ks. left + place_in ks n) (sym rest);
      }

  pub inverted : (places : List ℕ) → IsInverting perm 0 places → (n : ℕ) → n < length perm → number_at places n ≡ place_in perm n
  inverted places inverting n lt = let near = place_in-lt (length perm) perm is n lt in inverting.each n (omega arith) ∙ omega arith

-- VERTICES WITH THEIR PRIMITIVES

range_below : (a n : ℕ) → All (λ v. v < a + n) (range_with_len a n)
range_below a zero = All-nil (λ v. v < a + 0)
range_below a (suc n) =
    let P : ℕ → Type 0 = λ v. v < a + suc n in
    All-cons P a (range_with_len (a + 1) n) (omega arith) (All-weaker (λ v. v < a + 1 + n) P (λ v lt. omega arith) (range_with_len (a + 1) n) (range_below (a + 1) n))

module _ (prims : List Primitive) where
  abbrev own : ℕ → List ℕ
  own i = range_with_len (first_vertex_in prims i) (get_or (map size_of prims) i 0)

  size_read : (i : ℕ) → get_or (map size_of prims) i 0 ≡ size_of (get_or prims i no_prim)
  size_read i = sym (read_alike size_of prims no_prim i)

  pub vertices_below : (is : List ℕ) → All (λ i. i < length prims) is → All (λ v. v < length (corners_of prims)) (vertices_with prims is)
  vertices_below [] all = All-nil (λ v. v < length (corners_of prims))
  vertices_below (i ∷ is) all =
      let P : ℕ → Type 0 = λ v. v < length (corners_of prims) in
      let more = sum_by_more size_of prims i no_prim (All-head (λ i. i < length prims) i is all) in
      let le = first_vertex_in-le prims (i + 1) in
      let size = size_read i in
      All-append P (own i) (vertices_with prims is) (All-weaker (λ v. v < first_vertex_in prims i + get_or (map size_of prims) i 0) P (λ v lt. omega arith) (own i) (range_below (first_vertex_in prims i) (get_or (map size_of prims) i 0)))
      (vertices_below is (All-tail (λ i. i < length prims) i is all))

  length-vertices_with : (is : List ℕ) → length (vertices_with prims is) ≡ sum_by size_of (picked prims no_prim is)
  length-vertices_with [] = refl
  length-vertices_with (i ∷ is) =
      let rest = length-vertices_with is in
      let one = length-append (own i) (vertices_with prims is) in
      let long = length-range_with_len (first_vertex_in prims i) (get_or (map size_of prims) i 0) in
      let size = size_read i in
      let sum = sum_by-cons size_of (get_or prims i no_prim) (picked prims no_prim is) in
      omega arith

  length-part : (k : ℕ) (is : List ℕ) → length (vertices_with prims (take k is)) ≤ length (vertices_with prims is)
  length-part k is =
      let both = ap (λ js. length (vertices_with prims js)) (sym (take-append-drop k is)) ∙ ap length (flat_map-append own (take k is) (drop k is)) ∙ length-append (vertices_with prims (take k is)) (vertices_with prims (drop k is)) in
      omega arith

  -- one primitive more
  vertices_push : (k : ℕ) (perm : List ℕ) → k < length perm → vertices_with prims (take (k + 1) perm) ≡ vertices_with prims (take k perm) ++ own (get_or perm k 0)
  vertices_push k perm lt =
      ap (vertices_with prims) (take_more perm k 0 lt) ∙ flat_map-append own (take k perm) (get_or perm k 0 ∷ []) ∙ ap (λ xs. vertices_with prims (take k perm) ++ xs) (append-nil (own (get_or perm k 0)))

  pub vertices_more : (k i first end : ℕ) (perm vertices new : List ℕ) → k < length perm → i ≡ get_or perm k 0 → i < length prims → first ≡ first_vertex_in prims i → end ≡ first_vertex_in prims (i + 1) → vertices ≡ vertices_with prims (take k perm)
      → new ≡ vertices ++ range_with_len first (end - first) → new ≡ vertices_with prims (take (k + 1) perm)
  vertices_more k i first end perm vertices new lt i_is small first_is end_is vertices_are new_is =
      let more = sum_by_more size_of prims i no_prim small in
      let size = size_read i in
      let many : end - first ≡ get_or (map size_of prims) i 0 = omega arith in
      new_is ∙ ap (λ n. vertices ++ range_with_len first n) many ∙ ap (λ n. vertices ++ range_with_len n (get_or (map size_of prims) i 0)) first_is ∙ ap (λ n. vertices ++ own n) i_is
      ∙ ap (λ xs. xs ++ own (get_or perm k 0)) vertices_are ∙ sym (vertices_push k perm lt)

  pub moved_end : (k : ℕ) (perm ends new vertices : List ℕ) (end : ℕ) → k < length perm → ends ≡ ends_of 0 (picked prims no_prim (take k perm)) → vertices ≡ vertices_with prims (take (k + 1) perm) → end ≡ length vertices → new ≡ ends ++ end ∷ []
      → new ≡ ends_of 0 (picked prims no_prim (take (k + 1) perm))
  moved_end k perm ends new vertices end lt ends_are vertices_are end_is new_is =
      let i = get_or perm k 0 in
      let p = get_or prims i no_prim in
      let before = picked prims no_prim (take k perm) in
      let long = ap length (vertices_push k perm lt) ∙ length-append (vertices_with prims (take k perm)) (own i) in
      let start = length-vertices_with (take k perm) in
      let many = length-range_with_len (first_vertex_in prims i) (get_or (map size_of prims) i 0) in
      let size = size_read i in
      let same = ap length vertices_are in
      let value : end ≡ 0 + sum_by size_of before + size_of p = omega arith in
      let picked_more : picked prims no_prim (take (k + 1) perm) ≡ before ++ p ∷ [] = ap (picked prims no_prim) (take_more perm k 0 lt) ∙ map-append (λ n. get_or prims n no_prim) (take k perm) (i ∷ []) in
      new_is ∙ ap (λ es. es ++ end ∷ []) ends_are ∙ ap (λ n. ends_of 0 before ++ n ∷ []) value ∙ sym (ends_of-push 0 before p) ∙ ap (ends_of 0) (sym picked_more)

-- there are as many vertices as before
vertices_same : (g : Geo) (perm : List ℕ) → IsOrderOf (count_of g Prim) perm → length (vertices_with g.prims perm) ≡ length (corners_of g.prims)
vertices_same g perm is =
    let refers = ap length (refers_of-reordered g perm is) in
    let picks = length-map (vertices_with g.prims perm) (λ v. get_or (map (λ c. c.point) (corners_of g.prims)) v 0) in
    let count = count_of-reordered g Prim perm is Vertex in
    let one = length-map (corners_of (reordered g Prim perm).prims) (λ c. c.point) in
    let two = length-map (corners_of (reordered g Prim perm).prims) (λ c. c.row) in
    let three = length-map (corners_of g.prims) (λ c. c.row) in
    omega arith

module _ (s : ShapeLists) (perm : List ℕ) (order : IsOrderOf (length s.closed) perm) where
  order_of : (g : Geo) → HasShape g s → IsOrderOf (count_of g Prim) perm
  order_of g has = subst (λ n. IsOrderOf n perm) (count_prims g s has) order

  pub perm_below : All (λ i. i < length s.closed) perm
  perm_below = order_within (length s.closed) perm order

  pub few_vertices : (is : IsShape s) (k : ℕ) (vertices : List ℕ) → vertices ≡ vertices_with is.geo.prims (take k perm) → length vertices ≤ length s.refers
  few_vertices is k vertices are =
      let same = vertices_same is.geo perm (order_of is.geo is.has) in
      let part = length-part is.geo.prims k perm in
      let long = ap length are in
      let many = vertices_counted is.geo s is.has in
      omega arith

  pub vertices_in : (is : IsShape s) (vertices : List ℕ) → vertices ≡ vertices_with is.geo.prims perm → All (λ v. v < length s.refers) vertices
  vertices_in is vertices are =
      let prims = is.geo.prims in
      let below : All (λ i. i < length prims) perm = subst (λ n. All (λ i. i < n) perm) (prims_counted is.geo s is.has) perm_below in
      subst (All (λ v. v < length s.refers)) (sym are) (subst (λ n. All (λ v. v < n) (vertices_with prims perm)) (sym (vertices_counted is.geo s is.has)) (vertices_below prims perm below))

  module _ (cs : List Bool) (es rs vertices : List ℕ) (cs_are : cs ≡ picked s.closed false perm) (rs_are : rs ≡ picked s.refers 0 vertices) where
    pub has-reordered : (g : Geo) → HasShape g s → es ≡ ends_of 0 (picked g.prims no_prim perm) → vertices ≡ vertices_with g.prims perm → HasShape (reordered g Prim perm) (shape_with cs es rs)
    has-reordered g has es_are vertices_are =
        let is = order_of g has in
        let a = closed_of-reordered g perm is ∙ ap (λ xs. picked xs false perm) (sym (closed_is g s has)) ∙ sym cs_are in
        let b = sym es_are in
        let c = refers_of-reordered g perm is ∙ ap (λ xs. picked xs 0 (vertices_with g.prims perm)) (sym (refers_is g s has)) ∙ ap (picked s.refers 0) (sym vertices_are) ∙ sym rs_are in
        λ j. shape_with (a j) (b j) (c j)

    pub is-reordered : (is : IsShape s) → es ≡ ends_of 0 (picked is.geo.prims no_prim perm) → vertices ≡ vertices_with is.geo.prims perm → IsShape (shape_with cs es rs)
    is-reordered is es_are vertices_are = record {
      geo = reordered is.geo Prim perm;
      has = has-reordered is.geo is.has es_are vertices_are;
      prims = omega (arith, is.prims, ap length cs_are, length-map perm (λ i. get_or s.closed i false), length-order (length s.closed) perm order);
      vertices =
          omega (arith, is.vertices, ap length rs_are, length-map vertices (λ v. get_or s.refers v 0), ap length vertices_are, vertices_same is.geo perm (order_of is.geo is.has), vertices_counted is.geo s is.has);
    }

-- POINTS

module _ (s : ShapeLists) (perm : List ℕ) (cs : List Bool) (es rs places : List ℕ) (refers_below : All (λ n. n < length perm) s.refers) (places_are : (n : ℕ) → n < length perm → number_at places n ≡ place_in perm n) (cs_are : cs ≡ s.closed) (es_are : es ≡ s.ends) (rs_are : rs ≡ picked places 0 s.refers) where
  points_renumbered : rs ≡ map (place_in perm) s.refers
  points_renumbered =
      rs_are ∙ map_agree (λ n. get_or places n 0) (place_in perm) s.refers (All-weaker (λ n. n < length perm) (λ n. get_or places n 0 ≡ place_in perm n) (λ n lt. places_are n lt) s.refers refers_below)

  pub has-points_reordered : (g : Geo) → HasShape g s → HasShape (reordered g Point perm) (shape_with cs es rs)
  has-points_reordered g has =
      let f = place_in perm in
      let a = closed_of-renumbered f g.prims ∙ sym (closed_is g s has) ∙ sym cs_are in
      let b = ends_by_sizes 0 (map (renumbered f) g.prims) g.prims (sizes_of-renumbered f g.prims) ∙ sym (ends_is g s has) ∙ sym es_are in
      let c = refers_of-renumbered f g.prims ∙ ap (map f) (sym (refers_is g s has)) ∙ sym points_renumbered in
      λ j. shape_with (a j) (b j) (c j)

  pub is-points_reordered : IsShape s → IsShape (shape_with cs es rs)
  is-points_reordered is = record {
    geo = reordered is.geo Point perm;
    has = has-points_reordered is.geo is.has;
    prims = omega (arith, is.prims, ap length cs_are);
    vertices = omega (arith, is.vertices, ap length rs_are, length-map s.refers (λ n. get_or places n 0));
  }

-- one number of a range more
pub range_push : (first n : ℕ) (start numbers new : List ℕ) → first ≤ n → numbers ≡ start ++ range_with_len first (n - first) → new ≡ numbers ++ n ∷ [] → new ≡ start ++ range_with_len first (n + 1 - first)
range_push first n start numbers new le numbers_are new_is =
    let count = n - first in
    let last : n ≡ first + count = omega arith in
    let more : suc count ≡ n + 1 - first = omega arith in
    new_is ∙ ap (λ xs. xs ++ n ∷ []) numbers_are ∙ append_assoc start (range_with_len first count) (n ∷ []) ∙ ap (λ k. start ++ (range_with_len first count ++ k ∷ [])) last ∙ ap (λ xs. start ++ xs) (sym (range_more first count)) ∙ ap (λ k. start ++ range_with_len first k) more
