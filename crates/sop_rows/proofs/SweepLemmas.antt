-- The sweep: what is left of each class, that it is well made, and that nothing goes where nothing is marked.
use Rattle.std.proofs.Common.{◌≡◌, ℕ, suc, ◌+◌, ◌-◌, ◌<◌, ◌≤◌, Bool, true, false, cond, not, ◌&&◌, ◌||◌, eqb, List, [], ◌∷◌, ◌++◌, length, map, get_or, refl, ap, sym, ◌∙◌, subst, arith, append_assoc, length-append, inl, inr}
use Rattle.std.specs.Prelude.{All, sum_by}
use Rattle.std.proofs.lemmas.Bool.{cases_Bool, cases_lt, or_left, or_right, or_parts, or_from, and_left, and_right, and_from, not-true, not_from_true, not_from_false, eq-eqb, lt-ltb, le-ltb}
use Rattle.std.proofs.lemmas.List.{length-map, map-append, get_or-map, get_or_at, take_at, get_or_past, append-nil}
use Rattle.std.proofs.lemmas.List.Concat.{length-flat_map}
use Rattle.std.proofs.lemmas.List.Elements.{All-nil, All-cons, All-head, All-tail, All-map, All-get_or}
use Rattle.sop_model.specs.declared.class.Class.{Class}
use Rattle.sop_model.specs.declared.class.Class.TheVariants.{Detail, Prim, Point, Vertex}
use Rattle.sop_model.specs.declared.geo.Geo.{Geo}
use Rattle.sop_model.specs.declared.geo.HeadSet.{HeadSet}
use Rattle.sop_model.specs.declared.geo.Corner.{Corner}
use Rattle.sop_model.specs.Limits.{most_heads, most_groups}
use Rattle.sop_model.specs.declared.geo.Primitive.{Primitive}
use Rattle.sop_model.specs.Vertices.{size_of, corners_of, first_vertex_in, prim_in}
use Rattle.sop_model.specs.Geometry.{heads_of, rows_of, count_of, IsNamed, IsRowOf, IsSound, IsGood, IsWithin}
use Rattle.sop_model.specs.Rows.{renumbered_corner, renumbered}
use Rattle.sop_model.specs.Sweep.{MarkSet, is_marked, some_from, point_under, vertex_goes, keeps_vertex, prim_goes, is_given_up, is_used, point_goes, stays, kept, how_many, corners_kept, swept, IsUnmarked}
use Rattle.sop_model.proofs.LimitsLemmas.{IsWithin-from, within_points, within_prims, within_vertices, within_heads, within_groups}
use Rattle.sop_model.proofs.RowLists.{All-under_map}
use Rattle.sop_rows.proofs.OrderOps.{corners_of-renumbered, rows_of-renumbered, vertex_rows_of-renumbered, sizes_of-renumbered}
use Rattle.sop_rows.proofs.ElementOps.{corners_of-append}
use Rattle.sop_rows.proofs.KeptLemmas.{kept-append, All-kept, kept_all, kept_none, kept_some, length-kept-le, map-kept, how_many-lt, how_many_all, length-kept, some_here, none_passes}

-- WHERE A PRIMITIVE STANDS

-- a vertex of a primitive that stands behind others
prim_in-behind : (before : List Primitive) (p : Primitive) (after : List Primitive) (j : ℕ) → j < size_of p → prim_in (before ++ p ∷ after) (length (corners_of before) + j) ≡ length before
prim_in-behind [] p after j lt =
    let place : 0 + j ≡ j = omega arith in
    ap (prim_in (p ∷ after)) place ∙ ap (λ (b : Bool). cond b 0 (suc (prim_in after (j - size_of p)))) (lt-ltb j (size_of p) lt)
prim_in-behind (q ∷ before) p after j lt =
    let vertex = length (q.corners ++ corners_of before) + j in
    let long = length-append q.corners (corners_of before) in
    let place : vertex - size_of q ≡ length (corners_of before) + j = omega arith in
    ap (λ (b : Bool). cond b 0 (suc (prim_in (before ++ p ∷ after) (vertex - size_of q)))) (le-ltb vertex (size_of q) (omega arith))
    ∙ ap (λ n. suc (prim_in (before ++ p ∷ after) n)) place ∙ ap suc (prim_in-behind before p after j lt)

first_behind : (before : List Primitive) (p : Primitive) (after : List Primitive) → first_vertex_in (before ++ p ∷ after) (length before) ≡ length (corners_of before)
first_behind before p after = ap (sum_by size_of) (take_at before (p ∷ after) (length before) refl) ∙ sym (length-flat_map (λ p. p.corners) before)

size_behind : (before : List Primitive) (p : Primitive) (after : List Primitive) → get_or (map size_of (before ++ p ∷ after)) (length before) 0 ≡ size_of p
size_behind before p after =
    ap (λ ns. get_or ns (length before) 0) (map-append size_of before (p ∷ after)) ∙ get_or_at (map size_of before) (size_of p) (map size_of after) 0 (length before) (length-map before size_of)

vertices_more : (before : List Primitive) (p : Primitive) → length (corners_of (before ++ p ∷ [])) ≡ length (corners_of before) + size_of p
vertices_more before p =
    let long = length-append (corners_of before) (p.corners ++ []) in
    let same = ap length (append-nil p.corners) in
    ap length (corners_of-append before (p ∷ [])) ∙ omega arith

module _ (g : Geo) (m : MarkSet) where
  -- whether a vertex, a primitive and a point stay
  abbrev vertex_stays : ℕ → Bool
  vertex_stays n = not (vertex_goes g m n)

  abbrev prim_stays : ℕ → Bool
  prim_stays n = not (prim_goes g m n)

  abbrev point_stays : ℕ → Bool
  point_stays n = not (point_goes g m n)

  keeps_only : (marked some : Bool) → (marked ≡ true → some ≡ false) → not (marked || not some) ≡ some
  keeps_only true some none = sym (none refl)
  keeps_only false true none = refl
  keeps_only false false none = refl

  -- a primitive stays exactly where one of its vertices does
  prim_stays_by : (before : List Primitive) (p : Primitive) (after : List Primitive) → g.prims ≡ before ++ p ∷ after → prim_stays (length before) ≡ some_from vertex_stays (length (corners_of before)) (size_of p)
  prim_stays_by before p after is =
      let n = length (corners_of before) in
      let some : keeps_vertex g m (length before) ≡ some_from vertex_stays n (size_of p) =
      ap (λ k. some_from vertex_stays k (get_or (map size_of g.prims) (length before) 0)) (ap (λ ps. first_vertex_in ps (length before)) is ∙ first_behind before p after)
      ∙ ap (some_from vertex_stays n) (ap (λ ps. get_or (map size_of ps) (length before) 0) is ∙ size_behind before p after) in
      keeps_only (is_marked m.prims (length before)) (keeps_vertex g m (length before))
      (λ marked. some ∙ none_passes vertex_stays n (size_of p) (λ i le lt. not_from_true (vertex_goes g m i) (its_vertex_goes marked i le lt)))
      ∙ some
    where
      its_vertex_goes : is_marked m.prims (length before) ≡ true → (i : ℕ) → length (corners_of before) ≤ i → i < length (corners_of before) + size_of p → vertex_goes g m i ≡ true
      its_vertex_goes marked i le lt =
          let place : length (corners_of before) + (i - length (corners_of before)) ≡ i = omega arith in
          let owner = ap (λ ps. prim_in ps i) is ∙ ap (prim_in (before ++ p ∷ after)) (sym place) ∙ prim_in-behind before p after (i - length (corners_of before)) (omega arith) in
          or_left (is_marked m.vertices i || is_marked m.prims (prim_in g.prims i)) (is_marked m.points (point_under g i))
          (or_right (is_marked m.vertices i) (is_marked m.prims (prim_in g.prims i)) (ap (is_marked m.prims) owner ∙ marked))

  -- the primitives that stay, with their vertices that stay
  abbrev left_from : ℕ → ℕ → List Primitive → List Primitive
  left_from p n prims = kept prim_stays p (corners_kept vertex_stays n prims)

  left_corners : (before rest : List Primitive) → g.prims ≡ before ++ rest → corners_of (left_from (length before) (length (corners_of before)) rest) ≡ kept vertex_stays (length (corners_of before)) (corners_of rest)
  left_corners before [] is = refl
  left_corners before (p ∷ rest) is =
      let n = length (corners_of before) in
      let own = kept vertex_stays n p.corners in
      let left = left_from (suc (length before)) (n + size_of p) rest in
      let next = more_corners before p rest (left_corners (before ++ p ∷ []) rest (is ∙ sym (append_assoc before (p ∷ []) rest))) in
      let by = prim_stays_by before p rest is in
      let whole = λ (b : Bool). corners_of (cond b (record p { corners = own } ∷ left) left) in
      elim (cases_Bool (prim_stays (length before))) [
        | inl here ↦ ap whole here ∙ ap (λ cs. own ++ cs) next ∙ sym (kept-append vertex_stays n p.corners (corners_of rest))
        | inr gone ↦
            ap whole gone ∙ next ∙ ap (λ cs. cs ++ kept vertex_stays (n + size_of p) (corners_of rest)) (sym (kept_none vertex_stays n p.corners (sym by ∙ gone)))
            ∙ sym (kept-append vertex_stays n p.corners (corners_of rest))
      ]
    where
      more_corners : (before : List Primitive) (p : Primitive) (rest : List Primitive)
          → corners_of (left_from (length (before ++ p ∷ [])) (length (corners_of (before ++ p ∷ []))) rest) ≡ kept vertex_stays (length (corners_of (before ++ p ∷ []))) (corners_of rest)
          → corners_of (left_from (suc (length before)) (length (corners_of before) + size_of p) rest) ≡ kept vertex_stays (length (corners_of before) + size_of p) (corners_of rest)
      more_corners before p rest same =
          let places : length (before ++ p ∷ []) ≡ suc (length before) = length-append before (p ∷ []) ∙ omega arith in
          let vertices : length (corners_of (before ++ p ∷ [])) ≡ length (corners_of before) + size_of p = vertices_more before p in
          ap (λ k. corners_of (left_from k (length (corners_of before) + size_of p) rest)) (sym places)
          ∙ ap (λ k. corners_of (left_from (length (before ++ p ∷ [])) k rest)) (sym vertices)
          ∙ same ∙ ap (λ k. kept vertex_stays k (corners_of rest)) vertices

  -- VERTICES: those that stay, in their order
  corners_left : corners_of (left_from 0 0 g.prims) ≡ kept vertex_stays 0 (corners_of g.prims)
  corners_left = left_corners [] g.prims refl

  pub corners_of-swept : corners_of (swept g m).prims ≡ map (renumbered_corner (how_many point_stays)) (kept vertex_stays 0 (corners_of g.prims))
  corners_of-swept = corners_of-renumbered (how_many point_stays) (left_from 0 0 g.prims) ∙ ap (map (renumbered_corner (how_many point_stays))) corners_left

  rows_left : (n : ℕ) (prims : List Primitive) → map (λ p. p.row) (corners_kept vertex_stays n prims) ≡ map (λ p. p.row) prims
  rows_left n [] = refl
  rows_left n (p ∷ prims) = ap (λ rest. p.row ∷ rest) (rows_left (n + size_of p) prims)

  -- the rows of each class are those of the elements that stay, in their order
  pub rows_of-swept : (class : Class) → rows_of (swept g m) class ≡ kept (stays g m class) 0 (rows_of g class)
  rows_of-swept Detail = refl
  rows_of-swept Prim = rows_of-renumbered (how_many point_stays) (left_from 0 0 g.prims) ∙ map-kept prim_stays (λ p. p.row) 0 (corners_kept vertex_stays 0 g.prims) ∙ ap (kept prim_stays 0) (rows_left 0 g.prims)
  rows_of-swept Point = refl
  rows_of-swept Vertex = vertex_rows_of-renumbered (how_many point_stays) (left_from 0 0 g.prims) ∙ ap (map (λ c. c.row)) corners_left ∙ map-kept vertex_stays (λ c. c.row) 0 (corners_of g.prims)

  pub heads_of-swept : (class : Class) → heads_of (swept g m) class ≡ heads_of g class
  heads_of-swept Detail = refl
  heads_of-swept Prim = refl
  heads_of-swept Point = refl
  heads_of-swept Vertex = refl

  pub count_of-swept : (class : Class) → count_of (swept g m) class ≡ how_many (stays g m class) (count_of g class)
  count_of-swept class = ap length (rows_of-swept class) ∙ length-kept (stays g m class) (rows_of g class)

  pub count_of-swept-le : (class : Class) → count_of (swept g m) class ≤ count_of g class
  count_of-swept-le class = let e = ap length (rows_of-swept class) in let le = length-kept-le (stays g m class) 0 (rows_of g class) in omega arith

  -- THE POINT OF A VERTEX THAT STAYS
  point_of_one_that_stays : (i : ℕ) → i < count_of g Vertex → vertex_stays i ≡ true → point_stays (point_under g i) ≡ true
  point_of_one_that_stays i lt stays =
      let point = point_under g i in
      let parts = or_parts (is_marked m.vertices i || is_marked m.prims (prim_in g.prims i)) (is_marked m.points point) (not-true (vertex_goes g m i) stays) in
      let test = λ (v : ℕ). not (vertex_goes g m v) && (eqb (point_under g v) point) in
      let used : is_used g m point ≡ true = some_here test 0 (count_of g Vertex) i (omega arith) (omega arith) (and_from (not (vertex_goes g m i)) (eqb point point) stays (eq-eqb point point refl)) in
      not_from_false (point_goes g m point) (or_from (is_marked m.points point) (is_given_up g m point && not (is_used g m point)) parts.1
      (and_right (is_given_up g m point) (not (is_used g m point)) (not_from_true (is_used g m point) used)))

  -- WHAT IS LEFT IS WELL MADE
  refers_left : IsSound g → All (λ c. c.point < length (swept g m).points) (corners_of (swept g m).prims)
  refers_left sound =
      let number = how_many point_stays in
      let P : Corner → Type 0 = λ c. c.point < length (swept g m).points in
      let long = length-kept point_stays g.points in
      subst (All P) (sym corners_of-swept)
      (All-map P (renumbered_corner number) (kept vertex_stays 0 (corners_of g.prims))
      (All-kept vertex_stays (λ c. number c.point < length (swept g m).points) 0 (corners_of g.prims)
      (λ i d lt stays.
      let place : 0 + i ≡ i = omega arith in
      let within : i < count_of g Vertex = let e = length-map (corners_of g.prims) (λ c. c.row) in omega arith in
      let here = point_of_one_that_stays i within (ap vertex_stays (sym place) ∙ stays) in
      let same = get_or-map (λ c. c.point) (corners_of g.prims) i d 0 lt in
      let below = All-get_or (λ c. c.point < length g.points) (corners_of g.prims) i d lt sound.points in
      let less = how_many-lt point_stays (get_or (corners_of g.prims) i d).point (length g.points) below (ap point_stays (sym same) ∙ here) in
      omega arith)))

  rows_of_left : IsSound g → (class : Class) → All (IsRowOf (heads_of (swept g m) class)) (rows_of (swept g m) class)
  rows_of_left sound class =
      let P = IsRowOf (heads_of g class) in
      subst (λ set. All (IsRowOf set) (rows_of (swept g m) class)) (sym (heads_of-swept class))
      (subst (All P) (sym (rows_of-swept class)) (All-kept (stays g m class) P 0 (rows_of g class) (λ i d lt stays. All-get_or P (rows_of g class) i d lt (sound.rows class))))

  pub IsSound-swept : IsSound g → IsSound (swept g m)
  IsSound-swept sound = record {
    detail_groups = sound.detail_groups;
    named = λ class. subst IsNamed (sym (heads_of-swept class)) (sound.named class);
    rows = rows_of_left sound;
    position = sound.position;
    points = refers_left sound;
  }

  sizes_left : (before rest : List Primitive) → g.prims ≡ before ++ rest → All (λ p. 0 < size_of p) (left_from (length before) (length (corners_of before)) rest)
  sizes_left before [] is = All-nil (λ p. 0 < size_of p)
  sizes_left before (p ∷ rest) is =
      let n = length (corners_of before) in
      let own = kept vertex_stays n p.corners in
      let P : Primitive → Type 0 = λ p. 0 < size_of p in
      let left = left_from (suc (length before)) (n + size_of p) rest in
      let next = more_sizes before p rest (sizes_left (before ++ p ∷ []) rest (is ∙ sym (append_assoc before (p ∷ []) rest))) in
      let by = prim_stays_by before p rest is in
      let whole = λ (b : Bool). cond b (record p { corners = own } ∷ left) left in
      elim (cases_Bool (prim_stays (length before))) [
        | inl here ↦ subst (All P) (sym (ap whole here)) (All-cons P (record p { corners = own }) left (kept_some vertex_stays n p.corners (sym by ∙ here)) next)
        | inr gone ↦ subst (All P) (sym (ap whole gone)) next
      ]
    where
      more_sizes : (before : List Primitive) (p : Primitive) (rest : List Primitive)
          → All (λ p. 0 < size_of p) (left_from (length (before ++ p ∷ [])) (length (corners_of (before ++ p ∷ []))) rest)
          → All (λ p. 0 < size_of p) (left_from (suc (length before)) (length (corners_of before) + size_of p) rest)
      more_sizes before p rest all =
          let places : length (before ++ p ∷ []) ≡ suc (length before) = length-append before (p ∷ []) ∙ omega arith in
          subst (λ k. All (λ p. 0 < size_of p) (left_from (suc (length before)) k rest)) (vertices_more before p)
          (subst (λ k. All (λ p. 0 < size_of p) (left_from k (length (corners_of (before ++ p ∷ []))) rest)) places all)

  -- no primitive that stays is without vertices, whatever stood before
  pub IsGood-swept : IsSound g → IsGood (swept g m)
  IsGood-swept sound = record {
    sound = IsSound-swept sound;
    corners =
        let P : ℕ → Type 0 = λ n. 0 < n in
        let left = left_from 0 0 g.prims in
        All-under_map P size_of (swept g m).prims (subst (All P) (sym (sizes_of-renumbered (how_many point_stays) left)) (All-map P size_of left (sizes_left [] g.prims refl)));
  }

  pub IsWithin-swept : IsWithin g → IsWithin (swept g m)
  IsWithin-swept within =
      IsWithin-from (swept g m)
      (let a = within_points within in let b = count_of-swept-le Point in omega arith)
      (let a = within_prims within in let b = count_of-swept-le Prim in let c = length-map g.prims (λ p. p.row) in let d = length-map (swept g m).prims (λ p. p.row) in omega arith)
      (let a = within_vertices within in let b = count_of-swept-le Vertex in let c = length-map (corners_of g.prims) (λ c. c.row) in let d = length-map (corners_of (swept g m).prims) (λ c. c.row) in omega arith)
      (λ class. subst (λ (set : HeadSet). length set.heads ≤ most_heads) (sym (heads_of-swept class)) (within_heads within class))
      (λ class. subst (λ (set : HeadSet). length set.groups ≤ most_groups) (sym (heads_of-swept class)) (within_groups within class))

-- WHERE NOTHING IS MARKED

unmarked : (flags : List Bool) → All (λ on. on ≡ false) flags → (n : ℕ) → is_marked flags n ≡ false
unmarked flags none n = elim (cases_lt n (length flags)) [
  | inl lt ↦ none n false lt
  | inr past ↦ get_or_past flags n false past
]

module _ (g : Geo) (m : MarkSet) (none : IsUnmarked m) where
  vertex_kept : (i : ℕ) → vertex_stays g m i ≡ true
  vertex_kept i =
      not_from_false (vertex_goes g m i)
      (or_from (is_marked m.vertices i || is_marked m.prims (prim_in g.prims i)) (is_marked m.points (point_under g i))
      (or_from (is_marked m.vertices i) (is_marked m.prims (prim_in g.prims i)) (unmarked m.vertices none.vertices i) (unmarked m.prims none.prims (prim_in g.prims i))) (unmarked m.points none.points (point_under g i)))

  given_up_nowhere : (point : ℕ) → is_given_up g m point ≡ false
  given_up_nowhere point =
      none_passes (λ v. is_marked m.prims (prim_in g.prims v) && is_marked m.with_points (prim_in g.prims v) && (eqb (point_under g v) point)) 0 (count_of g Vertex)
      (λ i le lt. and_left (is_marked m.prims (prim_in g.prims i) && is_marked m.with_points (prim_in g.prims i)) (eqb (point_under g i) point)
      (and_left (is_marked m.prims (prim_in g.prims i)) (is_marked m.with_points (prim_in g.prims i)) (unmarked m.prims none.prims (prim_in g.prims i))))

  point_kept : (point : ℕ) → point_stays g m point ≡ true
  point_kept point =
      not_from_false (point_goes g m point) (or_from (is_marked m.points point) (is_given_up g m point && not (is_used g m point)) (unmarked m.points none.points point)
      (and_left (is_given_up g m point) (not (is_used g m point)) (given_up_nowhere point)))

  number_same : (n : ℕ) → how_many (point_stays g m) n ≡ n
  number_same n = how_many_all (point_stays g m) point_kept n

  corners_same : (cs : List Corner) → map (renumbered_corner (how_many (point_stays g m))) cs ≡ cs
  corners_same [] = refl
  corners_same (c ∷ cs) =
      let here = number_same c.point in
      let rest = corners_same cs in
      λ j. record { point = here j; row = c.row } ∷ rest j

  prims_same : (ps : List Primitive) → map (renumbered (how_many (point_stays g m))) ps ≡ ps
  prims_same [] = refl
  prims_same (p ∷ ps) =
      let here = corners_same p.corners in
      let rest = prims_same ps in
      λ j. record { closed = p.closed; row = p.row; corners = here j } ∷ rest j

  left_same : (before rest : List Primitive) → g.prims ≡ before ++ rest → All (λ p. 0 < size_of p) rest → left_from g m (length before) (length (corners_of before)) rest ≡ rest
  left_same before [] is sizes = refl
  left_same before (p ∷ rest) is sizes =
      let P : Primitive → Type 0 = λ p. 0 < size_of p in
      let n = length (corners_of before) in
      let some = some_here (vertex_stays g m) n (size_of p) n (omega arith) (let lt = All-head P p rest sizes in omega arith) (vertex_kept n) in
      let here = prim_stays_by g m before p rest is ∙ some in
      let own = kept_all (vertex_stays g m) n p.corners (λ i le lt. vertex_kept i) in
      let next = more_same before p rest (left_same (before ++ p ∷ []) rest (is ∙ sym (append_assoc before (p ∷ []) rest)) (All-tail P p rest sizes)) in
      let left = left_from g m (suc (length before)) (n + size_of p) rest in
      ap (λ (b : Bool). cond b (record p { corners = kept (vertex_stays g m) n p.corners } ∷ left) left) here
      ∙ (λ j. record { closed = p.closed; row = p.row; corners = own j } ∷ next j)
    where
      more_same : (before : List Primitive) (p : Primitive) (rest : List Primitive)
          → left_from g m (length (before ++ p ∷ [])) (length (corners_of (before ++ p ∷ []))) rest ≡ rest
          → left_from g m (suc (length before)) (length (corners_of before) + size_of p) rest ≡ rest
      more_same before p rest same =
          let places : length (before ++ p ∷ []) ≡ suc (length before) = length-append before (p ∷ []) ∙ omega arith in
          ap (λ k. left_from g m k (length (corners_of before) + size_of p) rest) (sym places) ∙ ap (λ k. left_from g m (length (before ++ p ∷ [])) k rest) (sym (vertices_more before p)) ∙ same

  -- a well made geometry stays as it is
  pub swept-unmarked : IsGood g → swept g m ≡ g
  swept-unmarked good =
      let points = kept_all (point_stays g m) 0 g.points (λ i le lt. point_kept i) in
      let prims = prims_same (left_from g m 0 0 g.prims) ∙ left_same [] g.prims refl good.corners in
      λ j. record g { points = points j; prims = prims j }
