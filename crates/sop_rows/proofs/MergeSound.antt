-- A merge of well made geometries is well made.
use Rattle.std.proofs.Common.{◌≡◌, ℕ, ◌+◌, ◌<◌, ◌≤◌, Bool, true, List, [], ◌∷◌, ◌++◌, length, map, Option, refl, ap, sym, ◌∙◌, subst, arith}
use Rattle.std.specs.Prelude.{All}
use Rattle.std.specs.List.{flat_map, list_all}
use Rattle.std.proofs.lemmas.Bool.{and_parts, and_from}
use Rattle.std.proofs.lemmas.List.{length-map, map-append}
use Rattle.std.proofs.lemmas.List.Elements.{All-nil, All-cons, All-head, All-tail, All-append, All-weaker, All-map}
use Rattle.sop_model.specs.declared.class.Class.{Class}
use Rattle.sop_model.specs.declared.class.Class.TheVariants.{Detail, Prim, Point, Vertex}
use Rattle.sop_model.specs.declared.geo.Geo.{Geo}
use Rattle.sop_model.specs.declared.geo.Row.{Row}
use Rattle.sop_model.specs.declared.geo.Head.{Head}
use Rattle.sop_model.specs.declared.geo.HeadSet.{HeadSet}
use Rattle.sop_model.specs.declared.geo.Corner.{Corner}
use Rattle.sop_model.specs.declared.geo.Primitive.{Primitive}
use Rattle.sop_model.specs.declared.value.Value.{Value}
use Rattle.sop_model.specs.Names.{is_name, are_distinct}
use Rattle.sop_model.specs.Values.{kind_of}
use Rattle.sop_model.specs.Vertices.{size_of, corners_of}
use Rattle.sop_model.specs.Geometry.{heads_of, rows_of, empty_geo, IsNamed, IsRowOf, BeginsWithPosition, IsSound, IsGood}
use Rattle.sop_model.specs.Merge.{first_names, joined_set, value_under, flag_under, fitted, row_under, moved_corner, detail_value, joined, merged}
use Rattle.sop_model.specs.Appending.{appended}
use Rattle.sop_model.proofs.PlainLemmas.{IsSound-empty_geo}
use Rattle.sop_model.proofs.RowLists.{All-left, All-right}
use Rattle.sop_rows.proofs.FirstLemmas.{firsts, firsts_distinct, list_all-firsts}
use Rattle.sop_rows.proofs.ElementOps.{corners_of-append}
use Rattle.sop_rows.proofs.MergeLemmas.{head_name, own_name, first_heads_is, first_names_is, kind_of-fitted, heads_of-joined, all_heads, all_groups}
use Rattle.sop_rows.proofs.AppendLemmas.{points_in, points_in-cons, length-points_joined, moved_with, prims_with, joined_prims_is}

-- NAMES

list_all-append : {X : Type 0} (p : X → Bool) (xs ys : List X) → list_all p xs ≡ true → list_all p ys ≡ true → list_all p (xs ++ ys) ≡ true
list_all-append p [] ys one two = two
list_all-append p (x ∷ xs) ys one two = let both = and_parts (p x) (list_all p xs) one in and_from (p x) (list_all p (xs ++ ys)) both.0 (list_all-append p xs ys both.1 two)

head_names : (class : Class) (gs : List Geo) → All IsSound gs → list_all is_name (map head_name (all_heads class gs)) ≡ true
head_names class [] sound = refl
head_names class (g ∷ gs) sound =
    ap (list_all is_name) (map-append head_name (heads_of g class).heads (all_heads class gs))
    ∙ list_all-append is_name (map head_name (heads_of g class).heads) (map head_name (all_heads class gs)) ((All-head IsSound g gs sound).named class).heads (head_names class gs (All-tail IsSound g gs sound))

group_names : (class : Class) (gs : List Geo) → All IsSound gs → list_all is_name (all_groups class gs) ≡ true
group_names class [] sound = refl
group_names class (g ∷ gs) sound = list_all-append is_name (heads_of g class).groups (all_groups class gs) ((All-head IsSound g gs sound).named class).groups (group_names class gs (All-tail IsSound g gs sound))

pub as_own : (names : List (List ℕ)) → map own_name names ≡ names
as_own [] = refl
as_own (name ∷ names) = ap (λ r. name ∷ r) (as_own names)

pub IsNamed-joined_set : (class : Class) (gs : List Geo) → All IsSound gs → IsNamed (joined_set class gs)
IsNamed-joined_set class gs sound =
    let hs = sym (first_heads_is (all_heads class gs)) in
    let ns = sym (first_names_is (all_groups class gs)) in
    let names = list_all-firsts own_name is_name (all_groups class gs) (ap (list_all is_name) (as_own (all_groups class gs)) ∙ group_names class gs sound) in
    record {
      heads = subst (λ hs. list_all is_name (map head_name hs) ≡ true) hs (list_all-firsts head_name is_name (all_heads class gs) (head_names class gs sound));
      groups = subst (λ ns. list_all is_name ns ≡ true) ns (ap (list_all is_name) (sym (as_own (firsts own_name (all_groups class gs)))) ∙ names);
      distinct_heads = subst (λ hs. are_distinct (map head_name hs) ≡ true) hs (firsts_distinct head_name (all_heads class gs));
      distinct_groups = subst (λ ns. are_distinct ns ≡ true) ns (ap are_distinct (sym (as_own (firsts own_name (all_groups class gs)))) ∙ firsts_distinct own_name (all_groups class gs));
    }

-- ROWS

fitted_kinds : (f : Head → Option Value) (hs : List Head) → map kind_of (map (λ h. fitted h (f h)) hs) ≡ map (λ h. h.kind) hs
fitted_kinds f [] = refl
fitted_kinds f (h ∷ hs) =
    let here = kind_of-fitted h (f h) in
    let rest = fitted_kinds f hs in
    cc

pub IsRowOf-row_under : (new old : HeadSet) (row : Row) → IsRowOf new (row_under new old row)
IsRowOf-row_under new old row = record {
  kinds = fitted_kinds (λ h. value_under old.heads row.values h.name) new.heads;
  flags = length-map new.groups (flag_under old.groups row.flags);
}

All-row_under : (new old : HeadSet) (rows : List Row) → All (IsRowOf new) (map (row_under new old) rows)
All-row_under new old [] = All-nil (IsRowOf new)
All-row_under new old (r ∷ rows) = All-cons (IsRowOf new) (row_under new old r) (map (row_under new old) rows) (IsRowOf-row_under new old r) (All-row_under new old rows)

point_rows : (new : HeadSet) (gs : List Geo) → All (IsRowOf new) (flat_map (λ g. map (row_under new g.point) g.points) gs)
point_rows new [] = All-nil (IsRowOf new)
point_rows new (g ∷ gs) = All-append (IsRowOf new) (map (row_under new g.point) g.points) (flat_map (λ g. map (row_under new g.point) g.points) gs) (All-row_under new g.point g.points) (point_rows new gs)

-- PRIMITIVES AND VERTICES

module _ (prim vertex : HeadSet) where
  moved_rows : (g : Geo) (before : ℕ) (ps : List Primitive) → All (IsRowOf prim) (map (λ p. p.row) (map (moved_with prim g.prim vertex g.vertex before) ps))
  moved_rows g before [] = All-nil (IsRowOf prim)
  moved_rows g before (p ∷ ps) =
      All-cons (IsRowOf prim) (row_under prim g.prim p.row) (map (λ p. p.row) (map (moved_with prim g.prim vertex g.vertex before) ps)) (IsRowOf-row_under prim g.prim p.row) (moved_rows g before ps)

  prim_rows : (before : ℕ) (gs : List Geo) → All (IsRowOf prim) (map (λ p. p.row) (prims_with prim vertex before gs))
  prim_rows before [] = All-nil (IsRowOf prim)
  prim_rows before (g ∷ gs) =
      let here = map (moved_with prim g.prim vertex g.vertex before) g.prims in
      let rest = prims_with prim vertex (before + length g.points) gs in
      subst (All (IsRowOf prim)) (sym (map-append (λ p. p.row) here rest))
      (All-append (IsRowOf prim) (map (λ p. p.row) here) (map (λ p. p.row) rest) (moved_rows g before g.prims) (prim_rows (before + length g.points) gs))

  -- each vertex has a row of its heads, and refers to one of so many points
  abbrev IsPlaced : ℕ → Corner → Type 0
  IsPlaced total c = IsRowOf vertex c.row × (c.point < total)

  moved_corners : (total : ℕ) (g : Geo) (before : ℕ) → before + length g.points ≤ total → (ps : List Primitive) → All (λ c. c.point < length g.points) (corners_of ps) → All (IsPlaced total) (corners_of (map (moved_with prim g.prim vertex g.vertex before) ps))
  moved_corners total g before within [] all = All-nil (IsPlaced total)
  moved_corners total g before within (p ∷ ps) all =
      let P : Corner → Type 0 = λ c. c.point < length g.points in
      All-append (IsPlaced total) (map (moved_corner vertex g.vertex before) p.corners) (corners_of (map (moved_with prim g.prim vertex g.vertex before) ps))
      (All-map (IsPlaced total) (moved_corner vertex g.vertex before) p.corners
      (All-weaker P (λ c. IsPlaced total (moved_corner vertex g.vertex before c)) (λ c lt. (IsRowOf-row_under vertex g.vertex c.row, omega arith)) p.corners (All-left P p.corners (corners_of ps) all)))
      (moved_corners total g before within ps (All-right P p.corners (corners_of ps) all))

  all_corners : (total before : ℕ) (gs : List Geo) → before + points_in gs ≤ total → All IsSound gs → All (IsPlaced total) (corners_of (prims_with prim vertex before gs))
  all_corners total before [] within sound = All-nil (IsPlaced total)
  all_corners total before (g ∷ gs) within sound =
      let here = map (moved_with prim g.prim vertex g.vertex before) g.prims in
      let rest = prims_with prim vertex (before + length g.points) gs in
      let many = points_in-cons g gs in
      subst (All (IsPlaced total)) (sym (corners_of-append here rest))
      (All-append (IsPlaced total) (corners_of here) (corners_of rest) (moved_corners total g before (omega arith) g.prims (All-head IsSound g gs sound).points)
      (all_corners total (before + length g.points) gs (omega arith) (All-tail IsSound g gs sound)))

  -- a merge leaves no primitive without vertices
  moved_sizes : (g : Geo) (before : ℕ) (ps : List Primitive) → All (λ p. 0 < size_of p) ps → All (λ p. 0 < size_of p) (map (moved_with prim g.prim vertex g.vertex before) ps)
  moved_sizes g before ps all =
      let P : Primitive → Type 0 = λ p. 0 < size_of p in
      All-map P (moved_with prim g.prim vertex g.vertex before) ps
      (All-weaker P (λ p. P (moved_with prim g.prim vertex g.vertex before p)) (λ p lt. let same = length-map p.corners (moved_corner vertex g.vertex before) in omega arith) ps all)

  all_sizes : (before : ℕ) (gs : List Geo) → All IsGood gs → All (λ p. 0 < size_of p) (prims_with prim vertex before gs)
  all_sizes before [] good = All-nil (λ p. 0 < size_of p)
  all_sizes before (g ∷ gs) good =
      let P : Primitive → Type 0 = λ p. 0 < size_of p in
      All-append P (map (moved_with prim g.prim vertex g.vertex before) g.prims) (prims_with prim vertex (before + length g.points) gs)
      (moved_sizes g before g.prims (All-head IsGood g gs good).corners) (all_sizes (before + length g.points) gs (All-tail IsGood g gs good))

-- MERGES

no_groups : (gs : List Geo) → All IsSound gs → all_groups Detail gs ≡ []
no_groups [] sound = refl
no_groups (g ∷ gs) sound = ap (λ ns. ns ++ all_groups Detail gs) (All-head IsSound g gs sound).detail_groups ∙ no_groups gs (All-tail IsSound g gs sound)

module _ (gs : List Geo) (sound : All IsSound gs) where
  corners_placed : All (IsPlaced (joined_set Prim gs) (joined_set Vertex gs) (length (joined gs).points)) (corners_of (joined gs).prims)
  corners_placed =
      let prim = joined_set Prim gs in
      let vertex = joined_set Vertex gs in
      let total = length (joined gs).points in
      let many = length-points_joined gs in
      subst (λ ps. All (IsPlaced prim vertex total) (corners_of ps)) (sym (joined_prims_is gs 0 gs)) (all_corners prim vertex total 0 gs (omega arith) sound)

  rows_joined : (class : Class) → All (IsRowOf (heads_of (joined gs) class)) (rows_of (joined gs) class)
  rows_joined Detail =
      All-cons (IsRowOf (joined_set Detail gs)) (joined gs).detail_row []
      (record { kinds = fitted_kinds (detail_value gs) (joined_set Detail gs).heads; flags = sym (ap (λ ns. length (first_names ns)) (no_groups gs sound)) }) (All-nil (IsRowOf (joined_set Detail gs)))
  rows_joined Prim = subst (λ ps. All (IsRowOf (joined_set Prim gs)) (map (λ p. p.row) ps)) (sym (joined_prims_is gs 0 gs)) (prim_rows (joined_set Prim gs) (joined_set Vertex gs) 0 gs)
  rows_joined Point = point_rows (joined_set Point gs) gs
  rows_joined Vertex =
      let vertex = joined_set Vertex gs in
      All-map (IsRowOf vertex) (λ c. c.row) (corners_of (joined gs).prims)
      (All-weaker (IsPlaced (joined_set Prim gs) vertex (length (joined gs).points)) (λ c. IsRowOf vertex c.row) (λ c both. both.0) (corners_of (joined gs).prims) corners_placed)

  pub IsSound-joined : BeginsWithPosition (joined_set Point gs).heads → IsSound (joined gs)
  IsSound-joined begins = record {
    detail_groups = ap first_names (no_groups gs sound);
    named = λ class. subst IsNamed (sym (heads_of-joined class gs)) (IsNamed-joined_set class gs sound);
    rows = rows_joined;
    position = begins;
    points =
        let total = length (joined gs).points in
        All-weaker (IsPlaced (joined_set Prim gs) (joined_set Vertex gs) total) (λ c. c.point < total) (λ c both. both.1) (corners_of (joined gs).prims) corners_placed;
  }

pub IsSound-merged : (gs : List Geo) → All IsSound gs → IsSound (merged gs)
IsSound-merged gs sound = IsSound-joined (empty_geo ∷ gs) (All-cons IsSound empty_geo gs IsSound-empty_geo sound) refl

pub IsGood-merged : (gs : List Geo) → All IsGood gs → IsGood (merged gs)
IsGood-merged gs good =
    let all = empty_geo ∷ gs in
    let good_all = All-cons IsGood empty_geo gs (record { sound = IsSound-empty_geo; corners = All-nil (λ p. 0 < size_of p) }) good in
    record {
      sound = IsSound-merged gs (All-weaker IsGood IsSound (λ g is. is.sound) gs good);
      corners = subst (All (λ p. 0 < size_of p)) (sym (joined_prims_is all 0 all)) (all_sizes (joined_set Prim all) (joined_set Vertex all) 0 all good_all);
    }

pub IsSound-appended : (a b : Geo) → IsSound a → IsSound b → IsSound (appended a b)
IsSound-appended a b one two = IsSound-merged (a ∷ b ∷ []) (All-cons IsSound a (b ∷ []) one (All-cons IsSound b [] two (All-nil IsSound)))

pub IsGood-appended : (a b : Geo) → IsGood a → IsGood b → IsGood (appended a b)
IsGood-appended a b one two = IsGood-merged (a ∷ b ∷ []) (All-cons IsGood a (b ∷ []) one (All-cons IsGood b [] two (All-nil IsGood)))
