-- What appending leaves of both geometries: heads and groups, rows of each class, the shape, and how much there is.
use Rattle.std.proofs.Common.{◌≡◌, ℕ, ◌+◌, ◌≤◌, Bool, true, false, not, List, [], ◌∷◌, ◌++◌, length, map, Option, Some, None, refl, ap, sym, ◌∙◌, subst, arith, length-append}
use Rattle.std.specs.Prelude.{All}
use Rattle.std.specs.List.{list_any}
use Rattle.std.specs.Str.{bytes_eq}
use Rattle.std.proofs.lemmas.Bool.{and_parts, or_parts, not-true}
use Rattle.std.proofs.lemmas.List.{length-map, map-append, append-nil}
use Rattle.std.proofs.lemmas.List.Elements.{All-nil, All-cons, All-head, All-weaker, filter_passes}
use Rattle.sop_model.specs.declared.class.Class.{Class}
use Rattle.sop_model.specs.declared.class.Class.TheVariants.{Detail, Prim, Point, Vertex}
use Rattle.sop_model.specs.declared.geo.Geo.{Geo}
use Rattle.sop_model.specs.declared.geo.Row.{Row}
use Rattle.sop_model.specs.declared.geo.Head.{Head}
use Rattle.sop_model.specs.declared.geo.HeadSet.{HeadSet}
use Rattle.sop_model.specs.declared.geo.Corner.{Corner}
use Rattle.sop_model.specs.declared.geo.Primitive.{Primitive}
use Rattle.sop_model.specs.declared.value.Value.{Value}
use Rattle.sop_model.specs.Limits.{most_heads, most_groups}
use Rattle.sop_model.specs.Names.{are_distinct}
use Rattle.sop_model.specs.Values.{kind_of, default_of}
use Rattle.sop_model.specs.Vertices.{size_of, corners_of}
use Rattle.sop_model.specs.Geometry.{heads_of, rows_of, count_of, position_head, IsNamed, IsRowOf, BeginsWithPosition, IsSound, IsWithin}
use Rattle.sop_model.specs.Merge.{joined_set, value_under, flag_under, fitted, row_under, moved_corner, detail_value, joined}
use Rattle.sop_model.specs.Appending.{appended}
use Rattle.sop_rows.specs.Both.{more_heads, more_groups, both_sets, row_widened, both_details, AreWithinBoth}
use Rattle.sop_model.proofs.LimitsLemmas.{IsWithin-from, within_points, within_prims, within_vertices, within_heads, within_groups}
use Rattle.sop_model.proofs.RowLists.{map_agree}
use Rattle.sop_rows.proofs.FirstLemmas.{bytes_same, firsts, firsts-append, firsts_same, has_name, under, none_has, each_under, unseen}
use Rattle.sop_rows.proofs.MergeLemmas.{head_name, own_name, first_heads_is, first_names_is, value-here, value-later, flag-here, flag-later, value_under-none, value_under-some, flag_under-none, fitted_own, heads_of-joined}
use Rattle.sop_rows.proofs.MergeSound.{as_own}
use Rattle.sop_rows.proofs.AppendLemmas.{moved_with, prims_with, joined_prims_is, first_some, joined_empty, HasDetail, HasDetail-from_sound}
use Rattle.sop_rows.proofs.ElementOps.{corners_of-append}

-- HEADS AND GROUPS

firsts_both : {X : Type 0} (key : X → List ℕ) (xs ys : List X) → are_distinct (map key xs) ≡ true → are_distinct (map key ys) ≡ true → firsts key (xs ++ (ys ++ [])) ≡ xs ++ unseen key xs ys
firsts_both key xs ys one two =
    ap (λ zs. firsts key (xs ++ zs)) (append-nil ys) ∙ firsts-append key xs ys ∙ ap (λ zs. zs ++ unseen key xs (firsts key ys)) (firsts_same key xs one)
    ∙ ap (λ zs. xs ++ unseen key xs zs) (firsts_same key ys two)

pub joined_set-two : (class : Class) (a b : Geo) → IsNamed (heads_of a class) → IsNamed (heads_of b class) → joined_set class (a ∷ b ∷ []) ≡ both_sets (heads_of a class) (heads_of b class)
joined_set-two class a b one two =
    let A = heads_of a class in
    let B = heads_of b class in
    let hs = first_heads_is (A.heads ++ (B.heads ++ [])) ∙ firsts_both head_name A.heads B.heads one.distinct_heads two.distinct_heads in
    let ns = first_names_is (A.groups ++ (B.groups ++ []))
    ∙ firsts_both own_name A.groups B.groups (ap are_distinct (as_own A.groups) ∙ one.distinct_groups) (ap are_distinct (as_own B.groups) ∙ two.distinct_groups) in
    λ j. record { heads = hs j; groups = ns j }

-- ROWS OF THE FIRST

none_by_each : {X : Type 0} (p : X → Bool) (xs : List X) → list_any p xs ≡ false → All (λ x. p x ≡ false) xs
none_by_each p [] none = All-nil (λ x. p x ≡ false)
none_by_each p (x ∷ xs) none =
    let both = or_parts (p x) (list_any p xs) none in
    All-cons (λ x. p x ≡ false) x xs both.0 (none_by_each p xs both.1)

apart_from : (name : List ℕ) (hs : List Head) → list_any (bytes_eq name) (map head_name hs) ≡ false → All (λ h. bytes_eq name h.name ≡ false) hs
apart_from name [] none = All-nil (λ h. bytes_eq name h.name ≡ false)
apart_from name (h ∷ hs) none =
    let both = or_parts (bytes_eq name h.name) (list_any (bytes_eq name) (map head_name hs)) none in
    All-cons (λ h. bytes_eq name h.name ≡ false) h hs both.0 (apart_from name hs both.1)

-- the values of a row, each under its own head
own_values : (hs : List Head) (vs : List Value) → are_distinct (map head_name hs) ≡ true → map kind_of vs ≡ map (λ h. h.kind) hs → map (λ h. fitted h (value_under hs vs h.name)) hs ≡ vs
own_values [] [] distinct kinds = refl
own_values [] (v ∷ vs) distinct kinds = cc
own_values (h ∷ hs) [] distinct kinds = cc
own_values (h ∷ hs) (v ∷ vs) distinct kinds =
    let both = and_parts (not (list_any (bytes_eq h.name) (map head_name hs))) (are_distinct (map head_name hs)) distinct in
    let kind : kind_of v ≡ h.kind = cc in
    let kinds_left : map kind_of vs ≡ map (λ h. h.kind) hs = cc in
    let here = ap (fitted h) (value-here h hs v vs h.name (bytes_same h.name)) ∙ fitted_own h v kind in
    let P : Head → Type 0 = λ k. bytes_eq h.name k.name ≡ false in
    let Q : Head → Type 0 = λ k. fitted k (value_under (h ∷ hs) (v ∷ vs) k.name) ≡ fitted k (value_under hs vs k.name) in
    let later = map_agree (λ k. fitted k (value_under (h ∷ hs) (v ∷ vs) k.name)) (λ k. fitted k (value_under hs vs k.name)) hs
    (All-weaker P Q (λ k apart. ap (fitted k) (value-later h hs v vs k.name apart)) hs (apart_from h.name hs (not-true (list_any (bytes_eq h.name) (map head_name hs)) both.0))) in
    let rest = later ∙ own_values hs vs both.1 kinds_left in
    λ j. here j ∷ rest j

own_flags : (gs : List (List ℕ)) (fs : List Bool) → are_distinct gs ≡ true → length fs ≡ length gs → map (flag_under gs fs) gs ≡ fs
own_flags [] [] distinct long = refl
own_flags [] (f ∷ fs) distinct long = absurd (omega arith)
own_flags (g ∷ gs) [] distinct long = absurd (omega arith)
own_flags (g ∷ gs) (f ∷ fs) distinct long =
    let both = and_parts (not (list_any (bytes_eq g) gs)) (are_distinct gs) distinct in
    let here = flag-here g gs f fs g (bytes_same g) in
    let P : List ℕ → Type 0 = λ k. bytes_eq g k ≡ false in
    let Q : List ℕ → Type 0 = λ k. flag_under (g ∷ gs) (f ∷ fs) k ≡ flag_under gs fs k in
    let later = map_agree (flag_under (g ∷ gs) (f ∷ fs)) (flag_under gs fs) gs
    (All-weaker P Q (λ k apart. flag-later g gs f fs k apart) gs (none_by_each (bytes_eq g) gs (not-true (list_any (bytes_eq g) gs) both.0))) in
    let rest = later ∙ own_flags gs fs both.1 (omega arith) in
    λ j. here j ∷ rest j

module _ (A B : HeadSet) (named : IsNamed A) where
  -- what the first hasn't
  heads_missing : All (λ h. has_name head_name A.heads h.name ≡ false) (more_heads A B)
  heads_missing =
      let P : Head → Type 0 = λ h. not (has_name head_name A.heads h.name) ≡ true in
      All-weaker P (λ h. has_name head_name A.heads h.name ≡ false) (λ h e. not-true (has_name head_name A.heads h.name) e) (more_heads A B) (filter_passes (λ h. not (has_name head_name A.heads h.name)) B.heads)

  groups_missing : All (λ name. has_name own_name A.groups name ≡ false) (more_groups A B)
  groups_missing =
      let P : List ℕ → Type 0 = λ name. not (has_name own_name A.groups name) ≡ true in
      All-weaker P (λ name. has_name own_name A.groups name ≡ false) (λ name e. not-true (has_name own_name A.groups name) e) (more_groups A B) (filter_passes (λ name. not (has_name own_name A.groups name)) B.groups)

  more_values : (vs : List Value) → map (λ h. fitted h (value_under A.heads vs h.name)) (more_heads A B) ≡ map (λ h. default_of h.kind) (more_heads A B)
  more_values vs =
      let P : Head → Type 0 = λ h. has_name head_name A.heads h.name ≡ false in
      let Q : Head → Type 0 = λ h. fitted h (value_under A.heads vs h.name) ≡ default_of h.kind in
      map_agree (λ h. fitted h (value_under A.heads vs h.name)) (λ h. default_of h.kind) (more_heads A B)
      (All-weaker P Q (λ h none. ap (fitted h) (value_under-none A.heads vs h.name (none_has head_name A.heads h.name none))) (more_heads A B) heads_missing)

  more_flags : (fs : List Bool) → map (flag_under A.groups fs) (more_groups A B) ≡ map (λ name. false) (more_groups A B)
  more_flags fs =
      let P : List ℕ → Type 0 = λ name. has_name own_name A.groups name ≡ false in
      let Q : List ℕ → Type 0 = λ name. flag_under A.groups fs name ≡ false in
      map_agree (flag_under A.groups fs) (λ name. false) (more_groups A B)
      (All-weaker P Q (λ name none. flag_under-none A.groups fs name (none_has own_name A.groups name none)) (more_groups A B) groups_missing)

  pub row_under-widened : (row : Row) → IsRowOf A row → row_under (both_sets A B) A row ≡ row_widened A B row
  row_under-widened row of =
      let vs = map-append (λ h. fitted h (value_under A.heads row.values h.name)) A.heads (more_heads A B)
      ∙ ap (λ own. own ++ map (λ h. fitted h (value_under A.heads row.values h.name)) (more_heads A B)) (own_values A.heads row.values named.distinct_heads of.kinds)
      ∙ ap (λ more. row.values ++ more) (more_values row.values) in
      let fs = map-append (flag_under A.groups row.flags) A.groups (more_groups A B)
      ∙ ap (λ own. own ++ map (flag_under A.groups row.flags) (more_groups A B)) (own_flags A.groups row.flags named.distinct_groups of.flags)
      ∙ ap (λ more. row.flags ++ more) (more_flags row.flags) in
      λ j. record { values = vs j; flags = fs j }

  rows_widened : (rows : List Row) → All (IsRowOf A) rows → map (row_under (both_sets A B) A) rows ≡ map (row_widened A B) rows
  rows_widened rows all = map_agree (row_under (both_sets A B) A) (row_widened A B) rows (All-weaker (IsRowOf A) (λ row. row_under (both_sets A B) A row ≡ row_widened A B row) row_under-widened rows all)

-- THE DETAIL

own_detail : (a : Geo) (more : List Geo) → are_distinct (map head_name a.detail.heads) ≡ true → HasDetail a → map (λ h. fitted h (detail_value (a ∷ more) h)) a.detail.heads ≡ map (λ h. fitted h (value_under a.detail.heads a.detail_row.values h.name)) a.detail.heads
own_detail a more distinct long =
    let vs = a.detail_row.values in
    let P : Head → Type 0 = λ h. under head_name a.detail.heads h.name ≡ Some h in
    let Q : Head → Type 0 = λ h. fitted h (detail_value (a ∷ more) h) ≡ fitted h (value_under a.detail.heads vs h.name) in
    map_agree (λ h. fitted h (detail_value (a ∷ more) h)) (λ h. fitted h (value_under a.detail.heads vs h.name)) a.detail.heads
    (All-weaker P Q (λ h there.
    let found = value_under-some a.detail.heads vs h.name h long there in
    ap (λ o. fitted h (first_some o (detail_value more h))) found.1 ∙ ap (fitted h) (sym found.1)) a.detail.heads (each_under head_name a.detail.heads distinct))

first_some-none : (o : Option Value) → first_some o None ≡ o
first_some-none None = refl
first_some-none (Some v) = refl

more_detail : (a b : Geo) → IsNamed a.detail → map (λ h. fitted h (detail_value (a ∷ b ∷ []) h)) (more_heads a.detail b.detail) ≡ map (λ h. fitted h (value_under b.detail.heads b.detail_row.values h.name)) (more_heads a.detail b.detail)
more_detail a b named =
    let P : Head → Type 0 = λ h. has_name head_name a.detail.heads h.name ≡ false in
    let Q : Head → Type 0 = λ h. fitted h (detail_value (a ∷ b ∷ []) h) ≡ fitted h (value_under b.detail.heads b.detail_row.values h.name) in
    map_agree (λ h. fitted h (detail_value (a ∷ b ∷ []) h)) (λ h. fitted h (value_under b.detail.heads b.detail_row.values h.name)) (more_heads a.detail b.detail)
    (All-weaker P Q (λ h none.
    ap (λ o. fitted h (first_some o (detail_value (b ∷ []) h))) (value_under-none a.detail.heads a.detail_row.values h.name (none_has head_name a.detail.heads h.name none))
    ∙ ap (fitted h) (first_some-none (value_under b.detail.heads b.detail_row.values h.name))) (more_heads a.detail b.detail) (heads_missing a.detail b.detail named))

-- MOVED PRIMITIVES

module _ (prim old_prim vertex old_vertex : HeadSet) (before : ℕ) where
  rows_of-moved : (ps : List Primitive) → map (λ p. p.row) (map (moved_with prim old_prim vertex old_vertex before) ps) ≡ map (row_under prim old_prim) (map (λ p. p.row) ps)
  rows_of-moved [] = refl
  rows_of-moved (p ∷ ps) = ap (λ rest. row_under prim old_prim p.row ∷ rest) (rows_of-moved ps)

  closed_of-moved : (ps : List Primitive) → map (λ p. p.closed) (map (moved_with prim old_prim vertex old_vertex before) ps) ≡ map (λ p. p.closed) ps
  closed_of-moved [] = refl
  closed_of-moved (p ∷ ps) = ap (λ rest. p.closed ∷ rest) (closed_of-moved ps)

  sizes_of-moved : (ps : List Primitive) → map size_of (map (moved_with prim old_prim vertex old_vertex before) ps) ≡ map size_of ps
  sizes_of-moved [] = refl
  sizes_of-moved (p ∷ ps) =
      let here = length-map p.corners (moved_corner vertex old_vertex before) in
      let rest = sizes_of-moved ps in
      cc

  corner_rows : (cs : List Corner) → map (λ c. c.row) (map (moved_corner vertex old_vertex before) cs) ≡ map (row_under vertex old_vertex) (map (λ c. c.row) cs)
  corner_rows [] = refl
  corner_rows (c ∷ cs) = ap (λ rest. row_under vertex old_vertex c.row ∷ rest) (corner_rows cs)

  corner_points : (cs : List Corner) → map (λ c. c.point) (map (moved_corner vertex old_vertex before) cs) ≡ map (λ n. before + n) (map (λ c. c.point) cs)
  corner_points [] = refl
  corner_points (c ∷ cs) = ap (λ rest. (before + c.point) ∷ rest) (corner_points cs)

  corners_of-moved : (ps : List Primitive) → corners_of (map (moved_with prim old_prim vertex old_vertex before) ps) ≡ map (moved_corner vertex old_vertex before) (corners_of ps)
  corners_of-moved [] = refl
  corners_of-moved (p ∷ ps) = ap (λ rest. map (moved_corner vertex old_vertex before) p.corners ++ rest) (corners_of-moved ps) ∙ sym (map-append (moved_corner vertex old_vertex before) p.corners (corners_of ps))

  vertex_rows_of-moved : (ps : List Primitive) → map (λ c. c.row) (corners_of (map (moved_with prim old_prim vertex old_vertex before) ps)) ≡ map (row_under vertex old_vertex) (map (λ c. c.row) (corners_of ps))
  vertex_rows_of-moved ps = ap (map (λ c. c.row)) (corners_of-moved ps) ∙ corner_rows (corners_of ps)

  points_of-moved : (ps : List Primitive) → map (λ c. c.point) (corners_of (map (moved_with prim old_prim vertex old_vertex before) ps)) ≡ map (λ n. before + n) (map (λ c. c.point) (corners_of ps))
  points_of-moved ps = ap (map (λ c. c.point)) (corners_of-moved ps) ∙ corner_points (corners_of ps)

from_zero : (ns : List ℕ) → map (λ n. 0 + n) ns ≡ ns
from_zero [] = refl
from_zero (n ∷ ns) =
    let here : 0 + n ≡ n = omega arith in
    let rest = from_zero ns in
    λ j. here j ∷ rest j

-- BOTH

begins_with : (hs : List Head) → BeginsWithPosition hs → (rest : List Head) × (hs ≡ position_head ∷ rest)
begins_with [] begins = cc
begins_with (h ∷ hs) begins = (hs, ap (λ k. k ∷ hs) begins)

module _ (a b : Geo) (one : IsSound a) (two : IsSound b) where
  appended_is : appended a b ≡ joined (a ∷ b ∷ [])
  appended_is = let begins = begins_with a.point.heads one.position in joined_empty a (b ∷ []) begins.0 begins.1

  set_is : (class : Class) → joined_set class (a ∷ b ∷ []) ≡ both_sets (heads_of a class) (heads_of b class)
  set_is class = joined_set-two class a b (one.named class) (two.named class)

  pub heads_of-appended : (class : Class) → heads_of (appended a b) class ≡ both_sets (heads_of a class) (heads_of b class)
  heads_of-appended class = ap (λ g. heads_of g class) appended_is ∙ heads_of-joined class (a ∷ b ∷ []) ∙ set_is class

  abbrev firsts_moved : List Primitive
  firsts_moved = map (moved_with (both_sets a.prim b.prim) a.prim (both_sets a.vertex b.vertex) a.vertex 0) a.prims

  abbrev seconds_moved : List Primitive
  seconds_moved = map (moved_with (both_sets a.prim b.prim) b.prim (both_sets a.vertex b.vertex) b.vertex (length a.points)) b.prims

  pub prims_of-appended : (appended a b).prims ≡ firsts_moved ++ seconds_moved
  prims_of-appended =
      let p = set_is Prim in
      let v = set_is Vertex in
      let place : 0 + length a.points ≡ length a.points = omega arith in
      ap (λ g. g.prims) appended_is ∙ joined_prims_is (a ∷ b ∷ []) 0 (a ∷ b ∷ []) ∙ (λ j. prims_with (p j) (v j) 0 (a ∷ b ∷ []))
      ∙ ap (λ n. firsts_moved ++ (map (moved_with (both_sets a.prim b.prim) b.prim (both_sets a.vertex b.vertex) b.vertex n) b.prims ++ [])) place
      ∙ ap (λ ps. firsts_moved ++ ps) (append-nil seconds_moved)

  pub points_of-appended : rows_of (appended a b) Point ≡ map (row_widened a.point b.point) a.points ++ map (row_under (both_sets a.point b.point) b.point) b.points
  points_of-appended =
      let o = set_is Point in
      ap (λ g. g.points) appended_is ∙ (λ j. map (row_under (o j) a.point) a.points ++ (map (row_under (o j) b.point) b.points ++ []))
      ∙ ap (λ rows. rows ++ (map (row_under (both_sets a.point b.point) b.point) b.points ++ [])) (rows_widened a.point b.point (one.named Point) a.points (one.rows Point))
      ∙ ap (λ rows. map (row_widened a.point b.point) a.points ++ rows) (append-nil (map (row_under (both_sets a.point b.point) b.point) b.points))

  prim_rows_appended : rows_of (appended a b) Prim ≡ map (row_widened a.prim b.prim) (rows_of a Prim) ++ map (row_under (both_sets a.prim b.prim) b.prim) (rows_of b Prim)
  prim_rows_appended =
      let P = both_sets a.prim b.prim in
      let V = both_sets a.vertex b.vertex in
      ap (map (λ p. p.row)) prims_of-appended ∙ map-append (λ p. p.row) firsts_moved seconds_moved
      ∙ ap (λ rows. rows ++ map (λ p. p.row) seconds_moved) (rows_of-moved P a.prim V a.vertex 0 a.prims ∙ rows_widened a.prim b.prim (one.named Prim) (rows_of a Prim) (one.rows Prim))
      ∙ ap (λ rows. map (row_widened a.prim b.prim) (rows_of a Prim) ++ rows) (rows_of-moved P b.prim V b.vertex (length a.points) b.prims)

  vertex_rows_appended : rows_of (appended a b) Vertex ≡ map (row_widened a.vertex b.vertex) (rows_of a Vertex) ++ map (row_under (both_sets a.vertex b.vertex) b.vertex) (rows_of b Vertex)
  vertex_rows_appended =
      let P = both_sets a.prim b.prim in
      let V = both_sets a.vertex b.vertex in
      ap (λ ps. map (λ c. c.row) (corners_of ps)) prims_of-appended ∙ ap (map (λ c. c.row)) (corners_of-append firsts_moved seconds_moved) ∙ map-append (λ c. c.row) (corners_of firsts_moved) (corners_of seconds_moved)
      ∙ ap (λ rows. rows ++ map (λ c. c.row) (corners_of seconds_moved)) (vertex_rows_of-moved P a.prim V a.vertex 0 a.prims ∙ rows_widened a.vertex b.vertex (one.named Vertex) (rows_of a Vertex) (one.rows Vertex))
      ∙ ap (λ rows. map (row_widened a.vertex b.vertex) (rows_of a Vertex) ++ rows) (vertex_rows_of-moved P b.prim V b.vertex (length a.points) b.prims)

  -- the rows of a class of elements: those of the first, widened, and those of the second under the heads and groups of both
  pub rows_of-appended : (class : Class) → (class ≡ Detail → ⊥) → rows_of (appended a b) class ≡ map (row_widened (heads_of a class) (heads_of b class)) (rows_of a class) ++ map (row_under (both_sets (heads_of a class) (heads_of b class)) (heads_of b class)) (rows_of b class)
  rows_of-appended Detail other = absurd (other refl)
  rows_of-appended Prim other = prim_rows_appended
  rows_of-appended Point other = points_of-appended
  rows_of-appended Vertex other = vertex_rows_appended

  pub detail_of-appended : (appended a b).detail_row ≡ both_details a b
  detail_of-appended =
      let A = a.detail in
      let B = b.detail in
      let whole = λ (h : Head). fitted h (detail_value (a ∷ b ∷ []) h) in
      let vs = ap (λ (set : HeadSet). map whole set.heads) (set_is Detail) ∙ map-append whole A.heads (more_heads A B)
      ∙ ap (λ own. own ++ map whole (more_heads A B)) (own_detail a (b ∷ []) (one.named Detail).distinct_heads (HasDetail-from_sound a one) ∙ own_values A.heads a.detail_row.values (one.named Detail).distinct_heads (All-head (IsRowOf A) a.detail_row [] (one.rows Detail)).kinds)
      ∙ ap (λ more. a.detail_row.values ++ more) (more_detail a b (one.named Detail)) in
      ap (λ g. g.detail_row) appended_is ∙ (λ j. record { values = vs j; flags = [] })

  -- THE SHAPE
  pub closed_of-appended : map (λ p. p.closed) (appended a b).prims ≡ map (λ p. p.closed) a.prims ++ map (λ p. p.closed) b.prims
  closed_of-appended =
      let P = both_sets a.prim b.prim in
      let V = both_sets a.vertex b.vertex in
      ap (map (λ p. p.closed)) prims_of-appended ∙ map-append (λ p. p.closed) firsts_moved seconds_moved
      ∙ ap (λ cs. cs ++ map (λ p. p.closed) seconds_moved) (closed_of-moved P a.prim V a.vertex 0 a.prims) ∙ ap (λ cs. map (λ p. p.closed) a.prims ++ cs) (closed_of-moved P b.prim V b.vertex (length a.points) b.prims)

  pub sizes_of-appended : map size_of (appended a b).prims ≡ map size_of a.prims ++ map size_of b.prims
  sizes_of-appended =
      let P = both_sets a.prim b.prim in
      let V = both_sets a.vertex b.vertex in
      ap (map size_of) prims_of-appended ∙ map-append size_of firsts_moved seconds_moved
      ∙ ap (λ ns. ns ++ map size_of seconds_moved) (sizes_of-moved P a.prim V a.vertex 0 a.prims) ∙ ap (λ ns. map size_of a.prims ++ ns) (sizes_of-moved P b.prim V b.vertex (length a.points) b.prims)

  -- the points that vertices refer to: those of the second stand behind those of the first
  pub refers_of-appended : map (λ c. c.point) (corners_of (appended a b).prims) ≡ map (λ c. c.point) (corners_of a.prims) ++ map (λ n. length a.points + n) (map (λ c. c.point) (corners_of b.prims))
  refers_of-appended =
      let P = both_sets a.prim b.prim in
      let V = both_sets a.vertex b.vertex in
      ap (λ ps. map (λ c. c.point) (corners_of ps)) prims_of-appended ∙ ap (map (λ c. c.point)) (corners_of-append firsts_moved seconds_moved) ∙ map-append (λ c. c.point) (corners_of firsts_moved) (corners_of seconds_moved)
      ∙ ap (λ ns. ns ++ map (λ c. c.point) (corners_of seconds_moved)) (points_of-moved P a.prim V a.vertex 0 a.prims ∙ from_zero (map (λ c. c.point) (corners_of a.prims)))
      ∙ ap (λ ns. map (λ c. c.point) (corners_of a.prims) ++ ns) (points_of-moved P b.prim V b.vertex (length a.points) b.prims)

  -- HOW MUCH THERE IS
  pub count_of-appended : (class : Class) → (class ≡ Detail → ⊥) → count_of (appended a b) class ≡ count_of a class + count_of b class
  count_of-appended class other =
      let A = heads_of a class in
      let B = heads_of b class in
      ap length (rows_of-appended class other) ∙ length-append (map (row_widened A B) (rows_of a class)) (map (row_under (both_sets A B) B) (rows_of b class))
      ∙ (λ j. length-map (rows_of a class) (row_widened A B) j + length-map (rows_of b class) (row_under (both_sets A B) B) j)

  lengths : (length (appended a b).points ≡ count_of a Point + count_of b Point) × (length (appended a b).prims ≡ count_of a Prim + count_of b Prim) × (length (corners_of (appended a b).prims) ≡ count_of a Vertex + count_of b Vertex)
  lengths = (
    count_of-appended Point (λ e. cc),
    sym (length-map (appended a b).prims (λ p. p.row)) ∙ count_of-appended Prim (λ e. cc),
    sym (length-map (corners_of (appended a b).prims) (λ c. c.row)) ∙ count_of-appended Vertex (λ e. cc),
  )

  pub IsWithin-appended : AreWithinBoth a b → IsWithin (appended a b)
  IsWithin-appended within =
      let long = lengths in
      IsWithin-from (appended a b)
      (let e = long.0 in let w = within.points in omega arith) (let e = long.1 in let w = within.prims in omega arith) (let e = long.2 in let w = within.vertices in omega arith)
      (λ class. subst (λ (set : HeadSet). length set.heads ≤ most_heads) (sym (heads_of-appended class)) (within.heads class))
      (λ class. subst (λ (set : HeadSet). length set.groups ≤ most_groups) (sym (heads_of-appended class)) (within.groups class))

  -- and no further
  pub few-appended : IsWithin (appended a b) → AreWithinBoth a b
  few-appended within =
      let long = lengths in
      record {
        points = let e = long.0 in let w = within_points within in omega arith;
        prims = let e = long.1 in let w = within_prims within in omega arith;
        vertices = let e = long.2 in let w = within_vertices within in omega arith;
        heads = λ class. subst (λ (set : HeadSet). length set.heads ≤ most_heads) (heads_of-appended class) (within_heads within class);
        groups = λ class. subst (λ (set : HeadSet). length set.groups ≤ most_groups) (heads_of-appended class) (within_groups within class);
      }
