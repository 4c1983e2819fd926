-- Strings and lists stay within their limits.
use Rattle.std.proofs.Common.{◌≡◌, ◌≢◌, ℕ, Bool, true, false, List, [], ◌∷◌, length, map, set, get_or, Option, Some, None, refl, ap, sym, ◌∙◌, subst, inl, inr}
use Rattle.std.specs.Prelude.{All, replicate, unwrap_or, option_map, pos}
use Rattle.std.specs.Result.{result_ok}
use Rattle.std.specs.Str.{bytes_eq}
use Rattle.std.proofs.lemmas.Bool.{cases_Bool, cases_lt, and_from}
use Rattle.std.proofs.lemmas.List.{length-map, get_or_past}
use Rattle.std.proofs.lemmas.List.Sums.{AllPass-from_list_all, list_all-from_AllPass}
use Rattle.std.proofs.lemmas.List.Elements.{All-nil, All-cons, All-head, All-tail, All-append, All-push, All-weaker, All-map, All-set, All-replicate, All-get_or}
use Rattle.std.proofs.lemmas.List.Sorted.{All-permutation}
use Rattle.sop_fixed.specs.Arithmetic.{units_of, real_of_int}
use Rattle.sop_model.specs.declared.class.Class.{Class}
use Rattle.sop_model.specs.declared.class.Class.TheVariants.{Detail, Prim, Point, Vertex}
use Rattle.sop_model.specs.declared.geo.Geo.{Geo}
use Rattle.sop_model.specs.declared.geo.Row.{Row}
use Rattle.sop_model.specs.declared.geo.Head.{Head}
use Rattle.sop_model.specs.declared.geo.HeadSet.{HeadSet}
use Rattle.sop_model.specs.declared.value.Kind.{Kind}
use Rattle.sop_model.specs.declared.value.Kind.TheVariants as kind
use Rattle.sop_model.specs.declared.value.Value.{Value}
use Rattle.sop_model.specs.declared.value.Value.TheVariants as value
use Rattle.sop_model.specs.Values.{default_of, put, is_value_within}
use Rattle.sop_model.specs.Vertices.{corners_of}
use Rattle.sop_model.specs.Geometry.{empty_row, heads_of, rows_of, count_of, is_row_within, are_rows_within, AreValuesWithin, IsSound}
use Rattle.sop_model.specs.Merge.{fitted, value_under, row_under}
use Rattle.sop_model.specs.Rows.{changed_at, with_value, with_flag, with_last_value, with_last_flag, without_value, rows_held, default_row, with_last_head, with_last_group, without_head, with_rows, with_class, value_set, member_set, column_held, column_cleared, kind_at, default_at, attr_added, attr_deleted, group_added, points_added, prim_added, vertices_added, place_in, picked, reordered, IsOrderOf}
use Rattle.sop_model.specs.Appending.{appended}
use Rattle.sop_model.specs.Sweep.{MarkSet, stays, swept}
use Rattle.sop_model.proofs.LimitsLemmas.{rows_within}
use Rattle.sop_model.proofs.RowLists.{length-changed_at, All-changed_at, All-remove, All-under_map}
use Rattle.sop_rows.specs.Both.{more_heads, both_sets, row_widened, both_details}
use Rattle.sop_rows.specs.Parts.{vertices_with}
use Rattle.sop_rows.proofs.ClassRows.{rows_of-with_rows, rows_of-with_rows_other, rows_of-with_class, rows_of-with_class_other, each_class}
use Rattle.sop_rows.proofs.RowSound.{length-rows_held}
use Rattle.sop_rows.proofs.VertexOps.{rows_of-vertices_added, All-vertices_added}
use Rattle.sop_rows.proofs.OrderOps.{rows_of-renumbered, vertex_rows_of-renumbered, rows_moved}
use Rattle.sop_rows.proofs.MergeLemmas.{value-here, value-later}
use Rattle.sop_rows.proofs.AppendedParts.{rows_of-appended, detail_of-appended}
use Rattle.sop_rows.proofs.KeptLemmas.{All-kept}
use Rattle.sop_rows.proofs.SweepLemmas.{rows_of-swept}
use Rattle.sop_rows.proofs.PartLemmas.{prim_rows-prim_added, vertex_rows-prim_added, vertex_rows-reordered}

-- VALUES AND ROWS

abbrev IsShort : Value → Type 0
IsShort v = is_value_within v ≡ true

-- the strings and lists of a row are within their limits
abbrev pub IsShortRow : Row → Type 0
IsShortRow row = All IsShort row.values

short_row : (row : Row) → is_row_within row ≡ true → IsShortRow row
short_row row e = AllPass-from_list_all is_value_within row.values e

row_is_short : (row : Row) → IsShortRow row → is_row_within row ≡ true
row_is_short row short = list_all-from_AllPass is_value_within row.values short

short_default : (k : Kind) → IsShort (default_of k)
short_default kind.Int = refl
short_default kind.Real = refl
short_default kind.Vector = refl
short_default kind.Str = refl
short_default kind.Ints = refl
short_default kind.Reals = refl
short_default kind.Vectors = refl
short_default kind.Strs = refl

short_real : {X : Type 0} (f : X → Value) → ((x : X) → IsShort (f x)) → (o : Option X) (w : Value) → option_map f o ≡ Some w → IsShort w
short_real f is None w e = cc
short_real f is (Some x) w e = let same : f x ≡ w = cc in ap is_value_within (sym same) ∙ is x

short_put : (k : Kind) (v w : Value) → put k v ≡ Some w → IsShort v → IsShort w
short_put kind.Int (value.Int n) w is short = cc
short_put kind.Int (value.Real x) w is short = let same : value.Int (units_of x) ≡ w = cc in ap is_value_within (sym same)
short_put kind.Int v w is short = cc
short_put kind.Real (value.Int n) w is short = short_real (λ x. value.Real x) (λ x. refl) (result_ok (real_of_int n)) w is
short_put kind.Real (value.Real x) w is short = cc
short_put kind.Real v w is short = cc
short_put kind.Vector (value.Vector x) w is short = cc
short_put kind.Vector v w is short = cc
short_put kind.Str (value.Str text) w is short = cc
short_put kind.Str v w is short = cc
short_put kind.Ints (value.Ints list) w is short = cc
short_put kind.Ints v w is short = cc
short_put kind.Reals (value.Reals list) w is short = cc
short_put kind.Reals v w is short = cc
short_put kind.Vectors (value.Vectors list) w is short = cc
short_put kind.Vectors v w is short = cc
short_put kind.Strs (value.Strs list) w is short = cc
short_put kind.Strs v w is short = cc

short_or_default : (k : Kind) (o : Option Value) → ((w : Value) → o ≡ Some w → IsShort w) → IsShort (unwrap_or o (default_of k))
short_or_default k None is = short_default k
short_or_default k (Some w) is = is w refl

short_fitted : (h : Head) (o : Option Value) → ((v : Value) → o ≡ Some v → IsShort v) → IsShort (fitted h o)
short_fitted h None is = short_default h.kind
short_fitted h (Some v) is = short_or_default h.kind (put h.kind v) (λ w e. short_put h.kind v w e (is v refl))

short_under : (hs : List Head) (vs : List Value) (name : List ℕ) → All IsShort vs → (v : Value) → value_under hs vs name ≡ Some v → IsShort v
short_under [] vs name short v is = cc
short_under (h ∷ hs) [] name short v is = cc
short_under (h ∷ hs) (w ∷ vs) name short v is = elim (cases_Bool (bytes_eq h.name name)) [
  | inl same ↦ let here = value-here h hs w vs name same in let first : w ≡ v = cc in ap is_value_within (sym first) ∙ All-head IsShort w vs short
  | inr apart ↦ short_under hs vs name (All-tail IsShort w vs short) v (sym (value-later h hs w vs name apart) ∙ is)
]

short_values_under : (new : List Head) (old : List Head) (vs : List Value) → All IsShort vs → All IsShort (map (λ h. fitted h (value_under old vs h.name)) new)
short_values_under [] old vs short = All-nil IsShort
short_values_under (h ∷ new) old vs short =
    All-cons IsShort (fitted h (value_under old vs h.name)) (map (λ h. fitted h (value_under old vs h.name)) new)
    (short_fitted h (value_under old vs h.name) (short_under old vs h.name short)) (short_values_under new old vs short)

short_defaults : (hs : List Head) → All IsShort (map (λ h. default_of h.kind) hs)
short_defaults [] = All-nil IsShort
short_defaults (h ∷ hs) = All-cons IsShort (default_of h.kind) (map (λ h. default_of h.kind) hs) (short_default h.kind) (short_defaults hs)

short_held : (head : ℕ) (rows : List Row) (vs : List Value) → All IsShort vs → All IsShortRow rows → All IsShortRow (rows_held head rows vs)
short_held head [] vs short all = all
short_held head (r ∷ rows) [] short all = all
short_held head (r ∷ rows) (v ∷ vs) short all =
    All-cons IsShortRow (with_value head v r) (rows_held head rows vs) (All-set IsShort r.values head v (All-head IsShort v vs short) (All-head IsShortRow r rows all))
    (short_held head rows vs (All-tail IsShort v vs short) (All-tail IsShortRow r rows all))

All-picked : {X : Type 0} (P : X → Type 0) (xs : List X) (d : X) → P d → All P xs → (perm : List ℕ) → All P (picked xs d perm)
All-picked P xs d default all [] = All-nil P
All-picked P xs d default all (i ∷ perm) =
    All-cons P (get_or xs i d) (picked xs d perm)
    (elim (cases_lt i (length xs)) [
      | inl lt ↦ All-get_or P xs i d lt all
      | inr past ↦ subst P (sym (get_or_past xs i d past)) default
    ])
    (All-picked P xs d default all perm)

-- GEOMETRIES

-- all strings and lists, class by class
pub record AreShort (g : Geo) : Type 0 where
  pub rows : (class : Class) → All IsShortRow (rows_of g class)

short_rows : (rows : List Row) → are_rows_within rows ≡ true → All IsShortRow rows
short_rows rows e = All-weaker (λ row. is_row_within row ≡ true) IsShortRow short_row rows (AllPass-from_list_all is_row_within rows e)

rows_are_short : (rows : List Row) → All IsShortRow rows → are_rows_within rows ≡ true
rows_are_short rows all = list_all-from_AllPass is_row_within rows (All-weaker IsShortRow (λ row. is_row_within row ≡ true) row_is_short rows all)

pub AreShort-from_within : (g : Geo) → AreValuesWithin g → AreShort g
AreShort-from_within g within = record { rows = λ class. short_rows (rows_of g class) (rows_within within class) }

pub AreValuesWithin-from_short : (g : Geo) → AreShort g → AreValuesWithin g
AreValuesWithin-from_short g short = record {
  within =
      let detail = row_is_short g.detail_row (All-head IsShortRow g.detail_row [] (short.rows Detail)) in
      let prim = rows_are_short (rows_of g Prim) (short.rows Prim) in
      let point = rows_are_short g.points (short.rows Point) in
      let vertex = rows_are_short (rows_of g Vertex) (short.rows Vertex) in
      and_from _ _ (and_from _ _ (and_from _ _ detail prim) point) vertex;
}

short-with_rows : (g : Geo) (class : Class) (rows : List Row) → length rows ≡ count_of g class → AreShort g → All IsShortRow rows → AreShort (with_rows g class rows)
short-with_rows g class rows many short all = record {
  rows = each_class (λ c. All IsShortRow (rows_of (with_rows g class rows) c)) class
      (subst (All IsShortRow) (sym (rows_of-with_rows g class rows many)) all)
      (λ other ne. subst (All IsShortRow) (sym (rows_of-with_rows_other g class rows other ne)) (short.rows other));
}

short-with_class : (g : Geo) (class : Class) (set : HeadSet) (rows : List Row) → length rows ≡ count_of g class → AreShort g → All IsShortRow rows → AreShort (with_class g class set rows)
short-with_class g class set rows many short all = record {
  rows = each_class (λ c. All IsShortRow (rows_of (with_class g class set rows) c)) class
      (subst (All IsShortRow) (sym (rows_of-with_class g class set rows many)) all)
      (λ other ne. subst (All IsShortRow) (sym (rows_of-with_class_other g class set rows other ne)) (short.rows other));
}

-- THE CALLS

pub AreShort-value_set : (g : Geo) (class : Class) (head element : ℕ) (v : Value) → AreShort g → is_value_within v ≡ true → AreShort (value_set g class head element v)
AreShort-value_set g class head element v short is =
    short-with_rows g class (changed_at (with_value head v) (rows_of g class) element) (length-changed_at (with_value head v) (rows_of g class) element) short
    (All-changed_at IsShortRow (with_value head v) (λ row all. All-set IsShort row.values head v is all) (rows_of g class) element (short.rows class))

pub AreShort-member_set : (g : Geo) (class : Class) (group element : ℕ) (on : Bool) → AreShort g → AreShort (member_set g class group element on)
AreShort-member_set g class group element on short =
    short-with_rows g class (changed_at (with_flag group on) (rows_of g class) element) (length-changed_at (with_flag group on) (rows_of g class) element) short
    (All-changed_at IsShortRow (with_flag group on) (λ row all. all) (rows_of g class) element (short.rows class))

pub AreShort-column_held : (g : Geo) (class : Class) (head : ℕ) (vs : List Value) → AreShort g → All (λ v. is_value_within v ≡ true) vs → AreShort (column_held g class head vs)
AreShort-column_held g class head vs short all =
    short-with_rows g class (rows_held head (rows_of g class) vs) (length-rows_held head (rows_of g class) vs) short (short_held head (rows_of g class) vs all (short.rows class))

short_default_at : (o : Option Kind) → IsShort (unwrap_or (option_map default_of o) (value.Int (pos 0)))
short_default_at None = refl
short_default_at (Some k) = short_default k

pub AreShort-column_cleared : (g : Geo) (class : Class) (head : ℕ) → AreShort g → AreShort (column_cleared g class head)
AreShort-column_cleared g class head short =
    AreShort-column_held g class head (replicate (count_of g class) (default_at g class head)) short
    (All-replicate IsShort (count_of g class) (default_at g class head) (short_default_at (kind_at g class head)))

pub AreShort-attr_added : (g : Geo) (class : Class) (head : Head) → AreShort g → AreShort (attr_added g class head)
AreShort-attr_added g class head short =
    let f = with_last_value (default_of head.kind) in
    short-with_class g class (with_last_head (heads_of g class) head) (map f (rows_of g class)) (length-map (rows_of g class) f) short
    (All-map IsShortRow f (rows_of g class) (All-weaker IsShortRow (λ row. IsShortRow (f row)) (λ row all. All-push IsShort row.values (default_of head.kind) all (short_default head.kind)) (rows_of g class) (short.rows class)))

pub AreShort-attr_deleted : (g : Geo) (class : Class) (head : ℕ) → AreShort g → AreShort (attr_deleted g class head)
AreShort-attr_deleted g class head short =
    let f = without_value head in
    short-with_class g class (without_head (heads_of g class) head) (map f (rows_of g class)) (length-map (rows_of g class) f) short
    (All-map IsShortRow f (rows_of g class) (All-weaker IsShortRow (λ row. IsShortRow (f row)) (λ row all. All-remove IsShort row.values head all) (rows_of g class) (short.rows class)))

pub AreShort-group_added : (g : Geo) (class : Class) (name : List ℕ) → AreShort g → AreShort (group_added g class name)
AreShort-group_added g class name short =
    let f = with_last_flag false in
    short-with_class g class (with_last_group (heads_of g class) name) (map f (rows_of g class)) (length-map (rows_of g class) f) short
    (All-map IsShortRow f (rows_of g class) (All-weaker IsShortRow (λ row. IsShortRow (f row)) (λ row all. all) (rows_of g class) (short.rows class)))

short_default_row : (set : HeadSet) → IsShortRow (default_row set)
short_default_row set = short_defaults set.heads

pub AreShort-points_added : (g : Geo) (n : ℕ) → AreShort g → AreShort (points_added g n)
AreShort-points_added g n short = record { rows = each short.rows }
  where
    each : ((class : Class) → All IsShortRow (rows_of g class)) → (class : Class) → All IsShortRow (rows_of (points_added g n) class)
    each rows Detail = rows Detail
    each rows Prim = rows Prim
    each rows Point = All-append IsShortRow g.points (replicate n (default_row g.point)) (rows Point) (All-replicate IsShortRow n (default_row g.point) (short_default_row g.point))
    each rows Vertex = rows Vertex

pub AreShort-prim_added : (g : Geo) (closed : Bool) (points : List ℕ) → AreShort g → AreShort (prim_added g closed points)
AreShort-prim_added g closed points short = record { rows = each short.rows }
  where
    each : ((class : Class) → All IsShortRow (rows_of g class)) → (class : Class) → All IsShortRow (rows_of (prim_added g closed points) class)
    each rows Detail = rows Detail
    each rows Prim = subst (All IsShortRow) (sym (prim_rows-prim_added g closed points)) (All-push IsShortRow (rows_of g Prim) (default_row g.prim) (rows Prim) (short_default_row g.prim))
    each rows Point = rows Point
    each rows Vertex =
        subst (All IsShortRow) (sym (vertex_rows-prim_added g closed points))
        (All-append IsShortRow (rows_of g Vertex) (replicate (length points) (default_row g.vertex)) (rows Vertex) (All-replicate IsShortRow (length points) (default_row g.vertex) (short_default_row g.vertex)))

pub AreShort-vertices_added : (g : Geo) (adds : List (ℕ × ℕ)) → AreShort g → AreShort (vertices_added g adds)
AreShort-vertices_added g adds short = record { rows = each short.rows }
  where
    each : ((class : Class) → All IsShortRow (rows_of g class)) → (class : Class) → All IsShortRow (rows_of (vertices_added g adds) class)
    each rows Detail = rows Detail
    each rows Prim = subst (All IsShortRow) (sym (rows_of-vertices_added g adds)) (rows Prim)
    each rows Point = rows Point
    each rows Vertex =
        All-map IsShortRow (λ c. c.row) (corners_of (vertices_added g adds).prims)
        (All-vertices_added g adds (λ c. IsShortRow c.row) (λ point. short_default_row g.vertex) (All-under_map IsShortRow (λ c. c.row) (corners_of g.prims) (rows Vertex)))

pub AreShort-swept : (g : Geo) (marks : MarkSet) → AreShort g → AreShort (swept g marks)
AreShort-swept g marks short = record {
  rows = λ class. subst (All IsShortRow) (sym (rows_of-swept g marks class)) (All-kept (stays g marks class) IsShortRow 0 (rows_of g class) (λ i d lt stays. All-get_or IsShortRow (rows_of g class) i d lt (short.rows class)));
}

pub AreShort-reordered : (g : Geo) (class : Class) (perm : List ℕ) → AreShort g → IsOrderOf (count_of g class) perm → AreShort (reordered g class perm)
AreShort-reordered g Detail perm short is = short
AreShort-reordered g Prim perm short is = record { rows = each short.rows }
  where
    each : ((class : Class) → All IsShortRow (rows_of g class)) → (class : Class) → All IsShortRow (rows_of (reordered g Prim perm) class)
    each rows Detail = rows Detail
    each rows Prim = All-permutation IsShortRow (rows_of g Prim) (rows_of (reordered g Prim perm) Prim) (rows_moved g Prim perm is) (rows Prim)
    each rows Point = rows Point
    each rows Vertex =
        subst (All IsShortRow) (sym (vertex_rows-reordered g perm is))
        (All-picked IsShortRow (rows_of g Vertex) empty_row (All-nil IsShort) (rows Vertex) (vertices_with g.prims perm))
AreShort-reordered g Point perm short is = record { rows = each short.rows }
  where
    each : ((class : Class) → All IsShortRow (rows_of g class)) → (class : Class) → All IsShortRow (rows_of (reordered g Point perm) class)
    each rows Detail = rows Detail
    each rows Prim = subst (All IsShortRow) (sym (rows_of-renumbered (place_in perm) g.prims)) (rows Prim)
    each rows Point = All-permutation IsShortRow (rows_of g Point) (rows_of (reordered g Point perm) Point) (rows_moved g Point perm is) (rows Point)
    each rows Vertex = subst (All IsShortRow) (sym (vertex_rows_of-renumbered (place_in perm) g.prims)) (rows Vertex)
AreShort-reordered g Vertex perm short is = short

short_widened : (A B : HeadSet) (rows : List Row) → All IsShortRow rows → All IsShortRow (map (row_widened A B) rows)
short_widened A B rows all =
    All-map IsShortRow (row_widened A B) rows (All-weaker IsShortRow (λ row. IsShortRow (row_widened A B row))
    (λ row short. All-append IsShort row.values (map (λ h. default_of h.kind) (more_heads A B)) short (short_defaults (more_heads A B))) rows all)

short_row_under : (new old : HeadSet) (rows : List Row) → All IsShortRow rows → All IsShortRow (map (row_under new old) rows)
short_row_under new old rows all =
    All-map IsShortRow (row_under new old) rows (All-weaker IsShortRow (λ row. IsShortRow (row_under new old row)) (λ row short. short_values_under new.heads old.heads row.values short) rows all)

pub AreShort-appended : (a b : Geo) → IsSound a → IsSound b → AreShort a → AreShort b → AreShort (appended a b)
AreShort-appended a b one two short more = record { rows = each_class (λ c. All IsShortRow (rows_of (appended a b) c)) Detail details (λ other ne. rows other ne) }
  where
    details : All IsShortRow (rows_of (appended a b) Detail)
    details =
        subst (λ row. All IsShortRow (row ∷ [])) (sym (detail_of-appended a b one two))
        (All-cons IsShortRow (both_details a b) []
        (All-append IsShort a.detail_row.values (map (λ h. fitted h (value_under b.detail.heads b.detail_row.values h.name)) (more_heads a.detail b.detail))
        (All-head IsShortRow a.detail_row [] (short.rows Detail)) (short_values_under (more_heads a.detail b.detail) b.detail.heads b.detail_row.values (All-head IsShortRow b.detail_row [] (more.rows Detail))))
        (All-nil IsShortRow))

    rows : (class : Class) → class ≢ Detail → All IsShortRow (rows_of (appended a b) class)
    rows class ne =
        let A = heads_of a class in
        let B = heads_of b class in
        subst (All IsShortRow) (sym (rows_of-appended a b one two class ne))
        (All-append IsShortRow (map (row_widened A B) (rows_of a class)) (map (row_under (both_sets A B) B) (rows_of b class)) (short_widened A B (rows_of a class) (short.rows class)) (short_row_under (both_sets A B) B (rows_of b class) (more.rows class)))
