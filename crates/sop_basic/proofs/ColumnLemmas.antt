-- An attribute made sure of, and the values under it: what was counted, what passes a limit.
use Rattle.std.proofs.Common.{◌≡◌, ℕ, zero, suc, ◌≤◌, Bool, true, false, not, List, [], ◌∷◌, length, map, refl, sym, ap, ◌∙◌, subst, arith}
use Rattle.std.specs.Prelude.{Option, Some, None, Ok, Err, pos, codes, slice_index_or, slice_set, if◌then◌else◌}
use Rattle.std.specs.Str.{bytes_eq}
use Rattle.std.proofs.lemmas.Bool.{false≢true}
use Rattle.std.proofs.lemmas.List.{length-map}
use Rattle.sop_model.specs.declared.class.Class.{Class}
use Rattle.sop_model.specs.declared.class.Class.TheVariants.{Detail, Prim, Point, Vertex}
use Rattle.sop_model.specs.declared.geo.Geo.{Geo}
use Rattle.sop_model.specs.declared.geo.Row.{Row}
use Rattle.sop_model.specs.declared.geo.Head.{Head}
use Rattle.sop_model.specs.declared.geo.HeadSet.{HeadSet}
use Rattle.sop_model.specs.declared.geo.Corner.{Corner}
use Rattle.sop_model.specs.declared.geo.Primitive.{Primitive}
use Rattle.sop_model.specs.declared.fault.CookStop.{CookStop}
use Rattle.sop_model.specs.declared.fault.CookStop.TheVariants as stop
use Rattle.sop_model.specs.declared.fault.Fault.TheVariants as fault
use Rattle.sop_model.specs.declared.value.Value.{Value}
use Rattle.sop_model.specs.declared.value.Value.TheVariants as value
use Rattle.sop_model.specs.Limits.{most_heads, most_groups}
use Rattle.sop_model.specs.Vertices.{corners_of}
use Rattle.sop_model.specs.Geometry.{heads_of, rows_of, count_of, fits, IsWithin}
use Rattle.sop_model.specs.Rows.{with_value, with_rows, rows_held, column_of, column_held, kind_at, head_named, attr_added, attr_deleted}
use Rattle.sop_model.proofs.LimitsLemmas.{IsWithin-from, within_points, within_prims, within_vertices, within_heads, within_groups, fits_within, Fits-from_fits}
use Rattle.sop_rows.proofs.ClassRows.{HasShapeOf, count_of-shape, heads_of-with_rows}
use Rattle.sop_rows.proofs.RowOps.{HasShapeOf-column_held, HasShapeOf-attr_added, HasShapeOf-attr_deleted}
use Rattle.sop_rows.proofs.FirstLemmas.{bytes_same, same_bytes}
use Rattle.sop_vault.specs.Vaults.{VaultMap}
use Rattle.sop_vault.specs.Refusals.{IsNoPosition}
use Rattle.sop_basic.specs.Making.{Prepares}
use Rattle.sop_basic.specs.Heads.{is_position, is_kind, with_head, with_head_at, with_column_at, with_column}
use Rattle.sop_basic.specs.Enumerate.{counted_from}
use Rattle.sop_basic.specs.Fillings.{rows_filled, filled, Finds}

-- ---- within limits before, where it is after
back_within : (g h : Geo) → HasShapeOf g h → ((class : Class) → heads_of h class ≡ heads_of g class) → IsWithin h → IsWithin g
back_within g h shape heads within =
    let closed = ap (λ (bs : List Bool). length bs) shape.closed in
    let prims_h = length-map h.prims (λ (p : Primitive). p.closed) in
    let prims_g = length-map g.prims (λ (p : Primitive). p.closed) in
    let refers = ap (λ (ns : List ℕ). length ns) shape.refers in
    let corners_h = length-map (corners_of h.prims) (λ (c : Corner). c.point) in
    let corners_g = length-map (corners_of g.prims) (λ (c : Corner). c.point) in
    IsWithin-from g (let few = within_points within in let same = shape.points in omega arith) (let few = within_prims within in omega arith) (let few = within_vertices within in omega arith)
    (λ class. subst (λ (set : HeadSet). length set.heads ≤ most_heads) (heads class) (within_heads within class))
    (λ class. subst (λ (set : HeadSet). length set.groups ≤ most_groups) (heads class) (within_groups within class))

column_within : (g : Geo) (class : Class) (change : List Value → List Value) (o : Option ℕ) → IsWithin (with_column_at g class change o) → IsWithin g
column_within g class change None within = within
column_within g class change (Some i) within =
    back_within g (column_held g class i (change (column_of g class i))) (HasShapeOf-column_held g class i (change (column_of g class i))) (λ other. heads_of-with_rows g class (rows_held i (rows_of g class) (change (column_of g class i))) other) within

-- an attribute that passes a limit is Limit at the node
pub head_stopped : (old new : VaultMap) (key : ℕ) (class : Class) (h : Head) (g : Geo) (change : List Value → List Value) (s : CookStop) → Finds old new key class h g (Err s) → Prepares old new key (Ok (with_column g class h.name change)) (Err s)
head_stopped old new key class h g change (stop.Fault f) (limit, passes, touched) =
    (ap (λ b. if b then Ok (with_column g class h.name change) else Err fault.Limit) (no (fits (with_column g class h.name change)) refl) ∙ ap Err (sym limit), touched)
  where
    no : (b : Bool) → fits (with_column g class h.name change) ≡ b → b ≡ false
    no false e = refl
    no true e = absurd (passes (column_within g class change (head_named g class h.name) (fits_within (Fits-from_fits (with_column g class h.name change) e))))
head_stopped old new key class h g change stop.Memory touched = touched

-- ---- as many elements as before
pub with_head_count : (g : Geo) (class : Class) (h : Head) → count_of (with_head g class h) class ≡ count_of g class
with_head_count g class h = by (head_named g class h.name)
  where
    either : (b : Bool) (i : ℕ) → count_of (if b then g else attr_added (attr_deleted g class i) class h) class ≡ count_of g class
    either true i = refl
    either false i = count_of-shape (attr_deleted g class i) (attr_added (attr_deleted g class i) class h) (HasShapeOf-attr_added (attr_deleted g class i) class h) class ∙ count_of-shape g (attr_deleted g class i) (HasShapeOf-attr_deleted g class i) class

    by : (o : Option ℕ) → count_of (with_head_at g class h o) class ≡ count_of g class
    by None = count_of-shape g (attr_added g class h) (HasShapeOf-attr_added g class h) class
    by (Some i) = either (is_kind h.kind (kind_at g class i)) i

-- ---- values under an attribute where elements are selected
abbrev pub cell_at : ℕ → Row → Value
cell_at head row = slice_index_or row.values head (value.Int (pos 0))

set_own : (values : List Value) (i : ℕ) (d : Value) → slice_set values i (slice_index_or values i d) ≡ values
set_own [] i d = refl
set_own (v ∷ values) zero d = refl
set_own (v ∷ values) (suc i) d = ap (λ vs. v ∷ vs) (set_own values i d)

-- a row with its own value is as before
pub row_own : (head : ℕ) (row : Row) → with_value head (cell_at head row) row ≡ row
row_own head row = ap (λ vs. record row { values = vs }) (set_own row.values head (value.Int (pos 0)))

pub rows_own : (head : ℕ) (rows : List Row) → rows_held head rows (map (cell_at head) rows) ≡ rows
rows_own head [] = refl
rows_own head (row ∷ rows) = ap (λ r. r ∷ rows_held head rows (map (cell_at head) rows)) (row_own head row) ∙ ap (λ rs. row ∷ rs) (rows_own head rows)

rows_counted : (head k : ℕ) (flags : List Bool) (rows : List Row) → rows_held head rows (counted_from k flags (map (cell_at head) rows)) ≡ rows_filled (λ k. value.Int (pos k)) head k flags rows
rows_counted head k [] rows = rows_own head rows
rows_counted head k (on ∷ flags) [] = refl
rows_counted head k (true ∷ flags) (row ∷ rows) = ap (λ rs. with_value head (value.Int (pos k)) row ∷ rs) (rows_counted head (suc k) flags rows)
rows_counted head k (false ∷ flags) (row ∷ rows) =
    ap (λ r. r ∷ rows_held head rows (counted_from k flags (map (cell_at head) rows))) (row_own head row) ∙ ap (λ rs. row ∷ rs) (rows_counted head k flags rows)

pub counted_is : (g : Geo) (class : Class) (name : List ℕ) (head : ℕ) (flags : List Bool) → head_named g class name ≡ Some head
    → filled (λ k. value.Int (pos k)) class head flags g ≡ with_column g class name (counted_from 0 flags)
counted_is g class name head flags named =
    sym (ap (with_column_at g class (counted_from 0 flags)) named ∙ ap (with_rows g class) (rows_counted head 0 flags (rows_of g class)))

-- ---- names
pub no_position : (class : Class) (name : List ℕ) → not (is_position class name) ≡ true → IsNoPosition class name
no_position Detail name is = tt
no_position Prim name is = tt
no_position Vertex name is = tt
no_position Point name is = apart (bytes_eq (codes "P") name) refl
  where
    apart : (b : Bool) → bytes_eq (codes "P") name ≡ b → b ≡ false
    apart false e = refl
    apart true e =
        let same : bytes_eq name (codes "P") ≡ true = ap (λ n. bytes_eq n (codes "P")) (sym (same_bytes (codes "P") name e)) ∙ bytes_same (codes "P") in
        absurd (false≢true (ap not (sym same) ∙ is))
