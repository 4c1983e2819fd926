-- What a step of one table makes of a geometry: one value or flag set, a column held, heads and groups added and taken away.
use Rattle.std.proofs.Common.{◌≡◌, ◌≢◌, ℕ, ◌<◌, Bool, false, List, [], length, map, ap, sym, ◌∙◌, subst}
use Rattle.std.specs.Prelude.{All, IsTrue, Result, Ok, Err, OnOk, OnErr, IfOk, IfErr, replicate}
use Rattle.sop_model.specs.declared.class.Class.{Class}
use Rattle.sop_model.specs.declared.geo.Geo.{Geo}
use Rattle.sop_model.specs.declared.geo.Head.{Head}
use Rattle.sop_model.specs.declared.geo.HeadSet.{HeadSet}
use Rattle.sop_model.specs.declared.geo.Row.{Row}
use Rattle.sop_model.specs.declared.value.Value.{Value}
use Rattle.sop_model.specs.Limits.{most_heads, most_groups}
use Rattle.sop_model.specs.Values.{default_of, is_value_within}
use Rattle.sop_model.specs.Geometry.{heads_of, rows_of, count_of, IsSound, IsWithin, AreValuesWithin}
use Rattle.sop_model.specs.Rows.{changed_at, with_value, with_flag, with_last_value, with_last_flag, without_value, rows_held, with_last_head, with_last_group, without_head, value_set, member_set, column_held, column_cleared, default_at, attr_added, attr_deleted, group_added, HasHead, IsOfHead, IsNewHead, IsNewGroup, HasGroups, IsNotPosition}
use Rattle.sop_rows.proofs.ClassRows.{heads_of-with_rows, rows_of-with_rows_other, heads_of-with_class_other, rows_of-with_class_other}
use Rattle.sop_rows.proofs.RowOps.{HasShapeOf-value_set, rows_of-value_set, HasShapeOf-member_set, rows_of-member_set, HasShapeOf-column_held, rows_of-column_held, HasShapeOf-attr_added, heads_of-attr_added, rows_of-attr_added, HasShapeOf-attr_deleted, heads_of-attr_deleted, rows_of-attr_deleted, HasShapeOf-group_added, heads_of-group_added, rows_of-group_added}
use Rattle.sop_rows.proofs.LawLemmas.{leave_sound, leave_within, leave_values_within}
use Rattle.sop_pages.specs.Moves.{Covers}
use Rattle.sop_cells.specs.Places.{own}
use Rattle.sop_cells.specs.Shelves.{ShelfPages}
use Rattle.sop_cells.proofs.PlaceLemmas.{stays}
use Rattle.sop_columns.specs.Names.{NameTable, Grows}
use Rattle.sop_tables.specs.Tables.{TableLists, rows, IsTableStep}
use Rattle.sop_sheets.specs.Sheets.{SheetLists, table_of, with_table, places_of, geo_of, IsSheet, IsSheetStep, Becomes, Stays}
use Rattle.sop_shape.specs.Shapes.{shape_of}
use Rattle.sop_sheets.proofs.SheetLemmas.{sheet_stands, same_shape, class_step, class_geo}

-- what holds of Ok or of Err, told by what follows from it
pub on_ok : {X E P Q : Type 0} (r : Result X E) → (P → Q) → OnOk r P → OnOk r Q
on_ok (Ok x) f p = f p
on_ok (Err e) f p = tt

pub ok_two : {X E A B Q : Type 0} (r : Result X E) → (A → B → Q) → OnOk r A → OnOk r B → OnOk r Q
ok_two (Ok x) f a b = f a b
ok_two (Err e) f a b = tt

pub ok_three : {X E A B C Q : Type 0} (r : Result X E) → (A → B → C → Q) → OnOk r A → OnOk r B → OnOk r C → OnOk r Q
ok_three (Ok x) f a b c = f a b c
ok_three (Err e) f a b c = tt

pub ok_four : {X E A B C D Q : Type 0} (r : Result X E) → (A → B → C → D → Q) → OnOk r A → OnOk r B → OnOk r C → OnOk r D → OnOk r Q
ok_four (Ok x) f a b c d = f a b c d
ok_four (Err e) f a b c d = tt

pub on_err : {X E P Q : Type 0} (r : Result X E) → (P → Q) → OnErr r P → OnErr r Q
on_err (Ok x) f p = tt
on_err (Err e) f p = f p

pub err_by : {X E P : Type 0} (r : Result X E) → P → OnErr r P
err_by (Ok x) p = tt
err_by (Err e) p = p

pub if_ok : {X E : Type 0} {P Q : X → Type 0} (r : Result X E) → ((x : X) → P x → Q x) → IfOk r P → IfOk r Q
if_ok (Ok x) f p = f x p
if_ok (Err e) f p = tt

pub if_err : {X E : Type 0} {P Q : E → Type 0} (r : Result X E) → ((e : E) → P e → Q e) → IfErr r P → IfErr r Q
if_err (Ok x) f p = tt
if_err (Err e) f p = f e p

-- nothing but names came
pub stays_still : (s t : ShelfPages) (n m : NameTable) (old new : SheetLists) → Grows n m → t ≡ s → new ≡ old → Stays s t n m old new
stays_still s t n m old new grows same is = record { same = is; pages = record { shifts = stays s t [] same; grows = grows } }

module _ (s t : ShelfPages) (n m : NameTable) (sheet new : SheetLists) (class : Class) (is : IsSheet s n sheet) (held : Covers s.own (own (places_of sheet)))
    (rest : new ≡ with_table sheet class (table_of new class)) (step : IsTableStep s t n m (table_of sheet class) (table_of new class)) where
  abbrev now : TableLists
  now = table_of new class

  -- the geometry is another one, whose class has these heads, groups and rows
  pub becomes : (g : Geo) → now.set ≡ heads_of g class → rows t m now ≡ rows_of g class
      → ((other : Class) → other ≢ class → heads_of g other ≡ heads_of is.geo other) → ((other : Class) → other ≢ class → rows_of g other ≡ rows_of is.geo other)
      → shape_of g ≡ shape_of is.geo → IsSound g → IsWithin g → AreValuesWithin g → (h : Geo) → g ≡ h → Becomes s t n m sheet new h
  becomes g set row sets others shape sound within values h e = record {
    step = subst (IsSheetStep s t n m sheet) (sym rest) (class_step s t n m sheet class now is held step g set row sets others shape sound within values);
    geo = ap (geo_of t m) rest ∙ class_geo s t n m sheet class now is held step g set row sets others shape sound within values ∙ e;
  }

  set_was : (table_of sheet class).set ≡ heads_of is.geo class
  set_was = is.stands.sets class

  rows_was : rows s n (table_of sheet class) ≡ rows_of is.geo class
  rows_was = is.stands.rows class

  own_geo : is.geo ≡ geo_of s n sheet
  own_geo = sym (sheet_stands s n sheet is)

  pub value_becomes : (head element : ℕ) (v : Value) → IsOfHead (geo_of s n sheet) class head v → IsTrue (is_value_within v) → now.set ≡ (table_of sheet class).set
      → rows t m now ≡ changed_at (with_value head v) (rows s n (table_of sheet class)) element → Becomes s t n m sheet new (value_set (geo_of s n sheet) class head element v)
  value_becomes head element v of within same row =
      let g = is.geo in
      let rs = changed_at (with_value head v) (rows_of g class) element in
      becomes (value_set g class head element v) (same ∙ set_was ∙ sym (heads_of-with_rows g class rs class))
      (row ∙ ap (λ (r : List Row). changed_at (with_value head v) r element) rows_was ∙ sym (rows_of-value_set g class head element v))
      (λ other ne. heads_of-with_rows g class rs other) (λ other ne. rows_of-with_rows_other g class rs other ne)
      (same_shape g (value_set g class head element v) (HasShapeOf-value_set g class head element v)) (leave_sound.set g class head element v is.sound (subst (λ (h : Geo). IsOfHead h class head v) (sym own_geo) of))
      (leave_within.set g class head element v is.within) (leave_values_within.set g class head element v is.values within)
      (value_set (geo_of s n sheet) class head element v) (ap (λ (h : Geo). value_set h class head element v) own_geo)

  pub member_becomes : (group element : ℕ) (on : Bool) → now.set ≡ (table_of sheet class).set
      → rows t m now ≡ changed_at (with_flag group on) (rows s n (table_of sheet class)) element → Becomes s t n m sheet new (member_set (geo_of s n sheet) class group element on)
  member_becomes group element on same row =
      let g = is.geo in
      let rs = changed_at (with_flag group on) (rows_of g class) element in
      becomes (member_set g class group element on) (same ∙ set_was ∙ sym (heads_of-with_rows g class rs class))
      (row ∙ ap (λ (r : List Row). changed_at (with_flag group on) r element) rows_was ∙ sym (rows_of-member_set g class group element on))
      (λ other ne. heads_of-with_rows g class rs other) (λ other ne. rows_of-with_rows_other g class rs other ne)
      (same_shape g (member_set g class group element on) (HasShapeOf-member_set g class group element on)) (leave_sound.set_member g class group element on is.sound)
      (leave_within.set_member g class group element on is.within) (leave_values_within.set_member g class group element on is.values)
      (member_set (geo_of s n sheet) class group element on) (ap (λ (h : Geo). member_set h class group element on) own_geo)

  pub held_becomes : (head : ℕ) (vs : List Value) → All (IsOfHead (geo_of s n sheet) class head) vs → All (λ v. IsTrue (is_value_within v)) vs → now.set ≡ (table_of sheet class).set
      → rows t m now ≡ rows_held head (rows s n (table_of sheet class)) vs → Becomes s t n m sheet new (column_held (geo_of s n sheet) class head vs)
  held_becomes head vs of within same row =
      let g = is.geo in
      let rs = rows_held head (rows_of g class) vs in
      becomes (column_held g class head vs) (same ∙ set_was ∙ sym (heads_of-with_rows g class rs class))
      (row ∙ ap (λ (r : List Row). rows_held head r vs) rows_was ∙ sym (rows_of-column_held g class head vs))
      (λ other ne. heads_of-with_rows g class rs other) (λ other ne. rows_of-with_rows_other g class rs other ne)
      (same_shape g (column_held g class head vs) (HasShapeOf-column_held g class head vs)) (leave_sound.hold g class head vs is.sound (subst (λ (h : Geo). All (IsOfHead h class head) vs) (sym own_geo) of))
      (leave_within.hold g class head vs is.within) (leave_values_within.hold g class head vs is.values within)
      (column_held (geo_of s n sheet) class head vs) (ap (λ (h : Geo). column_held h class head vs) own_geo)

  pub cleared_becomes : (head : ℕ) → HasHead (geo_of s n sheet) class head → now.set ≡ (table_of sheet class).set
      → rows t m now ≡ rows_held head (rows s n (table_of sheet class)) (replicate (count_of (geo_of s n sheet) class) (default_at (geo_of s n sheet) class head)) → Becomes s t n m sheet new (column_cleared (geo_of s n sheet) class head)
  cleared_becomes head there same row =
      let g = is.geo in
      let vs = λ (h : Geo). replicate (count_of h class) (default_at h class head) in
      let rs = rows_held head (rows_of g class) (vs g) in
      becomes (column_cleared g class head) (same ∙ set_was ∙ sym (heads_of-with_rows g class rs class))
      (row ∙ ap (λ (h : Geo). rows_held head (rows s n (table_of sheet class)) (vs h)) (sym own_geo) ∙ ap (λ (r : List Row). rows_held head r (vs g)) rows_was ∙ sym (rows_of-column_held g class head (vs g)))
      (λ other ne. heads_of-with_rows g class rs other) (λ other ne. rows_of-with_rows_other g class rs other ne)
      (same_shape g (column_cleared g class head) (HasShapeOf-column_held g class head (vs g))) (leave_sound.clear g class head is.sound (subst (λ (h : Geo). HasHead h class head) (sym own_geo) there))
      (leave_within.hold g class head (vs g) is.within) (leave_values_within.clear g class head is.values)
      (column_cleared (geo_of s n sheet) class head) (ap (λ (h : Geo). column_cleared h class head) own_geo)

  pub attr_becomes : (head : Head) → IsNewHead (geo_of s n sheet) class head.name → length (heads_of (geo_of s n sheet) class).heads < most_heads → now.set ≡ with_last_head (table_of sheet class).set head
      → rows t m now ≡ map (with_last_value (default_of head.kind)) (rows s n (table_of sheet class)) → Becomes s t n m sheet new (attr_added (geo_of s n sheet) class head)
  attr_becomes head fresh few set row =
      let g = is.geo in
      let hs = with_last_head (heads_of g class) head in
      let rs = map (with_last_value (default_of head.kind)) (rows_of g class) in
      becomes (attr_added g class head) (set ∙ ap (λ (h : HeadSet). with_last_head h head) set_was ∙ sym (heads_of-attr_added g class head))
      (row ∙ ap (map (with_last_value (default_of head.kind))) rows_was ∙ sym (rows_of-attr_added g class head))
      (λ other ne. heads_of-with_class_other g class hs rs other ne) (λ other ne. rows_of-with_class_other g class hs rs other ne)
      (same_shape g (attr_added g class head) (HasShapeOf-attr_added g class head)) (leave_sound.add_attr g class head is.sound (subst (λ (h : Geo). IsNewHead h class head.name) (sym own_geo) fresh))
      ((leave_within.add_attr g class head is.within).1 (subst (λ (h : Geo). length (heads_of h class).heads < most_heads) (sym own_geo) few)) (leave_values_within.add_attr g class head is.values)
      (attr_added (geo_of s n sheet) class head) (ap (λ (h : Geo). attr_added h class head) own_geo)

  pub gone_becomes : (head : ℕ) → IsNotPosition class head → now.set ≡ without_head (table_of sheet class).set head
      → rows t m now ≡ map (without_value head) (rows s n (table_of sheet class)) → Becomes s t n m sheet new (attr_deleted (geo_of s n sheet) class head)
  gone_becomes head apart set row =
      let g = is.geo in
      let hs = without_head (heads_of g class) head in
      let rs = map (without_value head) (rows_of g class) in
      becomes (attr_deleted g class head) (set ∙ ap (λ (h : HeadSet). without_head h head) set_was ∙ sym (heads_of-attr_deleted g class head))
      (row ∙ ap (map (without_value head)) rows_was ∙ sym (rows_of-attr_deleted g class head))
      (λ other ne. heads_of-with_class_other g class hs rs other ne) (λ other ne. rows_of-with_class_other g class hs rs other ne)
      (same_shape g (attr_deleted g class head) (HasShapeOf-attr_deleted g class head)) (leave_sound.del_attr g class head is.sound apart)
      (leave_within.del_attr g class head is.within) (leave_values_within.del_attr g class head is.values)
      (attr_deleted (geo_of s n sheet) class head) (ap (λ (h : Geo). attr_deleted h class head) own_geo)

  pub group_becomes : (name : List ℕ) → HasGroups class → IsNewGroup (geo_of s n sheet) class name → length (heads_of (geo_of s n sheet) class).groups < most_groups → now.set ≡ with_last_group (table_of sheet class).set name
      → rows t m now ≡ map (with_last_flag false) (rows s n (table_of sheet class)) → Becomes s t n m sheet new (group_added (geo_of s n sheet) class name)
  group_becomes name has fresh few set row =
      let g = is.geo in
      let hs = with_last_group (heads_of g class) name in
      let rs = map (with_last_flag false) (rows_of g class) in
      becomes (group_added g class name) (set ∙ ap (λ (h : HeadSet). with_last_group h name) set_was ∙ sym (heads_of-group_added g class name))
      (row ∙ ap (map (with_last_flag false)) rows_was ∙ sym (rows_of-group_added g class name))
      (λ other ne. heads_of-with_class_other g class hs rs other ne) (λ other ne. rows_of-with_class_other g class hs rs other ne)
      (same_shape g (group_added g class name) (HasShapeOf-group_added g class name)) (leave_sound.add_group g class name is.sound has (subst (λ (h : Geo). IsNewGroup h class name) (sym own_geo) fresh))
      ((leave_within.add_group g class name is.within).1 (subst (λ (h : Geo). length (heads_of h class).groups < most_groups) (sym own_geo) few)) (leave_values_within.add_group g class name is.values)
      (group_added (geo_of s n sheet) class name) (ap (λ (h : Geo). group_added h class name) own_geo)
