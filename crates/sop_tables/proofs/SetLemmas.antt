-- What calls on one column or on the members of one group are for their table.
use Rattle.std.proofs.Common.{◌≡◌, ◌≢◌, ℕ, ◌/◌, ◌<◌, ◌≤◌, Bool, List, [], length, set, get_or, sym, subst, arith}
use Rattle.std.specs.Prelude.{Option}
use Rattle.sop_model.specs.declared.value.Value.{Value}
use Rattle.sop_model.specs.Rows.{changed_at, with_value, with_flag}
use Rattle.sop_cells.specs.declared.place.Place.{Place}
use Rattle.sop_cells.specs.Shelves.{ShelfPages, Shifts}
use Rattle.sop_cells.proofs.PlaceLemmas.{stays}
use Rattle.sop_columns.specs.Names.{NameTable, Grows}
use Rattle.sop_columns.specs.Values.{values, IsColumn}
use Rattle.sop_columns.specs.Bits.{flag, placed, AreBits}
use Rattle.sop_tables.specs.Tables.{TableLists, places_in, rows, column_at, with_column, members_at, with_members, default_at, IsHeld, IsTable, IsTableStep}
use Rattle.sop_tables.proofs.KeptLemmas.{frame}
use Rattle.sop_tables.proofs.ColumnLemmas.{column_set, held_set}
use Rattle.sop_tables.proofs.StepLemmas.{many_columns, column_of_table, column_step, value_rows}
use Rattle.sop_tables.proofs.ReadLemmas.{at_view}
use Rattle.sop_tables.proofs.MemberLemmas.{members_set, members_step, members_rows}

module _ (s t : ShelfPages) (n m : NameTable) (tb : TableLists) (is : IsTable s n tb) (hd : IsHeld s (places_in tb)) where
  -- nothing changed but that names came
  pub same_step : (new : TableLists) → t ≡ s → new ≡ tb → Grows n m → IsTableStep s t n m tb new
  same_step new et en grows = subst (λ (x : TableLists). IsTableStep s t n m tb x) (sym en) (record {
    shifts = stays s t (places_in tb) et;
    grows = grows;
    table = (frame s t n m [] [] (stays s t [] et) grows tb (λ x l. let c = hd.covered.each x in omega arith) is).0;
  })

  -- the column that a call takes of the list of columns
  pub column_read : (head : ℕ) → head < length tb.set.heads → (items : List (List Place)) (r : List Place) → items ≡ tb.columns → r ≡ get_or items head r → r ≡ column_at tb head
  column_read head there items r e at = at_view items tb.columns head r [] e (let l = many_columns s n tb is hd in omega arith) at

  -- a value of a column is set
  module _ (head : ℕ) (there : head < length tb.set.heads) (e : ℕ) (within : e < tb.count) (v : Value) (new : List Place) (shifts : Shifts s t (column_at tb head) new) (grows : Grows n m)
      (now : IsColumn t m new) (long : length new ≡ length (column_at tb head)) (same : values t m new ≡ set (values s n (column_at tb head)) e v) where
    pub value_set_step : IsTableStep s t n m tb (with_column tb head new)
    value_set_step = column_step s n tb is hd head there t m new shifts grows
        (column_set s t n m tb.count e (default_at tb.set head) v (column_at tb head) new (column_of_table s n tb is hd head there) now within long same)

    pub value_set_rows : rows t m (with_column tb head new) ≡ changed_at (with_value head v) (rows s n tb) e
    value_set_rows = value_rows s n tb is hd head there t m new shifts grows e v within (held_set s t n m tb.count e v (column_at tb head) new within same)

module _ (s t : ShelfPages) (n : NameTable) (tb : TableLists) (is : IsTable s n tb) (hd : IsHeld s (places_in tb)) where
  -- the members that a call takes of the list of members
  pub members_read : (group : ℕ) → group < length tb.set.groups → (items : List (List (Option Place))) (r : List (Option Place)) → items ≡ tb.members → r ≡ get_or items group r → r ≡ members_at tb group
  members_read group there items r e at = at_view items tb.members group r [] e (let l = is.groups in omega arith) at

  -- a flag of a group is set
  module _ (group : ℕ) (there : group < length tb.set.groups) (e : ℕ) (within : e < tb.count) (on : Bool) (new : List (Option Place)) (shifts : Shifts s t (placed (members_at tb group)) (placed new))
      (bits : AreBits t new) (long : (k : ℕ) → length (members_at tb group) ≤ k → e / 131072 < k → length new ≤ k) (here : flag t new e ≡ on) (others : (i : ℕ) → i ≢ e → flag t new i ≡ flag s (members_at tb group) i) where
    pub flag_set_step : IsTableStep s t n n tb (with_members tb group new)
    flag_set_step = members_step s n tb is hd group there t new shifts (members_set s n tb is hd group there t e on new within bits long others)

    pub flag_set_rows : rows t n (with_members tb group new) ≡ changed_at (with_flag group on) (rows s n tb) e
    flag_set_rows = members_rows s n tb is hd group there t new shifts e on here others
