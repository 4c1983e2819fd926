-- A table where one column or the members of one group are others, come or go: it is a table, and its rows.
use Rattle.std.proofs.Common.{◌≡◌, ℕ, zero, suc, ◌%◌, ◌<◌, ◌≤◌, false, List, [], ◌∷◌, ◌++◌, length, map, set, get_or, remove, replicate, refl, ap, sym, ◌∙◌, arith, length-append}
use Rattle.std.specs.Prelude.{All, Option}
use Rattle.std.proofs.lemmas.List.{map-append, get_or-map}
use Rattle.std.proofs.lemmas.List.Edits.{length-remove}
use Rattle.std.proofs.lemmas.List.Elements.{All-head, All-tail}
use Rattle.sop_model.specs.declared.geo.Head.{Head}
use Rattle.sop_model.specs.declared.value.Value.{Value}
use Rattle.sop_model.specs.Values.{default_of}
use Rattle.sop_model.specs.Limits.{most_heads}
use Rattle.sop_model.specs.Rows.{changed_at, with_value, with_last_value, without_value, rows_held, with_last_head, without_head}
use Rattle.sop_pages.specs.Pages.{count}
use Rattle.sop_pages.specs.Moves.{Covers}
use Rattle.sop_cells.specs.declared.place.Place.{Place}
use Rattle.sop_cells.specs.Places.{own, AreBased}
use Rattle.sop_cells.specs.Shelves.{ShelfPages, column, Shifts}
use Rattle.sop_cells.proofs.PlaceLemmas.{held-append, based-append, shifts_more}
use Rattle.sop_columns.specs.Names.{NameTable, Grows}
use Rattle.sop_columns.specs.Values.{IsColumn}
use Rattle.sop_columns.specs.Bits.{flag, placed}
use Rattle.sop_columns.proofs.BitLemmas.{none_on}
use Rattle.sop_tables.specs.Transposed.{rows_from}
use Rattle.sop_tables.specs.Tables.{TableLists, flat, places_in, held, rows, column_at, with_column, default_at, IsHeld, IsColumnOf, AreMembers, IsTable, IsTableMade, IsTableStep}
use Rattle.sop_tables.proofs.RowLemmas.{rows_set, rows_held_all, rows_add, rows_del}
use Rattle.sop_tables.proofs.FlatLemmas.{held_by, flat_at, flat_set, flat_remove, flat_last}
use Rattle.sop_tables.proofs.KeptLemmas.{Beside, columns_kept, held_kept, members_kept, all_flags_kept}
use Rattle.sop_tables.proofs.ColumnLemmas.{length-columns, column_of_at, column_whole, columns_based, columns_set, all_held_set, columns_remove, held_remove, columns_last, length-held}

-- MEMBERS

pub members_based : (s : ShelfPages) (size : ℕ) (ms : List (List (Option Place))) → All (AreMembers s size) ms → AreBased s.base (flat (map placed ms))
members_based s size [] all = tt
members_based s size (p ∷ ms) all =
    based-append s.base (placed p) (flat (map placed ms)) (All-head (AreMembers s size) p ms all).based (members_based s size ms (All-tail (AreMembers s size) p ms all))

pub members_of_at : (s : ShelfPages) (size : ℕ) (ms : List (List (Option Place))) (k : ℕ) → k < length ms → All (AreMembers s size) ms → AreMembers s size (get_or ms k [])
members_of_at s size [] k l all = absurd (omega arith)
members_of_at s size (p ∷ ms) zero l all = All-head (AreMembers s size) p ms all
members_of_at s size (p ∷ ms) (suc k) l all = members_of_at s size ms k (omega arith) (All-tail (AreMembers s size) p ms all)

-- no block has no member
pub flag_off : (s : ShelfPages) (k : ℕ) → flag s [] k ≡ false
flag_off s k = none_on (k % 131072)

-- what is held is what the shelf counts, where the table stands on it
pub table_held : (s : ShelfPages) (n : NameTable) (tb : TableLists) → IsTable s n tb → Covers s.own (own (places_in tb)) → IsHeld s (places_in tb)
table_held s n tb is covered = record {
  covered = covered;
  based = based-append s.base (flat tb.columns) (flat (map placed tb.members)) (columns_based s n tb.count tb.set.heads tb.columns is.columns) (members_based s tb.count tb.members is.members);
}

-- what a step leaves is held, and so is what is made
pub step_held : (s t : ShelfPages) (n m : NameTable) (old new : TableLists) → IsTableStep s t n m old new → IsHeld s (places_in old) → IsHeld t (places_in new)
step_held s t n m old new step hd = table_held t m new step.table (record { each = λ x. let a = step.shifts.moves.counts x in let b = hd.covered.each x in omega arith })

pub made_held : (s t : ShelfPages) (n m : NameTable) (new : TableLists) → IsTableMade s t n m new → IsHeld t (places_in new)
made_held s t n m new made = table_held t m new made.table (record { each = λ x. let a = made.shifts.moves.counts x in omega arith })

-- a table without one of its attributes, and with one more
abbrev pub without_column : TableLists → ℕ → TableLists
without_column tb head = record { set = without_head tb.set head; columns = remove tb.columns head; members = tb.members; count = tb.count }

abbrev pub with_last_column : TableLists → Head → List Place → TableLists
with_last_column tb h new = record { set = with_last_head tb.set h; columns = tb.columns ++ new ∷ []; members = tb.members; count = tb.count }

-- ONE CALL'S COLUMN OR MEMBERS

module _ (s : ShelfPages) (n : NameTable) (tb : TableLists) (is : IsTable s n tb) (hd : IsHeld s (places_in tb)) where
  in_columns : (x : ℕ) → held_by x (flat tb.columns) ≤ count s.own x
  in_columns x = let a = held-append x (flat tb.columns) (flat (map placed tb.members)) in let b = hd.covered.each x in omega arith

  in_members : (x : ℕ) → held_by x (flat (map placed tb.members)) ≤ count s.own x
  in_members x = let a = held-append x (flat tb.columns) (flat (map placed tb.members)) in let b = hd.covered.each x in omega arith

  pub many_columns : length tb.columns ≡ length tb.set.heads
  many_columns = length-columns s n tb.count tb.set.heads tb.columns is.columns

  module _ (head : ℕ) (there : head < length tb.set.heads) where
    pub column_of_table : IsColumnOf s n tb.count (default_at tb.set head) (column_at tb head)
    column_of_table = column_of_at s n tb.count tb.set.heads tb.columns head there is.columns

    pub column_there : IsColumn s n (column_at tb head)
    column_there = column_whole s n tb.count (default_at tb.set head) (column_at tb head) column_of_table
        (record { each = λ x. let a = in_columns x in let b = flat_at tb.columns head x in omega arith })

    pub element_there : (e : ℕ) → e < tb.count → e < length (column s (column_at tb head))
    element_there e l = let a = column_of_table.enough in omega arith

    -- A COLUMN IS ANOTHER

    module _ (t : ShelfPages) (m : NameTable) (new : List Place) (shifts : Shifts s t (column_at tb head) new) (grows : Grows n m) where
      rest_beside : Beside s t (column_at tb head) new n m (flat (map placed tb.members))
      rest_beside = record { free = λ x l. let a = held-append x (flat tb.columns) (flat (map placed tb.members)) in let b = hd.covered.each x in let c = flat_at tb.columns head x in omega arith }

      module _ (made : IsColumnOf t m tb.count (default_at tb.set head) new) where
        pub column_step : IsTableStep s t n m tb (with_column tb head new)
        column_step = record {
          shifts = shifts_more s t (column_at tb head) new (places_in tb) (places_in (with_column tb head new)) shifts
              (λ x. let a = held-append x (flat tb.columns) (flat (map placed tb.members)) in let c = flat_at tb.columns head x in omega arith)
              (λ x. let a = held-append x (flat tb.columns) (flat (map placed tb.members)) in let b = held-append x (flat (set tb.columns head new)) (flat (map placed tb.members)) in
              let c = flat_set tb.columns head x new (let l = many_columns in omega arith) in omega arith);
          grows = grows;
          table = record {
            columns = columns_set s t n m (column_at tb head) new shifts grows tb.count tb.set.heads tb.columns head there refl in_columns is.columns made;
            groups = is.groups;
            members = members_kept s t (column_at tb head) new n m shifts grows tb.count tb.members rest_beside is.members;
            few = is.few;
            most = is.most;
          };
        }

      column_rows : rows t m (with_column tb head new) ≡ rows_from tb.count (set (map (held s n tb.count) tb.columns) head (held t m tb.count new)) (map (flag s) tb.members)
      column_rows =
          let a = all_held_set s t n m (column_at tb head) new shifts grows tb.count tb.set.heads tb.columns head there refl in_columns is.columns in
          let f = all_flags_kept s t (column_at tb head) new n m shifts grows tb.members rest_beside in
          λ j. rows_from tb.count (a j) (f j)

      held_there : held s n tb.count (column_at tb head) ≡ get_or (map (held s n tb.count) tb.columns) head []
      held_there = sym (get_or-map (held s n tb.count) tb.columns head [] [] (let l = many_columns in omega arith))

      pub value_rows : (e : ℕ) (v : Value) → e < tb.count → held t m tb.count new ≡ set (held s n tb.count (column_at tb head)) e v → rows t m (with_column tb head new) ≡ changed_at (with_value head v) (rows s n tb) e
      value_rows e v within same =
          column_rows ∙ ap (λ (vs : List Value). rows_from tb.count (set (map (held s n tb.count) tb.columns) head vs) (map (flag s) tb.members)) same
          ∙ rows_set (map (held s n tb.count) tb.columns) (map (flag s) tb.members) tb.count head e (held s n tb.count (column_at tb head)) v held_there
          (let l = length-held s n tb.count (default_at tb.set head) (column_at tb head) column_of_table in omega arith)

      pub whole_rows : (vs : List Value) → length vs ≡ tb.count → held t m tb.count new ≡ vs → rows t m (with_column tb head new) ≡ rows_held head (rows s n tb) vs
      whole_rows vs long same =
          column_rows ∙ ap (λ (ws : List Value). rows_from tb.count (set (map (held s n tb.count) tb.columns) head ws) (map (flag s) tb.members)) same
          ∙ rows_held_all (map (held s n tb.count) tb.columns) (map (flag s) tb.members) tb.count head vs long

    -- A COLUMN GOES

    module _ (t : ShelfPages) (m : NameTable) (shifts : Shifts s t (column_at tb head) []) (grows : Grows n m) where
      pub without_step : IsTableStep s t n m tb (without_column tb head)
      without_step = record {
        shifts = shifts_more s t (column_at tb head) [] (places_in tb) (places_in (without_column tb head)) shifts
            (λ x. let a = held-append x (flat tb.columns) (flat (map placed tb.members)) in let c = flat_at tb.columns head x in omega arith)
            (λ x. let a = held-append x (flat tb.columns) (flat (map placed tb.members)) in let b = held-append x (flat (remove tb.columns head)) (flat (map placed tb.members)) in
            let c = flat_remove tb.columns head x (let l = many_columns in omega arith) in omega arith);
        grows = grows;
        table = record {
          columns = columns_remove s t n m (column_at tb head) [] shifts grows tb.count tb.set.heads tb.columns head there refl in_columns is.columns;
          groups = is.groups;
          members = members_kept s t (column_at tb head) [] n m shifts grows tb.count tb.members (rest_beside t m [] shifts grows) is.members;
          few = (let a = is.few.0 in let b = length-remove tb.set.heads head there in omega arith, is.few.1);
          most = is.most;
        };
      }

      pub without_rows : rows t m (without_column tb head) ≡ map (without_value head) (rows s n tb)
      without_rows =
          let a = held_remove s t n m (column_at tb head) [] shifts grows tb.count tb.set.heads tb.columns head there refl in_columns is.columns in
          let f = all_flags_kept s t (column_at tb head) [] n m shifts grows tb.members (rest_beside t m [] shifts grows) in
          (λ j. rows_from tb.count (a j) (f j)) ∙ rows_del (map (held s n tb.count) tb.columns) (map (flag s) tb.members) tb.count head

  -- A COLUMN COMES

  module _ (t : ShelfPages) (m : NameTable) (h : Head) (new : List Place) (shifts : Shifts s t [] new) (grows : Grows n m) (made : IsColumnOf t m tb.count (default_of h.kind) new) (few : length tb.set.heads < most_heads) where
    all_beside : (places : List Place) → ((x : ℕ) → held_by x places ≤ count s.own x) → Beside s t [] new n m places
    all_beside places covered = record { free = λ x l. let a = covered x in omega arith }

    pub more_step : IsTableStep s t n m tb (with_last_column tb h new)
    more_step = record {
      shifts = shifts_more s t [] new (places_in tb) (places_in (with_last_column tb h new)) shifts (λ x. omega arith)
          (λ x. let a = held-append x (flat tb.columns) (flat (map placed tb.members)) in let b = held-append x (flat (tb.columns ++ new ∷ [])) (flat (map placed tb.members)) in let c = flat_last tb.columns new x in omega arith);
      grows = grows;
      table = record {
        columns = columns_last t m tb.count tb.set.heads tb.columns h new (columns_kept s t [] new n m shifts grows tb.count tb.set.heads tb.columns (all_beside (flat tb.columns) in_columns) is.columns) made;
        groups = is.groups;
        members = members_kept s t [] new n m shifts grows tb.count tb.members (all_beside (flat (map placed tb.members)) in_members) is.members;
        few = (let a = length-append tb.set.heads (h ∷ []) in omega arith, is.few.1);
        most = is.most;
      };
    }

    pub more_rows : held t m tb.count new ≡ replicate tb.count (default_of h.kind) → rows t m (with_last_column tb h new) ≡ map (with_last_value (default_of h.kind)) (rows s n tb)
    more_rows filled =
        let a = map-append (held t m tb.count) tb.columns (new ∷ []) in
        let k = held_kept s t [] new n m shifts grows tb.count tb.set.heads tb.columns (all_beside (flat tb.columns) in_columns) is.columns in
        let b : map (held t m tb.count) (tb.columns ++ new ∷ []) ≡ map (held s n tb.count) tb.columns ++ replicate tb.count (default_of h.kind) ∷ [] = a ∙ (λ j. k j ++ filled j ∷ []) in
        let f = all_flags_kept s t [] new n m shifts grows tb.members (all_beside (flat (map placed tb.members)) in_members) in
        (λ j. rows_from tb.count (b j) (f j)) ∙ rows_add (map (held s n tb.count) tb.columns) (map (flag s) tb.members) tb.count (default_of h.kind)
