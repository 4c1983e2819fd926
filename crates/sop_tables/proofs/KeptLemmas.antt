-- A step that leaves the pages of a table as they are leaves its rows.
use Rattle.std.proofs.Common.{◌≡◌, ℕ, ◌/◌, ◌%◌, ◌<◌, ◌≤◌, List, [], ◌∷◌, ◌++◌, length, map, take, drop, get_or, refl, ap, sym, ◌∙◌, subst, arith}
use Rattle.std.specs.Prelude.{All, Option, None}
use Rattle.std.proofs.lemmas.List.Elements.{All-nil, All-cons, All-head, All-tail}
use Rattle.sop_model.specs.declared.geo.Head.{Head}
use Rattle.sop_model.specs.declared.value.Value.{Value}
use Rattle.sop_model.specs.Values.{default_of}
use Rattle.sop_pages.specs.declared.cell.Cell.{Cell}
use Rattle.sop_pages.specs.Pages.{count}
use Rattle.sop_pages.specs.Moves.{times}
use Rattle.sop_cells.specs.declared.place.Place.{Place}
use Rattle.sop_cells.specs.Places.{own}
use Rattle.sop_cells.specs.Shelves.{ShelfPages, blocks, column, joined, IsPaged, Shifts}
use Rattle.sop_cells.proofs.PlaceLemmas.{held-append, kept_beside, based_beside}
use Rattle.sop_columns.specs.Names.{NameTable, value_of, IsNumbered, Grows}
use Rattle.sop_columns.specs.Values.{values}
use Rattle.sop_columns.specs.Bits.{flag, flag_in, placed}
use Rattle.sop_columns.proofs.NameLemmas.{values_grow, all_numbered_grow}
use Rattle.sop_columns.proofs.BitLemmas.{block_kept, bits_at}
use Rattle.sop_tables.specs.Transposed.{rows_from}
use Rattle.sop_tables.specs.Tables.{TableLists, flat, places_in, held, rows, IsColumnOf, AreColumns, AreMembers, IsTable}
use Rattle.sop_tables.proofs.FlatLemmas.{held_by}

-- flags of pages that have another place stay
pub flags_kept : (s t : ShelfPages) (gone come : List Place) → Shifts s t gone come → (bits : List (Option Place)) → ((x : ℕ) → 1 ≤ held_by x (placed bits) → held_by x gone < count s.own x) → (k : ℕ) → flag t bits k ≡ flag s bits k
flags_kept s t gone come shifts bits free k =
    ap (λ (cells : List Cell). flag_in cells (k % 131072)) (block_kept s t gone come (get_or bits (k / 131072) None) shifts (λ x l. free x (let a = bits_at x bits (k / 131072) in omega arith)))

module _ (s t : ShelfPages) (gone come : List Place) (n m : NameTable) where
  -- these places have their pages at others too, outside those that go
  pub record Beside (places : List Place) : Type 0 where
    pub free : (x : ℕ) → 1 ≤ held_by x places → held_by x gone < count s.own x

  module _ (shifts : Shifts s t gone come) (grows : Grows n m) where
    pub front_beside : (xs ys : List Place) → Beside (xs ++ ys) → Beside xs
    front_beside xs ys b = record { free = λ x h. b.free x (let a = held-append x xs ys in omega arith) }

    pub back_beside : (xs ys : List Place) → Beside (xs ++ ys) → Beside ys
    back_beside xs ys b = record { free = λ x h. b.free x (let a = held-append x xs ys in omega arith) }

    -- COLUMNS

    pub blocks_kept : (places : List Place) → Beside places → blocks t places ≡ blocks s places
    blocks_kept places b = kept_beside s t gone come places shifts b.free

    pub column_kept : (places : List Place) → Beside places → column t places ≡ column s places
    column_kept places b = ap joined (blocks_kept places b)

    pub values_kept : (places : List Place) → Beside places → All (IsNumbered n) (column s places) → values t m places ≡ values s n places
    values_kept places b all = ap (map (value_of m)) (column_kept places b) ∙ values_grow n m (column s places) grows all

    pub column_of_kept : (size : ℕ) (d : Value) (places : List Place) → Beside places → IsColumnOf s n size d places → IsColumnOf t m size d places
    column_of_kept size d places b is = record {
      based = based_beside s t gone come places shifts is.based;
      paged = subst IsPaged (sym (blocks_kept places b)) is.paged;
      numbered = subst (All (IsNumbered m)) (sym (column_kept places b)) (all_numbered_grow n m (column s places) grows is.numbered);
      enough = let e = ap (λ (cells : List Cell). length cells) (column_kept places b) in let l = is.enough in omega arith;
      tight = is.tight;
      spare = subst (λ (vs : List Value). All (λ v. v ≡ d) (drop size vs)) (sym (values_kept places b is.numbered)) is.spare;
    }

    pub columns_kept : (size : ℕ) (heads : List Head) (cs : List (List Place)) → Beside (flat cs) → AreColumns s n size heads cs → AreColumns t m size heads cs
    columns_kept size [] [] b all = all
    columns_kept size [] (c ∷ cs) b all = all
    columns_kept size (h ∷ heads) [] b all = all
    columns_kept size (h ∷ heads) (c ∷ cs) b all =
        (column_of_kept size (default_of h.kind) c (front_beside c (flat cs) b) all.0, columns_kept size heads cs (back_beside c (flat cs) b) all.1)

    pub held_kept : (size : ℕ) (heads : List Head) (cs : List (List Place)) → Beside (flat cs) → AreColumns s n size heads cs → map (held t m size) cs ≡ map (held s n size) cs
    held_kept size [] [] b all = refl
    held_kept size [] (c ∷ cs) b all = absurd all
    held_kept size (h ∷ heads) [] b all = refl
    held_kept size (h ∷ heads) (c ∷ cs) b all =
        let here = values_kept c (front_beside c (flat cs) b) all.0.numbered in
        let rest = held_kept size heads cs (back_beside c (flat cs) b) all.1 in
        λ j. take size (here j) ∷ rest j

    -- MEMBERS

    pub members_kept : (size : ℕ) (ms : List (List (Option Place))) → Beside (flat (map placed ms)) → All (AreMembers s size) ms → All (AreMembers t size) ms
    members_kept size [] b all = All-nil (AreMembers t size)
    members_kept size (p ∷ ms) b all =
        let is = All-head (AreMembers s size) p ms all in
        let same = flags_kept s t gone come shifts p (front_beside (placed p) (flat (map placed ms)) b).free in
        All-cons (AreMembers t size) p ms
        (record { based = based_beside s t gone come (placed p) shifts is.based; off = λ i h. same i ∙ is.off i h; few = is.few })
        (members_kept size ms (back_beside (placed p) (flat (map placed ms)) b) (All-tail (AreMembers s size) p ms all))

    pub all_flags_kept : (ms : List (List (Option Place))) → Beside (flat (map placed ms)) → map (flag t) ms ≡ map (flag s) ms
    all_flags_kept [] b = refl
    all_flags_kept (p ∷ ms) b =
        let here = flags_kept s t gone come shifts p (front_beside (placed p) (flat (map placed ms)) b).free in
        let rest = all_flags_kept ms (back_beside (placed p) (flat (map placed ms)) b) in
        λ j. (λ k. here k j) ∷ rest j

    -- A TABLE

    module _ (tb : TableLists) (is : IsTable s n tb) (b : Beside (places_in tb)) where
      columns_beside : Beside (flat tb.columns)
      columns_beside = front_beside (flat tb.columns) (flat (map placed tb.members)) b

      members_beside : Beside (flat (map placed tb.members))
      members_beside = back_beside (flat tb.columns) (flat (map placed tb.members)) b

      pub table_kept : IsTable t m tb
      table_kept = record {
        columns = columns_kept tb.count tb.set.heads tb.columns columns_beside is.columns;
        groups = is.groups;
        members = members_kept tb.count tb.members members_beside is.members;
        few = is.few;
        most = is.most;
      }

      pub rows_kept : rows t m tb ≡ rows s n tb
      rows_kept =
          let a = held_kept tb.count tb.set.heads tb.columns columns_beside is.columns in
          let f = all_flags_kept tb.members members_beside in
          λ j. rows_from tb.count (a j) (f j)

-- THE FRAME: what has all its pages held elsewhere too is kept
pub frame : (s t : ShelfPages) (n m : NameTable) (gone come : List Place) → Shifts s t gone come → Grows n m → (tb : TableLists)
    → ((x : ℕ) → 1 ≤ times x (own (places_in tb)) → times x (own gone) < count s.own x) → IsTable s n tb → IsTable t m tb × (rows t m tb ≡ rows s n tb)
frame s t n m gone come shifts grows tb free is =
    let beside : Beside s t gone come n m (places_in tb) = record { free = free } in
    (table_kept s t gone come n m shifts grows tb is beside, rows_kept s t gone come n m shifts grows tb is beside)
