-- Elements that come in spare cells.
use Rattle.std.proofs.Common.{◌≡◌, ℕ, ◌+◌, ◌<◌, ◌≤◌, List, [], ◌∷◌, ◌++◌, length, map, take, drop, get_or, replicate, refl, ap, sym, ◌∙◌, subst, arith, append-nil}
use Rattle.std.specs.Prelude.{All, Option}
use Rattle.std.proofs.lemmas.List.{length-map, get_or_read, take_all}
use Rattle.std.proofs.lemmas.List.Elements.{All-nil, All-cons, All-head, All-tail}
use Rattle.sop_model.specs.declared.geo.Head.{Head}
use Rattle.sop_model.specs.declared.value.Value.{Value}
use Rattle.sop_model.specs.Values.{default_of}
use Rattle.sop_model.specs.Limits.{most_vertices}
use Rattle.sop_model.specs.Rows.{default_row}
use Rattle.sop_cells.specs.declared.place.Place.{Place}
use Rattle.sop_cells.specs.Shelves.{ShelfPages, column, IsKept}
use Rattle.sop_columns.specs.Names.{NameTable, value_of}
use Rattle.sop_columns.specs.Values.{values}
use Rattle.sop_columns.specs.Bits.{flag}
use Rattle.sop_tables.specs.Transposed.{append_each, filled_each, rows_from}
use Rattle.sop_tables.specs.Tables.{TableLists, places_in, held, rows, column_at, IsColumnOf, AreColumns, AreMembers, IsTable, IsHeld}
use Rattle.sop_tables.specs.Changes.{HasCells}
use Rattle.sop_tables.proofs.BesideLemmas.{take_on, spare_on}
use Rattle.sop_tables.proofs.ChangedRows.{columns_of_count, many_columns_held, off_later}
use Rattle.sop_tables.proofs.ColumnLemmas.{length-columns}
use Rattle.sop_tables.proofs.StepLemmas.{column_there}
use Rattle.sop_tables.proofs.RowLemmas.{rows_longer}

module _ (s : ShelfPages) (n : NameTable) (size more : ℕ) where
  module _ (d : Value) (p : List Place) (is : IsColumnOf s n size d p) (enough : size + more ≤ length (column s p)) where
    whole : values s n p ++ replicate 0 d ≡ values s n p
    whole = append-nil (values s n p)

    first : size ≤ length (values s n p)
    first = let a = length-map (column s p) (value_of n) in let b = is.enough in omega arith

    occupied_column : IsColumnOf s n (size + more) d p
    occupied_column = record {
      based = is.based;
      paged = is.paged;
      numbered = is.numbered;
      enough = enough;
      tight = let t = is.tight in omega arith;
      spare = subst (λ (vs : List Value). All (λ v. v ≡ d) (drop (size + more) vs)) whole (spare_on size more 0 d (values s n p) first is.spare);
    }

    occupied_held : held s n (size + more) p ≡ held s n size p ++ replicate more d
    occupied_held =
        ap (take (size + more)) (sym whole)
        ∙ take_on size more 0 d (values s n p) first is.spare (let a = length-map (column s p) (value_of n) in let b = ap (λ (vs : List Value). length vs) whole in omega arith)

  occupied_columns : (heads : List Head) (cs : List (List Place)) → AreColumns s n size heads cs → All (λ p. size + more ≤ length (column s p)) cs → AreColumns s n (size + more) heads cs
  occupied_columns [] [] all cells = all
  occupied_columns [] (c ∷ cs) all cells = all
  occupied_columns (h ∷ heads) [] all cells = all
  occupied_columns (h ∷ heads) (c ∷ cs) all cells =
      (occupied_column (default_of h.kind) c all.0 (All-head (λ p. size + more ≤ length (column s p)) c cs cells), occupied_columns heads cs all.1 (All-tail (λ p. size + more ≤ length (column s p)) c cs cells))

  occupied_values : (heads : List Head) (cs : List (List Place)) → AreColumns s n size heads cs → All (λ p. size + more ≤ length (column s p)) cs
      → map (held s n (size + more)) cs ≡ append_each (map (held s n size) cs) (filled_each more (map (λ h. default_of h.kind) heads))
  occupied_values [] [] all cells = refl
  occupied_values [] (c ∷ cs) all cells = absurd all
  occupied_values (h ∷ heads) [] all cells = refl
  occupied_values (h ∷ heads) (c ∷ cs) all cells =
      let here = occupied_held (default_of h.kind) c all.0 (All-head (λ p. size + more ≤ length (column s p)) c cs cells) in
      let rest = occupied_values heads cs all.1 (All-tail (λ p. size + more ≤ length (column s p)) c cs cells) in λ j. here j ∷ rest j

  occupied_members : (ms : List (List (Option Place))) → All (AreMembers s size) ms → All (AreMembers s (size + more)) ms
  occupied_members [] all = All-nil (AreMembers s (size + more))
  occupied_members (p ∷ ms) all =
      let is = All-head (AreMembers s size) p ms all in
      All-cons (AreMembers s (size + more)) p ms (record { based = is.based; off = λ i l. is.off i (omega arith); few = is.few }) (occupied_members ms (All-tail (AreMembers s size) p ms all))

module _ (s : ShelfPages) (n : NameTable) (tb : TableLists) (is : IsTable s n tb) (more : ℕ) (cells : HasCells s tb (tb.count + more)) (most : tb.count + more ≤ most_vertices) where
  abbrev pub occupied : ℕ → TableLists
  occupied count = record { set = tb.set; columns = tb.columns; members = tb.members; count = count }

  pub occupied_table : IsTable s n (occupied (tb.count + more))
  occupied_table = record {
    columns = occupied_columns s n tb.count more tb.set.heads tb.columns is.columns cells.each;
    groups = is.groups;
    members = occupied_members s n tb.count more tb.members is.members;
    few = is.few;
    most = most;
  }

  pub occupied_rows : rows s n (occupied (tb.count + more)) ≡ rows s n tb ++ replicate more (default_row tb.set)
  occupied_rows =
      ap (λ (vs : List (List Value)). rows_from (tb.count + more) vs (map (flag s) tb.members)) (occupied_values s n tb.count more tb.set.heads tb.columns is.columns cells.each)
      ∙ rows_longer tb.count more tb.set (map (flag s) tb.members) (map (held s n tb.count) tb.columns) (columns_of_count s n tb.count tb.set.heads tb.columns is.columns) (many_columns_held s n tb is)
      (λ i l. off_later s n tb.count more tb.set.groups tb.members i is.groups is.members)

-- a column among those of a table is one to read
pub column_kept_at : (s : ShelfPages) (n : NameTable) (tb : TableLists) → IsTable s n tb → IsHeld s (places_in tb) → (cs : List (List Place)) (k : ℕ) (p : List Place) → cs ≡ tb.columns → k < length cs → p ≡ get_or cs k p → IsKept s p
column_kept_at s n tb is hd cs k p same l at =
    let long = length-columns s n tb.count tb.set.heads tb.columns is.columns in
    let e = ap (λ (xs : List (List Place)). length xs) same in
    let there : p ≡ column_at tb k = get_or_read cs k p l at [] ∙ ap (λ (xs : List (List Place)). get_or xs k []) same in
    subst (IsKept s) (sym there) (column_there s n tb is hd k (omega arith)).kept

-- all columns have cells enough, or one has not
module _ (s : ShelfPages) (tb : TableLists) (cs : List (List Place)) (same : cs ≡ tb.columns) (total count : ℕ) (sum : total ≡ count) where
  pub all_cells : (k : ℕ) → length cs ≤ k → All (λ p. total ≤ length (column s p)) (take k cs) → HasCells s tb count
  all_cells k l all = record {
    each = subst (λ (c : ℕ). All (λ p. c ≤ length (column s p)) tb.columns) sum
        (subst (All (λ p. total ≤ length (column s p))) same (subst (All (λ p. total ≤ length (column s p))) (take_all k cs l) all));
  }

  pub cells_missing : (k : ℕ) (p : List Place) → k < length cs → p ≡ get_or cs k p → length (column s p) < total → HasCells s tb count → ⊥
  cells_missing k p l at short has =
      let e = ap (λ (xs : List (List Place)). length xs) same in
      let a = has.each k [] (omega arith) in
      let there : p ≡ get_or tb.columns k [] = get_or_read cs k p l at [] ∙ ap (λ (xs : List (List Place)). get_or xs k []) same in
      let b = ap (λ (q : List Place). length (column s q)) there in omega arith
