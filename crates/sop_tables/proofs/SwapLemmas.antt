-- A column is made beside another, which then goes: what that is for the shelf, and for the table.
use Rattle.std.proofs.Common.{Bool, ◌≡◌, ℕ, zero, suc, ◌+◌, ◌*◌, ◌<◌, ◌≤◌, List, [], ◌∷◌, length, map, take, set, get_or, refl, ap, sym, ◌∙◌, subst, arith}
use Rattle.std.specs.Prelude.{All, Option, Some, unwrap_or, option_map, slice_get, slice_index_or, pos}
use Rattle.std.proofs.lemmas.List.{length-map, take_all, take-map, get_or-map}
use Rattle.std.proofs.lemmas.List.Elements.{All-take}
use Rattle.sop_model.specs.declared.geo.Row.{Row}
use Rattle.sop_model.specs.declared.geo.Head.{Head}
use Rattle.sop_model.specs.declared.geo.HeadSet.{HeadSet}
use Rattle.sop_model.specs.Values.{default_of}
use Rattle.sop_model.specs.declared.value.Value.{Value}
use Rattle.sop_model.specs.declared.value.Value.TheVariants as value
use Rattle.sop_model.specs.Rows.{rows_held}
use Rattle.sop_pages.specs.declared.cell.Cell.{Cell}
use Rattle.sop_pages.specs.declared.page.TheConstants.{MOST_CELLS}
use Rattle.sop_pages.specs.Pages.{count}
use Rattle.sop_pages.specs.Moves.{Covers}
use Rattle.sop_cells.specs.declared.place.Place.{Place}
use Rattle.sop_cells.specs.Places.{own}
use Rattle.sop_cells.specs.Shelves.{ShelfPages, column, IsKept, Shifts}
use Rattle.sop_columns.specs.Names.{NameTable, value_of, IsNumbered, Grows}
use Rattle.sop_columns.specs.Values.{values}
use Rattle.sop_columns.specs.Bits.{flag}
use Rattle.sop_columns.proofs.NameLemmas.{grows_none}
use Rattle.sop_tables.specs.Transposed.{tabulated, item, row_of}
use Rattle.sop_tables.specs.Tables.{TableLists, places_in, held, rows, column_at, with_column, default_at, IsHeld, IsColumnOf, IsTable, IsTableStep}
use Rattle.sop_tables.proofs.TabulatedLemmas.{tabulated_map}
use Rattle.sop_tables.proofs.KeptLemmas.{Beside, values_kept, column_of_kept}
use Rattle.sop_tables.proofs.ColumnLemmas.{length-held}
use Rattle.sop_tables.proofs.StepLemmas.{many_columns, column_of_table, column_there, column_step, whole_rows}

-- ON THE SHELF

module _ (s a t : ShelfPages) (fresh : List Place) (made : Shifts s a [] fresh) where
  -- what was made is let go again
  pub undone_shifts : Shifts a t fresh [] → Shifts s t [] []
  undone_shifts gone = record {
    base = gone.base ∙ made.base;
    moves = record {
      counts = λ x. let p = made.moves.counts x in let q = gone.moves.counts x in omega arith;
      kept = λ x l. gone.moves.kept x (let p = made.moves.counts x in omega arith) ∙ made.moves.kept x l;
    };
  }

  -- another column goes
  module _ (old : List Place) (covered : Covers s.own (own old)) where
    pub swap_shifts : Shifts a t old [] → Shifts s t old fresh
    swap_shifts gone = record {
      base = gone.base ∙ made.base;
      moves = record {
        counts = λ x. let p = made.moves.counts x in let q = gone.moves.counts x in omega arith;
        kept = λ x l. gone.moves.kept x (let p = made.moves.counts x in omega arith) ∙ made.moves.kept x (omega arith);
      };
    }

    pub still_covered : Covers a.own (own old)
    still_covered = record { each = λ x. let p = made.moves.counts x in let c = covered.each x in omega arith }

    pub old_beside : (n : NameTable) → Beside s a [] fresh n n old
    old_beside n = record { free = λ x l. let c = covered.each x in omega arith }

    pub fresh_beside : (m : NameTable) → Beside a t old [] m m fresh
    fresh_beside m = record { free = λ x l. let p = made.moves.counts x in let c = covered.each x in omega arith }

-- THE VALUES OF A COLUMN IN THE ROWS

tabulated_items : (n : ℕ) (vs : List Value) → length vs ≡ n → tabulated n (λ i. item i vs) ≡ vs
tabulated_items zero [] e = refl
tabulated_items zero (v ∷ vs) e = absurd (omega arith)
tabulated_items (suc n) [] e = absurd (omega arith)
tabulated_items (suc n) (v ∷ vs) e = ap (λ rest. v ∷ rest) (tabulated_items n vs (omega arith))

pub column_in_rows : (count head : ℕ) (columns : List (List Value)) (members : List (ℕ → Bool)) → head < length columns → length (get_or columns head []) ≡ count
    → map (λ (row : Row). slice_index_or row.values head (value.Int (pos 0))) (tabulated count (row_of columns members)) ≡ get_or columns head []
column_in_rows count head columns members there long =
    sym (tabulated_map (λ (row : Row). slice_index_or row.values head (value.Int (pos 0))) count (row_of columns members) (λ i. item i (get_or columns head []))
    (λ i l. sym (get_or-map (item i) columns head [] (value.Int (pos 0)) there)))
    ∙ tabulated_items count (get_or columns head []) long

-- FOR A TABLE

module _ (s : ShelfPages) (n : NameTable) (tb : TableLists) (is : IsTable s n tb) (hd : IsHeld s (places_in tb)) (head : ℕ) (there : head < length tb.set.heads) where
  abbrev old : List Place
  old = column_at tb head

  abbrev default : Value
  default = default_at tb.set head

  old_covered : Covers s.own (own old)
  old_covered = (column_there s n tb is hd head there).kept.covered

  -- a column of the table's size has come in the place of the old one
  module _ (a t : ShelfPages) (m : NameTable) (fresh : List Place) (made : Shifts s a [] fresh) (gone : Shifts a t old []) (grows : Grows n m) (is_of : IsColumnOf a m tb.count default fresh) where
    after : IsColumnOf t m tb.count default fresh
    after = column_of_kept a t old [] m m gone (grows_none m) tb.count default fresh (fresh_beside s a t fresh made old old_covered m) is_of

    pub swap_step : IsTableStep s t n m tb (with_column tb head fresh)
    swap_step = column_step s n tb is hd head there t m fresh (swap_shifts s a t fresh made old old_covered gone) grows after

    pub swap_rows : (vs : List Value) → values a m fresh ≡ vs → length vs ≡ tb.count → rows t m (with_column tb head fresh) ≡ rows_held head (rows s n tb) vs
    swap_rows vs same long =
        whole_rows s n tb is hd head there t m fresh (swap_shifts s a t fresh made old old_covered gone) grows vs long
        (ap (take tb.count) (values_kept a t old [] m m gone (grows_none m) fresh (fresh_beside s a t fresh made old old_covered m) is_of.numbered ∙ same) ∙ take_all tb.count vs (omega arith))

  -- the old column, while another stands beside it
  module _ (a : ShelfPages) (fresh : List Place) (made : Shifts s a [] fresh) where
    still : IsColumnOf a n tb.count default old
    still = column_of_kept s a [] fresh n n made (grows_none n) tb.count default old (old_beside s a a fresh made old old_covered n) (column_of_table s n tb is hd head there)

    pub still_kept : IsKept a old
    still_kept = record { covered = still_covered s a a fresh made old old_covered; based = still.based; paged = still.paged }

    pub still_enough : tb.count ≤ length (column a old)
    still_enough = still.enough

    pub still_tight : MOST_CELLS * length old < tb.count + MOST_CELLS
    still_tight = still.tight

    -- its first cells, as many as elements
    module _ (cells : List Cell) (first : cells ≡ take tb.count (column a old)) where
      pub loose_numbered : All (IsNumbered n) cells
      loose_numbered = subst (All (IsNumbered n)) (sym first) (All-take (IsNumbered n) tb.count (column a old) still.numbered)

      pub loose_values : map (value_of n) cells ≡ map (λ (row : Row). slice_index_or row.values head (value.Int (pos 0))) (rows s n tb)
      loose_values =
          ap (map (value_of n)) first ∙ sym (take-map (value_of n) tb.count (column a old))
          ∙ ap (take tb.count) (values_kept s a [] fresh n n made (grows_none n) old (old_beside s a a fresh made old old_covered n) (column_of_table s n tb is hd head there).numbered)
          ∙ sym (column_in_rows tb.count head (map (held s n tb.count) tb.columns) (map (flag s) tb.members) in_many (ap (λ (vs : List Value). length vs) at ∙ length-held s n tb.count default old (column_of_table s n tb is hd head there)) ∙ at)
        where
          at : get_or (map (held s n tb.count) tb.columns) head [] ≡ held s n tb.count old
          at = get_or-map (held s n tb.count) tb.columns head [] [] (let l = many_columns s n tb is hd in omega arith)

          in_many : head < length (map (held s n tb.count) tb.columns)
          in_many = let l = many_columns s n tb is hd in let k = length-map tb.columns (held s n tb.count) in omega arith

-- the default of a head that is known
pub default_known : (set : HeadSet) (head : ℕ) (h : Head) → slice_get set.heads head ≡ Some h → default_at set head ≡ default_of h.kind
default_known set head h e = ap (λ (o : Option Head). unwrap_or (option_map default_of (option_map (λ k. k.kind) o)) (value.Int (pos 0))) e
