-- What a read of a column or of members is for the rows.
use Rattle.std.proofs.Common.{◌≡◌, ℕ, zero, suc, ◌<◌, Bool, List, [], ◌∷◌, length, map, set, get_or, refl, ap, sym, ◌∙◌, arith}
use Rattle.std.specs.Prelude.{Some, slice_get, pos}
use Rattle.std.specs.Option.{option_and_then}
use Rattle.std.proofs.lemmas.List.{get_or-map, length-map, get_or-take}
use Rattle.std.proofs.lemmas.Option.{slice_get-get_or, get_or_from_slice_get}
use Rattle.sop_model.specs.declared.geo.Row.{Row}
use Rattle.sop_model.specs.declared.value.Value.{Value}
use Rattle.sop_model.specs.declared.value.Value.TheVariants as value
use Rattle.sop_cells.specs.Shelves.{ShelfPages}
use Rattle.sop_columns.specs.Names.{NameTable}
use Rattle.sop_columns.specs.Values.{values}
use Rattle.sop_columns.specs.Bits.{flag}
use Rattle.sop_tables.specs.Transposed.{tabulated, item, row_of}
use Rattle.sop_tables.specs.Tables.{TableLists, held, rows, column_at, members_at}
use Rattle.sop_tables.proofs.RowLemmas.{none}
use Rattle.sop_tables.proofs.FlatLemmas.{any_default}

-- what stands at a number of a list that is another's
pub at_view : {X : Type 0} (xs ys : List X) (k : ℕ) (r d : X) → xs ≡ ys → k < length ys → r ≡ get_or xs k r → r ≡ get_or ys k d
at_view xs ys k r d e l at = at ∙ ap (λ zs. get_or zs k r) e ∙ any_default ys k r d l

-- what is put back changes nothing
pub put_back : {X : Type 0} (xs : List X) (k : ℕ) (r x : X) → r ≡ get_or xs k r → x ≡ r → set xs k x ≡ xs
put_back [] k r x at e = refl
put_back (y ∷ xs) zero r x at e = let s = e ∙ at in λ j. s j ∷ xs
put_back (y ∷ xs) (suc k) r x at e = let s = put_back xs k r x at e in λ j. y ∷ s j

slice_get-tabulated : {X : Type 0} (n i : ℕ) (f : ℕ → X) → i < n → slice_get (tabulated n f) i ≡ Some (f i)
slice_get-tabulated zero i f l = absurd (omega arith)
slice_get-tabulated (suc n) zero f l = refl
slice_get-tabulated (suc n) (suc i) f l = slice_get-tabulated n i (λ k. f (suc k)) (omega arith)

module _ (s : ShelfPages) (n : NameTable) (tb : TableLists) (e : ℕ) (within : e < tb.count) where
  row_read : slice_get (rows s n tb) e ≡ Some (row_of (map (held s n tb.count) tb.columns) (map (flag s) tb.members) e)
  row_read = slice_get-tabulated tb.count e (row_of (map (held s n tb.count) tb.columns) (map (flag s) tb.members)) within

  pub value_read : (head : ℕ) → head < length tb.columns → (v : Value) → slice_get (values s n (column_at tb head)) e ≡ Some v → option_and_then (λ row. slice_get row.values head) (slice_get (rows s n tb) e) ≡ Some v
  value_read head there v is =
      let columns = map (held s n tb.count) tb.columns in
      let many = length-map tb.columns (held s n tb.count) in
      let more = length-map columns (item e) in
      let whole = get_or-take tb.count (values s n (column_at tb head)) e (value.Int (pos 0)) within in
      ap (option_and_then (λ (row : Row). slice_get row.values head)) row_read
      ∙ slice_get-get_or (map (item e) columns) head (value.Int (pos 0)) (omega arith)
      ∙ ap Some (get_or-map (item e) columns head [] (value.Int (pos 0)) (omega arith)
      ∙ ap (item e) (get_or-map (held s n tb.count) tb.columns head [] [] there)
      ∙ whole ∙ get_or_from_slice_get (values s n (column_at tb head)) e v (value.Int (pos 0)) is)

  pub flag_read : (group : ℕ) → group < length tb.members → (b : Bool) → b ≡ flag s (members_at tb group) e → option_and_then (λ row. slice_get row.flags group) (slice_get (rows s n tb) e) ≡ Some b
  flag_read group there b is =
      let members = map (flag s) tb.members in
      let many = length-map tb.members (flag s) in
      let more = length-map members (λ has. has e) in
      ap (option_and_then (λ (row : Row). slice_get row.flags group)) row_read
      ∙ slice_get-get_or (map (λ (has : ℕ → Bool). has e) members) group b (omega arith)
      ∙ ap Some (get_or-map (λ (has : ℕ → Bool). has e) members group none b (omega arith)
      ∙ ap (λ (has : ℕ → Bool). has e) (get_or-map (flag s) tb.members group [] none there) ∙ sym is)
