-- A column as the values that its cells stand for.
use Rattle.std.specs.Prelude.{◌≡◌, ℕ, List, ◌++◌, replicate, All, map, pos, slice_index_or}
use Rattle.sop_model.specs.declared.value.Value.{Value}
use Rattle.sop_model.specs.declared.value.Value.TheVariants as value
use Rattle.sop_cells.specs.declared.place.Place.{Place}
use Rattle.sop_cells.specs.Shelves.{ShelfPages, column, IsKept}
use Rattle.sop_columns.specs.Names.{NameTable, value_of, IsNumbered}

-- The values of the places' cells, in order.
abbrev pub values : ShelfPages → NameTable → List Place → List Value
values s n places = map (value_of n) (column s places)

-- The column's pages are here, each but the last is full, and what its cells name is in the table.
pub record IsColumn (s : ShelfPages) (n : NameTable) (places : List Place) : Type 0 where
  pub kept : IsKept s places
  pub numbered : All (IsNumbered n) (column s places)

-- The values at these numbers, in this order.
abbrev pub values_at : List Value → List ℕ → List Value
values_at vs numbers = map (λ i. slice_index_or vs i (value.Int (pos 0))) numbers

-- Behind the old values stands the same value, any number of times.
pub record Continues (old new : List Value) (v : Value) : Type 0 where
  pub more : ℕ
  pub is : new ≡ old ++ replicate more v
