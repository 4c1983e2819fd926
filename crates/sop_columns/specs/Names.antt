-- Texts and lists that cells name by their numbers.
use Rattle.std.specs.Prelude.{◌≡◌, ℕ, ◌<◌, List, [], ◌++◌, length, slice_index_or}
use Rattle.sop_pages.specs.declared.cell.Cell.{Cell}
use Rattle.sop_pages.specs.declared.cell.Cell.TheVariants as cell
use Rattle.sop_model.specs.declared.value.Value.{Value}
use Rattle.sop_model.specs.declared.value.Value.TheVariants as value

-- The texts and the lists, each at its number.
pub record NameTable : Type 0 where
  pub texts : List (List ℕ)
  pub lists : List Value

-- The value that a cell stands for.
abbrev pub value_of : NameTable → Cell → Value
value_of n (cell.Int i) = value.Int i
value_of n (cell.Real x) = value.Real x
value_of n (cell.Vector v) = value.Vector v
value_of n (cell.Name k) = value.Str (slice_index_or n.texts k [])
value_of n (cell.Many k) = slice_index_or n.lists k (value.Ints [])

-- The text or the list that the cell names is there.
abbrev pub IsNumbered : NameTable → Cell → Type 0
IsNumbered n (cell.Int i) = Unit {0}
IsNumbered n (cell.Real x) = Unit {0}
IsNumbered n (cell.Vector v) = Unit {0}
IsNumbered n (cell.Name k) = k < length n.texts
IsNumbered n (cell.Many k) = k < length n.lists

-- A cell can stand for the value as the table is.
pub record IsThere (n : NameTable) (v : Value) : Type 0 where
  pub cell : Cell
  pub numbered : IsNumbered n cell
  pub value : value_of n cell ≡ v

-- Texts and lists came at the ends, and nothing else changed.
pub record Grows (old new : NameTable) : Type 0 where
  pub more_texts : List (List ℕ)
  pub texts : new.texts ≡ old.texts ++ more_texts
  pub more_lists : List Value
  pub lists : new.lists ≡ old.lists ++ more_lists
