-- Columns made beside those that a shelf has, head by head.
use Rattle.std.specs.Prelude.{◌≡◌, ℕ, List, [], map}
use Rattle.sop_model.specs.declared.geo.Head.{Head}
use Rattle.sop_model.specs.declared.value.Value.{Value}
use Rattle.sop_cells.specs.declared.place.Place.{Place}
use Rattle.sop_cells.specs.Shelves.{ShelfPages, Shifts}
use Rattle.sop_columns.specs.Names.{NameTable, Grows}
use Rattle.sop_tables.specs.Tables.{flat, held, IsHeld, AreColumns}

-- What the shelf took hold of for columns that are being made, so that they can be let go again.
pub record AreBeside (s t : ShelfPages) (n m : NameTable) (lists : List (List Place)) : Type 0 where
  pub shifts : Shifts s t [] (flat lists)
  pub held : IsHeld t (flat lists)
  pub grows : Grows n m

-- Columns of these heads and values, of so many elements.
pub record AreMade (s t : ShelfPages) (n m : NameTable) (count : ℕ) (heads : List Head) (vs : List (List Value)) (lists : List (List Place)) : Type 0 where
  pub beside : AreBeside s t n m lists
  pub columns : AreColumns t m count heads lists
  pub values : map (held t m count) lists ≡ vs
