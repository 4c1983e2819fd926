-- Tables of the classes of a geometry that is read, beside all others.
use Rattle.std.specs.Prelude.{◌≡◌, [], ◌++◌}
use Rattle.sop_model.specs.declared.class.Class.{Class}
use Rattle.sop_model.specs.declared.geo.Geo.{Geo}
use Rattle.sop_model.specs.Geometry.{heads_of, rows_of}
use Rattle.sop_cells.specs.Shelves.{ShelfPages, Shifts}
use Rattle.sop_columns.specs.Names.{NameTable, Grows}
use Rattle.sop_tables.specs.Tables.{TableLists, places_in, rows, IsTable}

-- the table of a class of the geometry
pub record IsLoaded (t : ShelfPages) (m : NameTable) (g : Geo) (class : Class) (new : TableLists) : Type 0 where
  pub table : IsTable t m new
  pub set : new.set ≡ heads_of g class
  pub rows : rows t m new ≡ rows_of g class

-- the tables of two classes of the geometry
pub record AreLoaded (s t : ShelfPages) (n m : NameTable) (g : Geo) (one two : Class) (new next : TableLists) : Type 0 where
  pub shifts : Shifts s t [] (places_in new ++ places_in next)
  pub grows : Grows n m
  pub first : IsLoaded t m g one new
  pub second : IsLoaded t m g two next
