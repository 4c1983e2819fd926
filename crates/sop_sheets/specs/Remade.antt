-- Tables made beside those of a sheet, class by class.
use Rattle.std.specs.Prelude.{◌≡◌, List, [], ◌++◌}
use Rattle.sop_model.specs.declared.class.Class.{Class}
use Rattle.sop_model.specs.declared.class.Class.TheVariants.{Detail, Prim, Point, Vertex}
use Rattle.sop_model.specs.declared.geo.Geo.{Geo}
use Rattle.sop_model.specs.Geometry.{heads_of, rows_of, IsSound, IsWithin, AreValuesWithin}
use Rattle.sop_shape.specs.Shapes.{ShapeLists, HasShape}
use Rattle.sop_cells.specs.declared.place.Place.{Place}
use Rattle.sop_cells.specs.Shelves.{ShelfPages, Shifts}
use Rattle.sop_columns.specs.Names.{NameTable, Grows}
use Rattle.sop_tables.specs.Tables.{TableLists, places_in, rows, IsTable}
use Rattle.sop_tables.specs.Changes.{set_after, rows_changed}
use Rattle.sop_tables.specs.declared.changed.Change.{Change}
use Rattle.sop_sheets.specs.declared.remade.Changes.{Changes}
use Rattle.sop_sheets.specs.declared.remade.Tables.{Tables}
use Rattle.sop_sheets.specs.Sheets.{SheetLists, table_of, places_of}

-- what becomes of a class
abbrev pub change_of : Changes → Class → Change
change_of changes Detail = changes.detail
change_of changes Prim = changes.prim
change_of changes Point = changes.point
change_of changes Vertex = changes.vertex

-- all places of tables that were made
abbrev pub places_made : Tables → List Place
places_made made = places_in made.detail ++ (places_in made.prim ++ (places_in made.point ++ places_in made.vertex))

-- a sheet of these tables and this shape
abbrev pub sheet_of : Tables → ShapeLists → SheetLists
sheet_of made shape = record { detail = made.detail; prim = made.prim; point = made.point; vertex = made.vertex; shape = shape }

-- a table made of an old one, by a change
pub record IsChanged (s t : ShelfPages) (n m : NameTable) (old : TableLists) (change : Change) (new : TableLists) : Type 0 where
  pub table : IsTable t m new
  pub set : new.set ≡ set_after old.set change
  pub rows : rows t m new ≡ rows_changed s n old change

-- two tables made of two old ones, beside them
pub record AreChanged (s t : ShelfPages) (n m : NameTable) (first : TableLists) (change : Change) (second : TableLists) (other : Change) (new next : TableLists) : Type 0 where
  pub shifts : Shifts s t [] (places_in new ++ places_in next)
  pub grows : Grows n m
  pub first_is : IsChanged s t n m first change new
  pub second_is : IsChanged s t n m second other next

-- each table of the new sheet is made of the one of the old sheet, beside it
pub record IsRemade (s t : ShelfPages) (n m : NameTable) (old : SheetLists) (changes : Changes) (new : SheetLists) : Type 0 where
  pub shifts : Shifts s t [] (places_of new)
  pub grows : Grows n m
  pub tables : (class : Class) → IsTable t m (table_of new class)
  pub sets : (class : Class) → (table_of new class).set ≡ set_after (table_of old class).set (change_of changes class)
  pub rows : (class : Class) → rows t m (table_of new class) ≡ rows_changed s n (table_of old class) (change_of changes class)

-- the geometry that changes and a shape make of a sheet
pub record IsRebuilt (s : ShelfPages) (n : NameTable) (old : SheetLists) (changes : Changes) (shape : ShapeLists) (g : Geo) : Type 0 where
  pub sets : (class : Class) → set_after (table_of old class).set (change_of changes class) ≡ heads_of g class
  pub rows : (class : Class) → rows_changed s n (table_of old class) (change_of changes class) ≡ rows_of g class
  pub has : HasShape g shape
  pub sound : IsSound g
  pub within : IsWithin g
  pub values : AreValuesWithin g
