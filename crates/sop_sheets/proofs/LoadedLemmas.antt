-- Tables of a geometry that is read, made one after the other, are a sheet of it.
use Rattle.std.proofs.Common.{◌≡◌, List, [], ◌++◌, ◌∙◌}
use Rattle.sop_model.specs.declared.class.Class.{Class}
use Rattle.sop_model.specs.declared.class.Class.TheVariants.{Detail, Prim, Point, Vertex}
use Rattle.sop_model.specs.declared.geo.Geo.{Geo}
use Rattle.sop_model.specs.Geometry.{heads_of, rows_of, IsReadable, AreValuesWithin}
use Rattle.sop_shape.specs.Shapes.{ShapeLists, HasShape}
use Rattle.sop_cells.specs.declared.place.Place.{Place}
use Rattle.sop_cells.specs.Shelves.{ShelfPages, Shifts}
use Rattle.sop_cells.proofs.PlaceLemmas.{shifts_then}
use Rattle.sop_columns.specs.Names.{NameTable, Grows}
use Rattle.sop_columns.proofs.NameLemmas.{grows_then}
use Rattle.sop_tables.specs.Tables.{TableLists, places_in, rows, IsHeld, IsTableMade}
use Rattle.sop_tables.proofs.SourceLemmas.{table_stays, rows_stay}
use Rattle.sop_tables.proofs.StepLemmas.{made_held}
use Rattle.sop_sheets.specs.Sheets.{SheetLists, table_of, geo_of, Stands, IsSheet, IsSheetMade}
use Rattle.sop_sheets.specs.Loaded.{IsLoaded, AreLoaded}
use Rattle.sop_sheets.proofs.MadeLemmas.{made_sheet}
use Rattle.sop_sheets.proofs.TwoLemmas.{first_held, second_held, four_shifts}

-- a table stays while places come
loaded_stays : (a t : ShelfPages) (m k : NameTable) (come : List Place) (g : Geo) (class : Class) (new : TableLists) → Shifts a t [] come → Grows m k → IsHeld a (places_in new) → IsLoaded a m g class new → IsLoaded t k g class new
loaded_stays a t m k come g class new shifts grows held is = record {
  table = table_stays a t m k come shifts grows new is.table held;
  set = is.set;
  rows = rows_stay a t m k come shifts grows new is.table held ∙ is.rows;
}

-- two tables, one after the other
pub two_loaded : (s a t : ShelfPages) (n m k : NameTable) (g : Geo) (one two : Class) (new next : TableLists) → IsTableMade s a n m new → new.set ≡ heads_of g one → rows a m new ≡ rows_of g one
    → IsTableMade a t m k next → next.set ≡ heads_of g two → rows t k next ≡ rows_of g two → AreLoaded s t n k g one two new next
two_loaded s a t n m k g one two new next made set row then set' row' = record {
  shifts = shifts_then s a t [] [] (places_in new) (places_in next) made.shifts then.shifts;
  grows = grows_then n m k made.grows then.grows;
  first = loaded_stays a t m k (places_in next) g one new then.shifts then.grows (made_held s a n m new made) (record { table = made.table; set = set; rows = row });
  second = record { table = then.table; set = set'; rows = row' };
}

-- four, and a shape
module _ (s a t : ShelfPages) (n m k : NameTable) (g : Geo) (d p o v : TableLists) (front : AreLoaded s a n m g Detail Prim d p) (back : AreLoaded a t m k g Point Vertex o v)
    (shape : ShapeLists) (has : HasShape g shape) (readable : IsReadable g) (values : AreValuesWithin g) where
  abbrev four : SheetLists
  four = record { detail = d; prim = p; point = o; vertex = v; shape = shape }

  each : (class : Class) → IsLoaded t k g class (table_of four class)
  each Detail = loaded_stays a t m k (places_in o ++ places_in v) g Detail d back.shifts back.grows (first_held s a n m d p front.shifts front.grows front.first.table front.second.table) front.first
  each Prim = loaded_stays a t m k (places_in o ++ places_in v) g Prim p back.shifts back.grows (second_held s a n m d p front.shifts front.grows front.first.table front.second.table) front.second
  each Point = back.first
  each Vertex = back.second

  stands : Stands t k four g
  stands = record { sets = λ class. (each class).set; rows = λ class. (each class).rows; shape = has }

  sheet : IsSheet t k four × (geo_of t k four ≡ g)
  sheet = made_sheet t k four g (λ class. (each class).table) stands readable.sound readable.within values

  pub loaded_made : IsSheetMade s t n k four
  loaded_made = record { shifts = four_shifts s a t four front.shifts back.shifts; grows = grows_then n m k front.grows back.grows; sheet = sheet.0 }

  pub loaded_is : geo_of t k four ≡ g
  loaded_is = sheet.1
