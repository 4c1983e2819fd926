-- A geometry as columns, and the geometry that they stand for.
use Rattle.std.specs.Prelude.{◌≡◌, ℕ, ◌^◌, List, [], ◌++◌}
use Rattle.sop_model.specs.declared.class.Class.{Class}
use Rattle.sop_model.specs.declared.class.Class.TheVariants.{Detail, Prim, Point, Vertex}
use Rattle.sop_model.specs.declared.geo.Geo.{Geo}
use Rattle.sop_model.specs.Geometry.{empty_row, heads_of, rows_of, IsSound, IsWithin, AreValuesWithin}
use Rattle.sop_model.specs.Rows.{first_row}
use Rattle.sop_shape.specs.Shapes.{ShapeLists, shape_of}
use Rattle.sop_cells.specs.declared.place.Place.{Place}
use Rattle.sop_cells.specs.Shelves.{ShelfPages, Shifts}
use Rattle.sop_columns.specs.Names.{NameTable, Grows}
use Rattle.sop_tables.specs.Tables.{TableLists, places_in, rows, IsTable, IsNoStep}
use Rattle.sop_sheets.specs.Primitives.{prims_from}

-- A table for each class, and the shape of the primitives.
pub record SheetLists : Type 0 where
  pub detail : TableLists
  pub prim : TableLists
  pub point : TableLists
  pub vertex : TableLists
  pub shape : ShapeLists

abbrev pub table_of : SheetLists → Class → TableLists
table_of sheet Detail = sheet.detail
table_of sheet Prim = sheet.prim
table_of sheet Point = sheet.point
table_of sheet Vertex = sheet.vertex

abbrev pub with_table : SheetLists → Class → TableLists → SheetLists
with_table sheet Detail t = record sheet { detail = t }
with_table sheet Prim t = record sheet { prim = t }
with_table sheet Point t = record sheet { point = t }
with_table sheet Vertex t = record sheet { vertex = t }

-- all places of a geometry
abbrev pub places_of : SheetLists → List Place
places_of sheet = places_in sheet.detail ++ (places_in sheet.prim ++ (places_in sheet.point ++ places_in sheet.vertex))

-- the geometry that a sheet stands for
abbrev pub geo_of : ShelfPages → NameTable → SheetLists → Geo
geo_of s n sheet = record {
  detail = sheet.detail.set;
  prim = sheet.prim.set;
  point = sheet.point.set;
  vertex = sheet.vertex.set;
  points = rows s n sheet.point;
  prims = prims_from 0 sheet.shape.closed sheet.shape.ends sheet.shape.refers (rows s n sheet.prim) (rows s n sheet.vertex);
  detail_row = first_row (rows s n sheet.detail) empty_row;
}

-- the sheet has the heads, groups and rows of the geometry in each class, and its shape
pub record Stands (s : ShelfPages) (n : NameTable) (sheet : SheetLists) (g : Geo) : Type 0 where
  pub sets : (class : Class) → (table_of sheet class).set ≡ heads_of g class
  pub rows : (class : Class) → rows s n (table_of sheet class) ≡ rows_of g class
  pub shape : shape_of g ≡ sheet.shape

-- a sheet: its tables are tables, and it stands for a geometry that is well made, but that primitives may lack vertices, and within the limits
pub record IsSheet (s : ShelfPages) (n : NameTable) (sheet : SheetLists) : Type 0 where
  pub tables : (class : Class) → IsTable s n (table_of sheet class)
  pub geo : Geo
  pub stands : Stands s n sheet geo
  pub sound : IsSound geo
  pub within : IsWithin geo
  pub values : AreValuesWithin geo

-- the most places that a geometry has, and more
abbrev pub sheet_room : ℕ
sheet_room = 2 ^ 40

-- a step after which one sheet stands where another stood
pub record IsSheetStep (s t : ShelfPages) (n m : NameTable) (old new : SheetLists) : Type 0 where
  pub shifts : Shifts s t (places_of old) (places_of new)
  pub grows : Grows n m
  pub sheet : IsSheet t m new

-- a step that makes a sheet beside the others
pub record IsSheetMade (s t : ShelfPages) (n m : NameTable) (new : SheetLists) : Type 0 where
  pub shifts : Shifts s t [] (places_of new)
  pub grows : Grows n m
  pub sheet : IsSheet t m new

-- the sheet stands for this geometry now
pub record Becomes (s t : ShelfPages) (n m : NameTable) (old new : SheetLists) (g : Geo) : Type 0 where
  pub step : IsSheetStep s t n m old new
  pub geo : geo_of t m new ≡ g

-- the sheet and every page stay as they are; names may have come
pub record Stays (s t : ShelfPages) (n m : NameTable) (old new : SheetLists) : Type 0 where
  pub same : new ≡ old
  pub pages : IsNoStep s t n m
