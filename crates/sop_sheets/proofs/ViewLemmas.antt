-- What a geometry that is kept as columns has, told by its sheet.
use Rattle.std.proofs.Common.{◌≡◌, ◌++◌, length, map, ap, sym, ◌∙◌, subst, arith}
use Rattle.std.proofs.lemmas.List.{length-map}
use Rattle.sop_model.specs.declared.class.Class.{Class}
use Rattle.sop_model.specs.declared.class.Class.TheVariants.{Detail, Prim, Point, Vertex}
use Rattle.sop_model.specs.declared.geo.Geo.{Geo}
use Rattle.sop_model.specs.Vertices.{corners_of}
use Rattle.sop_model.specs.Geometry.{heads_of, rows_of, count_of, IsSound, IsWithin, AreValuesWithin}
use Rattle.sop_shape.specs.Shapes.{shape_of, HasShape}
use Rattle.sop_pages.specs.Moves.{Covers}
use Rattle.sop_cells.specs.Places.{own}
use Rattle.sop_cells.specs.Shelves.{ShelfPages}
use Rattle.sop_cells.proofs.PlaceLemmas.{based-append}
use Rattle.sop_columns.specs.Names.{NameTable}
use Rattle.sop_tables.specs.Transposed.{row_of}
use Rattle.sop_tables.specs.Tables.{TableLists, places_in, rows, held, IsHeld}
use Rattle.sop_columns.specs.Bits.{flag}
use Rattle.sop_tables.proofs.TabulatedLemmas.{length-tabulated}
use Rattle.sop_tables.proofs.StepLemmas.{table_held}
use Rattle.sop_sheets.specs.Sheets.{SheetLists, table_of, places_of, geo_of, IsSheet}
use Rattle.sop_sheets.proofs.SheetLemmas.{sheet_stands, in_sheet}

-- a table has as many rows as it has elements
pub rows_many : (s : ShelfPages) (n : NameTable) (tb : TableLists) → length (rows s n tb) ≡ tb.count
rows_many s n tb = length-tabulated tb.count (row_of (map (held s n tb.count) tb.columns) (map (flag s) tb.members))

module _ (s : ShelfPages) (n : NameTable) (sheet : SheetLists) (is : IsSheet s n sheet) (g : Geo) (seen : geo_of s n sheet ≡ g) where
  own_geo : is.geo ≡ g
  own_geo = sym (sheet_stands s n sheet is) ∙ seen

  pub sound_in : IsSound g
  sound_in = subst IsSound own_geo is.sound

  pub within_in : IsWithin g
  within_in = subst IsWithin own_geo is.within

  pub values_in : AreValuesWithin g
  values_in = subst AreValuesWithin own_geo is.values

  pub set_in : (class : Class) → (table_of sheet class).set ≡ heads_of g class
  set_in class = is.stands.sets class ∙ ap (λ (h : Geo). heads_of h class) own_geo

  pub rows_in : (class : Class) → rows s n (table_of sheet class) ≡ rows_of g class
  rows_in class = is.stands.rows class ∙ ap (λ (h : Geo). rows_of h class) own_geo

  pub count_in : (class : Class) → (table_of sheet class).count ≡ count_of g class
  count_in class = sym (rows_many s n (table_of sheet class)) ∙ ap length (rows_in class)

  pub shape_in : HasShape g sheet.shape
  shape_in = ap shape_of (sym own_geo) ∙ is.stands.shape

  pub prims_in : length sheet.shape.closed ≡ length g.prims
  prims_in = sym (ap (λ shape. length shape.closed) shape_in) ∙ length-map g.prims (λ p. p.closed)

  pub vertices_in : length sheet.shape.refers ≡ length (corners_of g.prims)
  vertices_in = sym (ap (λ shape. length shape.refers) shape_in) ∙ length-map (corners_of g.prims) (λ c. c.point)

  -- each table's places are held
  pub table_in : IsHeld s (places_of sheet) → (class : Class) → IsHeld s (places_in (table_of sheet class))
  table_in h class = table_held s n (table_of sheet class) (is.tables class) (record { each = λ id. let a = h.covered.each id in let b = in_sheet id sheet class in omega arith })

-- the places of a sheet whose own pages are counted
pub sheet_held : (s : ShelfPages) (n : NameTable) (sheet : SheetLists) → IsSheet s n sheet → Covers s.own (own (places_of sheet)) → IsHeld s (places_of sheet)
sheet_held s n sheet is covered =
    let each = λ (class : Class). (table_held s n (table_of sheet class) (is.tables class) (record { each = λ id. let a = covered.each id in let b = in_sheet id sheet class in omega arith })).based in
    record {
      covered = covered;
      based = based-append s.base (places_in sheet.detail) (places_in sheet.prim ++ (places_in sheet.point ++ places_in sheet.vertex)) (each Detail)
          (based-append s.base (places_in sheet.prim) (places_in sheet.point ++ places_in sheet.vertex) (each Prim) (based-append s.base (places_in sheet.point) (places_in sheet.vertex) (each Point) (each Vertex)));
    }
