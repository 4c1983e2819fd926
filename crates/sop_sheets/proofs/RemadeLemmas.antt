-- Tables made one after the other beside those of a sheet, let go again for want of memory, or put in their place.
use Rattle.std.proofs.Common.{◌≡◌, List, [], ◌∷◌, ◌++◌, map, replicate, ap, ◌∙◌, arith}
use Rattle.sop_model.specs.declared.class.Class.{Class}
use Rattle.sop_model.specs.declared.class.Class.TheVariants.{Detail, Prim, Point, Vertex}
use Rattle.sop_model.specs.declared.geo.Geo.{Geo}
use Rattle.sop_model.specs.declared.geo.Row.{Row}
use Rattle.sop_model.specs.Geometry.{empty_row, heads_of, rows_of, IsSound, IsWithin, AreValuesWithin}
use Rattle.sop_model.specs.Rows.{default_row, first_row, picked}
use Rattle.sop_model.specs.Merge.{row_under}
use Rattle.sop_rows.specs.Both.{both_sets, row_widened}
use Rattle.sop_shape.specs.Shapes.{ShapeLists, shape_of}
use Rattle.sop_cells.specs.declared.place.Place.{Place}
use Rattle.sop_cells.specs.Shelves.{ShelfPages, Shifts}
use Rattle.sop_cells.proofs.PlaceLemmas.{based-append, shifts_then}
use Rattle.sop_columns.specs.Names.{NameTable, Grows}
use Rattle.sop_columns.proofs.NameLemmas.{grows_none, grows_then}
use Rattle.sop_tables.specs.Tables.{TableLists, places_in, rows, IsTable, IsHeld, IsTableMade}
use Rattle.sop_tables.specs.Changes.{set_after, row_beside, rows_changed, IsOther, Fits, IsSource}
use Rattle.sop_tables.specs.declared.changed.Change.{Change}
use Rattle.sop_tables.specs.declared.changed.Change.TheVariants.{Longer, Picked, Appended, Widened}
use Rattle.sop_tables.proofs.KeptLemmas.{frame}
use Rattle.sop_tables.proofs.SourceLemmas.{table_stays, rows_stay}
use Rattle.sop_tables.proofs.StepLemmas.{table_held, made_held}
use Rattle.sop_tables.proofs.SwapLemmas.{swap_shifts}
use Rattle.sop_sheets.specs.Sheets.{SheetLists, table_of, places_of, geo_of, Stands, IsSheet, Becomes}
use Rattle.sop_sheets.specs.Remade.{change_of, IsChanged, AreChanged, IsRemade}
use Rattle.sop_sheets.specs.declared.remade.Changes.{Changes}
use Rattle.sop_sheets.proofs.SheetLemmas.{in_sheet}
use Rattle.sop_sheets.proofs.MadeLemmas.{made_sheet}
use Rattle.sop_sheets.proofs.TwoLemmas.{first_held, second_held, four_shifts}

-- ONE TABLE BESIDE ANOTHER

module _ (s a : ShelfPages) (n m : NameTable) (tb : TableLists) (change : Change) where
  rows_changed_stay : (come : List Place) → Shifts s a [] come → Grows n m → IsSource s n tb change → rows_changed a m tb change ≡ rows_changed s n tb change
  rows_changed_stay come shifts grows is = by change is.fits (rows_stay s a n m come shifts grows tb is.table is.held)
    where
      others : (other : TableLists) → IsOther s n other → rows a m other ≡ rows s n other
      others other o = rows_stay s a n m come shifts grows other o.table o.held

      by : (change : Change) → Fits s n tb change → rows a m tb ≡ rows s n tb → rows_changed a m tb change ≡ rows_changed s n tb change
      by (Longer more) f same = ap (λ (rs : List Row). rs ++ replicate more (default_row tb.set)) same
      by (Picked numbers) f same = ap (λ (rs : List Row). picked rs empty_row numbers.now) same
      by (Appended other) f same = let them = others other.now f.other in λ j. map (row_widened tb.set other.now.set) (same j) ++ map (row_under (both_sets tb.set other.now.set) other.now.set) (them j)
      by (Widened other) f same = let them = others other.now f.other in λ j. row_beside tb.set other.now.set (first_row (same j) empty_row) (first_row (them j) empty_row) ∷ []

  -- a table that is made of one while places came beside it
  pub changed_late : (t : ShelfPages) (k : NameTable) (come : List Place) (new : TableLists) → Shifts s a [] come → Grows n m → IsSource s n tb change → IsChanged a t m k tb change new → IsChanged s t n k tb change new
  changed_late t k come new shifts grows is changed = record { table = changed.table; set = changed.set; rows = changed.rows ∙ rows_changed_stay come shifts grows is }

  -- a table that was made stays while places come
  pub changed_stays : (t : ShelfPages) (k : NameTable) (come : List Place) (new : TableLists) → IsHeld a (places_in new) → Shifts a t [] come → Grows m k → IsChanged s a n m tb change new → IsChanged s t n k tb change new
  changed_stays t k come new held shifts grows changed = record {
    table = table_stays a t m k come shifts grows new changed.table held;
    set = changed.set;
    rows = rows_stay a t m k come shifts grows new changed.table held ∙ changed.rows;
  }

-- two tables, one after the other
module _ (s a t : ShelfPages) (n m k : NameTable) (first : TableLists) (change : Change) (second : TableLists) (other : Change) (new : TableLists) where
  pub both_made : (next : TableLists) → IsTableMade s a n m new → new.set ≡ set_after first.set change → rows a m new ≡ rows_changed s n first change → IsTableMade a t m k next → next.set ≡ set_after second.set other
      → rows t k next ≡ rows_changed a m second other → IsSource s n second other → AreChanged s t n k first change second other new next
  both_made next made set row then set' row' is = record {
    shifts = shifts_then s a t [] [] (places_in new) (places_in next) made.shifts then.shifts;
    grows = grows_then n m k made.grows then.grows;
    first_is = changed_stays s a n m first change t k (places_in next) new (made_held s a n m new made) then.shifts then.grows (record { table = made.table; set = set; rows = row });
    second_is = changed_late s a n m second other t k (places_in new) next made.shifts made.grows is (record { table = then.table; set = set'; rows = row' });
  }

-- FOUR TABLES

module _ (s a t : ShelfPages) (n m k : NameTable) (old : SheetLists) (changes : Changes) (d p o v : TableLists) (source : (class : Class) → IsSource s n (table_of old class) (change_of changes class))
    (front : AreChanged s a n m old.detail changes.detail old.prim changes.prim d p) (back : AreChanged a t m k old.point changes.point old.vertex changes.vertex o v) where
  abbrev four : SheetLists
  four = record { detail = d; prim = p; point = o; vertex = v; shape = old.shape }

  each_remade : (class : Class) → IsChanged s t n k (table_of old class) (change_of changes class) (table_of four class)
  each_remade Detail =
      changed_stays s a n m old.detail changes.detail t k (places_in o ++ places_in v) d (first_held s a n m d p front.shifts front.grows front.first_is.table front.second_is.table) back.shifts back.grows front.first_is
  each_remade Prim =
      changed_stays s a n m old.prim changes.prim t k (places_in o ++ places_in v) p (second_held s a n m d p front.shifts front.grows front.first_is.table front.second_is.table) back.shifts back.grows front.second_is
  each_remade Point = changed_late s a n m old.point changes.point t k (places_in d ++ places_in p) o front.shifts front.grows (source Point) back.first_is
  each_remade Vertex = changed_late s a n m old.vertex changes.vertex t k (places_in d ++ places_in p) v front.shifts front.grows (source Vertex) back.second_is

  pub four_made : IsRemade s t n k old changes four
  four_made = record {
    shifts = four_shifts s a t four front.shifts back.shifts;
    grows = grows_then n m k front.grows back.grows;
    tables = λ class. (each_remade class).table;
    sets = λ class. (each_remade class).set;
    rows = λ class. (each_remade class).rows;
  }

-- IN THEIR PLACE

-- the old tables go, and the new ones stand for a geometry, with its shape
module _ (s a t : ShelfPages) (n m : NameTable) (old : SheetLists) (changes : Changes) (made : SheetLists) (held : IsHeld s (places_of old)) (remade : IsRemade s a n m old changes made) (gone : Shifts a t (places_of old) [])
    (g : Geo) (shape : ShapeLists) (sets : (class : Class) → set_after (table_of old class).set (change_of changes class) ≡ heads_of g class)
    (row : (class : Class) → rows_changed s n (table_of old class) (change_of changes class) ≡ rows_of g class) (has : shape_of g ≡ shape) (sound : IsSound g) (within : IsWithin g) (values : AreValuesWithin g) where
  abbrev now : SheetLists
  now = record made { shape = shape }

  -- what a table is, which shape doesn't change
  in_place : (P : TableLists → Class → Type 0) → ((class : Class) → P (table_of made class) class) → (class : Class) → P (table_of now class) class
  in_place P all Detail = all Detail
  in_place P all Prim = all Prim
  in_place P all Point = all Point
  in_place P all Vertex = all Vertex

  stay : (class : Class) → IsTable t m (table_of made class) × (rows t m (table_of made class) ≡ rows a m (table_of made class))
  stay class =
      frame a t m m (places_of old) [] gone (grows_none m) (table_of made class)
      (λ id h. let c = remade.shifts.moves.counts id in let d = held.covered.each id in let e = in_sheet id made class in omega arith) (remade.tables class)

  stands : Stands t m now g
  stands = record {
    sets = in_place (λ tb class. tb.set ≡ heads_of g class) (λ class. remade.sets class ∙ sets class);
    rows = in_place (λ tb class. rows t m tb ≡ rows_of g class) (λ class. (stay class).1 ∙ remade.rows class ∙ row class);
    shape = has;
  }

  sheet : IsSheet t m now × (geo_of t m now ≡ g)
  sheet = made_sheet t m now g (in_place (λ tb class. IsTable t m tb) (λ class. (stay class).0)) stands sound within values

  pub remade_becomes : Becomes s t n m old now g
  remade_becomes = record {
    step = record { shifts = swap_shifts s a t (places_of made) remade.shifts (places_of old) held.covered gone; grows = remade.grows; sheet = sheet.0 };
    geo = sheet.1;
  }

-- tables that were made are held
pub remade_held : (s t : ShelfPages) (n m : NameTable) (old : SheetLists) (changes : Changes) (made : SheetLists) → IsRemade s t n m old changes made → IsHeld t (places_of made)
remade_held s t n m old changes made remade =
    let each = λ (class : Class). (table_held t m (table_of made class) (remade.tables class) (record { each = λ id. let a = remade.shifts.moves.counts id in let b = in_sheet id made class in omega arith })).based in
    record {
      covered = record { each = λ id. let a = remade.shifts.moves.counts id in omega arith };
      based = based-append t.base (places_in made.detail) (places_in made.prim ++ (places_in made.point ++ places_in made.vertex)) (each Detail)
          (based-append t.base (places_in made.prim) (places_in made.point ++ places_in made.vertex) (each Prim) (based-append t.base (places_in made.point) (places_in made.vertex) (each Point) (each Vertex)));
    }
