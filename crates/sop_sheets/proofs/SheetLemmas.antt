-- Sheets: the geometry that one stands for, and what a step of one table is for it.
use Rattle.std.proofs.Common.{◌≡◌, ◌≢◌, ℕ, ◌+◌, ◌<◌, ◌≤◌, List, [], ◌∷◌, ◌++◌, map, refl, ap, sym, ◌∙◌, subst, arith}
use Rattle.sop_model.specs.declared.class.Class.{Class}
use Rattle.sop_model.specs.declared.class.Class.TheVariants.{Detail, Prim, Point, Vertex}
use Rattle.sop_model.specs.declared.geo.Geo.{Geo}
use Rattle.sop_model.specs.declared.geo.Primitive.{Primitive}
use Rattle.sop_model.specs.Vertices.{size_of, ends_of}
use Rattle.sop_model.specs.Geometry.{empty_row, heads_of, rows_of, IsSound, IsWithin, AreValuesWithin}
use Rattle.sop_model.specs.Rows.{first_row}
use Rattle.sop_rows.proofs.ClassRows.{HasShapeOf, each_class}
use Rattle.sop_shape.specs.Shapes.{shape_of}
use Rattle.sop_pages.specs.Pages.{count}
use Rattle.sop_pages.specs.Moves.{times, Covers}
use Rattle.sop_cells.specs.declared.place.Place.{Place}
use Rattle.sop_cells.specs.Places.{own}
use Rattle.sop_cells.specs.Shelves.{ShelfPages, Shifts}
use Rattle.sop_cells.proofs.PlaceLemmas.{held-append}
use Rattle.sop_tables.proofs.KeptLemmas.{frame}
use Rattle.sop_columns.specs.Names.{NameTable, Grows}
use Rattle.sop_tables.specs.Tables.{TableLists, places_in, rows, IsTable, IsTableStep}
use Rattle.sop_sheets.specs.Primitives.{prims_from}
use Rattle.sop_sheets.specs.Sheets.{SheetLists, table_of, with_table, places_of, geo_of, Stands, IsSheet, IsSheetStep}
use Rattle.sop_sheets.proofs.PrimLemmas.{prims_again}

-- what a sheet stands for is the geometry of its parts
pub stands_for : (s : ShelfPages) (n : NameTable) (sheet : SheetLists) (g : Geo) → Stands s n sheet g → geo_of s n sheet ≡ g
stands_for s n sheet g st =
    let d = st.sets Detail in
    let p = st.sets Prim in
    let o = st.sets Point in
    let v = st.sets Vertex in
    let points = st.rows Point in
    let prim_rows = st.rows Prim in
    let vertex_rows = st.rows Vertex in
    let detail = st.rows Detail in
    let shape = st.shape in
    let prims = (λ j. prims_from 0 ((sym shape) j).closed ((sym shape) j).ends ((sym shape) j).refers (prim_rows j) (vertex_rows j)) ∙ prims_again 0 g.prims in
    let row = ap (λ rs. first_row rs empty_row) detail in
    λ j. record { detail = d j; prim = p j; point = o j; vertex = v j; points = points j; prims = prims j; detail_row = row j }

pub sheet_stands : (s : ShelfPages) (n : NameTable) (sheet : SheetLists) → (is : IsSheet s n sheet) → geo_of s n sheet ≡ is.geo
sheet_stands s n sheet is = stands_for s n sheet is.geo is.stands

-- geometries of one shape
ends_by_sizes : (before : ℕ) (ps qs : List Primitive) → map size_of ps ≡ map size_of qs → ends_of before ps ≡ ends_of before qs
ends_by_sizes before [] [] same = refl
ends_by_sizes before [] (q ∷ qs) same = cc
ends_by_sizes before (p ∷ ps) [] same = cc
ends_by_sizes before (p ∷ ps) (q ∷ qs) same =
    let size : size_of p ≡ size_of q = cc in
    let more : map size_of ps ≡ map size_of qs = cc in
    let end = ap (λ n. before + n) size in
    let rest = ends_by_sizes (before + size_of p) ps qs more ∙ ap (λ n. ends_of n qs) end in
    λ j. end j ∷ rest j

pub same_shape : (g h : Geo) → HasShapeOf g h → shape_of h ≡ shape_of g
same_shape g h is =
    let closed = is.closed in
    let ends = ends_by_sizes 0 h.prims g.prims is.sizes in
    let refers = is.refers in
    λ j. record { closed = closed j; ends = ends j; refers = refers j }

-- PLACES

-- how often a table holds a page
abbrev pub table_times : ℕ → TableLists → ℕ
table_times id t = times id (own (places_in t))

pub sheet_times : (id : ℕ) (sheet : SheetLists) → times id (own (places_of sheet)) ≡ table_times id sheet.detail + table_times id sheet.prim + table_times id sheet.point + table_times id sheet.vertex
sheet_times id sheet =
    let A = places_in sheet.detail in
    let B = places_in sheet.prim in
    let C = places_in sheet.point in
    let D = places_in sheet.vertex in
    let last : times id (own (C ++ D)) ≡ times id (own C) + times id (own D) = held-append id C D in
    let more : times id (own (B ++ (C ++ D))) ≡ times id (own B) + times id (own (C ++ D)) = held-append id B (C ++ D) in
    let whole : times id (own (places_of sheet)) ≡ times id (own A) + times id (own (B ++ (C ++ D))) = held-append id A (B ++ (C ++ D)) in
    whole ∙ ap (λ k. times id (own A) + k) (more ∙ ap (λ k. times id (own B) + k) last) ∙ flat_sum (times id (own A)) (times id (own B)) (times id (own C)) (times id (own D))
  where
    flat_sum : (a b c d : ℕ) → a + (b + (c + d)) ≡ a + b + c + d
    flat_sum a b c d = omega arith

pub in_sheet : (id : ℕ) (sheet : SheetLists) (class : Class) → table_times id (table_of sheet class) ≤ times id (own (places_of sheet))
in_sheet id sheet Detail = let a = sheet_times id sheet in omega arith
in_sheet id sheet Prim = let a = sheet_times id sheet in omega arith
in_sheet id sheet Point = let a = sheet_times id sheet in omega arith
in_sheet id sheet Vertex = let a = sheet_times id sheet in omega arith

pub in_two : (id : ℕ) (sheet : SheetLists) (class other : Class) → other ≢ class → table_times id (table_of sheet class) + table_times id (table_of sheet other) ≤ times id (own (places_of sheet))
in_two id sheet Detail Detail ne = absurd (ne refl)
in_two id sheet Detail Prim ne = let a = sheet_times id sheet in omega arith
in_two id sheet Detail Point ne = let a = sheet_times id sheet in omega arith
in_two id sheet Detail Vertex ne = let a = sheet_times id sheet in omega arith
in_two id sheet Prim Detail ne = let a = sheet_times id sheet in omega arith
in_two id sheet Prim Prim ne = absurd (ne refl)
in_two id sheet Prim Point ne = let a = sheet_times id sheet in omega arith
in_two id sheet Prim Vertex ne = let a = sheet_times id sheet in omega arith
in_two id sheet Point Detail ne = let a = sheet_times id sheet in omega arith
in_two id sheet Point Prim ne = let a = sheet_times id sheet in omega arith
in_two id sheet Point Point ne = absurd (ne refl)
in_two id sheet Point Vertex ne = let a = sheet_times id sheet in omega arith
in_two id sheet Vertex Detail ne = let a = sheet_times id sheet in omega arith
in_two id sheet Vertex Prim ne = let a = sheet_times id sheet in omega arith
in_two id sheet Vertex Point ne = let a = sheet_times id sheet in omega arith
in_two id sheet Vertex Vertex ne = absurd (ne refl)

pub with_table_times : (id : ℕ) (sheet : SheetLists) (class : Class) (t : TableLists) → times id (own (places_of (with_table sheet class t))) + table_times id (table_of sheet class) ≡ times id (own (places_of sheet)) + table_times id t
with_table_times id sheet Detail t = let a = sheet_times id sheet in let b = sheet_times id (with_table sheet Detail t) in omega arith
with_table_times id sheet Prim t = let a = sheet_times id sheet in let b = sheet_times id (with_table sheet Prim t) in omega arith
with_table_times id sheet Point t = let a = sheet_times id sheet in let b = sheet_times id (with_table sheet Point t) in omega arith
with_table_times id sheet Vertex t = let a = sheet_times id sheet in let b = sheet_times id (with_table sheet Vertex t) in omega arith

pub table_of-with_table : (sheet : SheetLists) (class : Class) (t : TableLists) → table_of (with_table sheet class t) class ≡ t
table_of-with_table sheet Detail t = refl
table_of-with_table sheet Prim t = refl
table_of-with_table sheet Point t = refl
table_of-with_table sheet Vertex t = refl

pub table_of-with_table_other : (sheet : SheetLists) (class : Class) (t : TableLists) (other : Class) → other ≢ class → table_of (with_table sheet class t) other ≡ table_of sheet other
table_of-with_table_other sheet Detail t Detail ne = absurd (ne refl)
table_of-with_table_other sheet Detail t Prim ne = refl
table_of-with_table_other sheet Detail t Point ne = refl
table_of-with_table_other sheet Detail t Vertex ne = refl
table_of-with_table_other sheet Prim t Detail ne = refl
table_of-with_table_other sheet Prim t Prim ne = absurd (ne refl)
table_of-with_table_other sheet Prim t Point ne = refl
table_of-with_table_other sheet Prim t Vertex ne = refl
table_of-with_table_other sheet Point t Detail ne = refl
table_of-with_table_other sheet Point t Prim ne = refl
table_of-with_table_other sheet Point t Point ne = absurd (ne refl)
table_of-with_table_other sheet Point t Vertex ne = refl
table_of-with_table_other sheet Vertex t Detail ne = refl
table_of-with_table_other sheet Vertex t Prim ne = refl
table_of-with_table_other sheet Vertex t Point ne = refl
table_of-with_table_other sheet Vertex t Vertex ne = absurd (ne refl)

-- a sheet whose pages all have another place is what it was
pub sheet_kept : (s t : ShelfPages) (n m : NameTable) (gone come : List Place) → Shifts s t gone come → Grows n m → (sheet : SheetLists)
    → ((id : ℕ) → 1 ≤ times id (own (places_of sheet)) → times id (own gone) < count s.own id) → (is : IsSheet s n sheet) → IsSheet t m sheet × (geo_of t m sheet ≡ geo_of s n sheet)
sheet_kept s t n m gone come shifts grows sheet free is =
    let each = λ (class : Class). frame s t n m gone come shifts grows (table_of sheet class) (λ id h. free id (let a = in_sheet id sheet class in omega arith)) (is.tables class) in
    let st : Stands t m sheet is.geo = record { sets = is.stands.sets; rows = λ class. (each class).1 ∙ is.stands.rows class; shape = is.stands.shape } in
    (record { tables = λ class. (each class).0; geo = is.geo; stands = st; sound = is.sound; within = is.within; values = is.values }, stands_for t m sheet is.geo st ∙ sym (sheet_stands s n sheet is))

-- one table has taken a step: the geometry has other heads, groups and rows of that class, and all else as before
module _ (s t : ShelfPages) (n m : NameTable) (sheet : SheetLists) (class : Class) (now : TableLists) (is : IsSheet s n sheet) (held : Covers s.own (own (places_of sheet)))
    (step : IsTableStep s t n m (table_of sheet class) now) (g : Geo) (set : now.set ≡ heads_of g class) (row : rows t m now ≡ rows_of g class)
    (sets : (other : Class) → other ≢ class → heads_of g other ≡ heads_of is.geo other) (others : (other : Class) → other ≢ class → rows_of g other ≡ rows_of is.geo other) (shape : shape_of g ≡ shape_of is.geo)
    (sound : IsSound g) (within : IsWithin g) (values : AreValuesWithin g) where
  other_kept : (other : Class) → other ≢ class → IsTable t m (table_of sheet other) × (rows t m (table_of sheet other) ≡ rows s n (table_of sheet other))
  other_kept other ne =
      frame s t n m (places_in (table_of sheet class)) (places_in now) step.shifts step.grows (table_of sheet other)
      (λ id h. let a = in_two id sheet class other ne in let b = held.each id in omega arith) (is.tables other)

  abbrev after : SheetLists
  after = with_table sheet class now

  class_tables : (other : Class) → IsTable t m (table_of after other)
  class_tables = each_class (λ other. IsTable t m (table_of after other)) class (subst (IsTable t m) (sym (table_of-with_table sheet class now)) step.table)
      (λ other ne. subst (IsTable t m) (sym (table_of-with_table_other sheet class now other ne)) (other_kept other ne).0)

  class_stands : Stands t m after g
  class_stands = record {
    sets = each_class (λ other. (table_of after other).set ≡ heads_of g other) class (ap (λ (tb : TableLists). tb.set) (table_of-with_table sheet class now) ∙ set)
        (λ other ne. ap (λ (tb : TableLists). tb.set) (table_of-with_table_other sheet class now other ne) ∙ is.stands.sets other ∙ sym (sets other ne));
    rows = each_class (λ other. rows t m (table_of after other) ≡ rows_of g other) class (ap (rows t m) (table_of-with_table sheet class now) ∙ row)
        (λ other ne. ap (rows t m) (table_of-with_table_other sheet class now other ne) ∙ (other_kept other ne).1 ∙ is.stands.rows other ∙ sym (others other ne));
    shape = shape ∙ is.stands.shape ∙ after_shape class;
  }
    where
      after_shape : (c : Class) → sheet.shape ≡ (with_table sheet c now).shape
      after_shape Detail = refl
      after_shape Prim = refl
      after_shape Point = refl
      after_shape Vertex = refl

  pub class_step : IsSheetStep s t n m sheet (with_table sheet class now)
  class_step = record {
    shifts = record {
      base = step.shifts.base;
      moves = record {
        counts = λ id. let a = with_table_times id sheet class now in let b = step.shifts.moves.counts id in omega arith;
        kept = λ id less. step.shifts.moves.kept id (let a = in_sheet id sheet class in omega arith);
      };
    };
    grows = step.grows;
    sheet = record { tables = class_tables; geo = g; stands = class_stands; sound = sound; within = within; values = values };
  }

  pub class_geo : geo_of t m (with_table sheet class now) ≡ g
  class_geo = stands_for t m after g class_stands
