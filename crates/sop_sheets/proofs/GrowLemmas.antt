-- Elements behind the others: a table that takes the place of another, and what it is for the geometry.
use Rattle.std.proofs.Common.{◌≡◌, ◌≢◌, ℕ, ◌+◌, ◌≤◌, [], ◌++◌, replicate, refl, ap, sym, ◌∙◌, arith}
use Rattle.sop_model.specs.declared.class.Class.{Class}
use Rattle.sop_model.specs.declared.class.Class.TheVariants.{Detail, Prim, Point, Vertex}
use Rattle.sop_model.specs.declared.geo.Geo.{Geo}
use Rattle.sop_model.specs.Limits.{most_points}
use Rattle.sop_model.specs.Geometry.{rows_of, count_of}
use Rattle.sop_model.specs.Rows.{default_row, points_added}
use Rattle.sop_rows.proofs.ElementOps.{heads_of-points_added}
use Rattle.sop_rows.proofs.LawLemmas.{leave_sound, leave_within, leave_values_within}
use Rattle.sop_pages.specs.Moves.{Covers}
use Rattle.sop_cells.specs.Places.{own}
use Rattle.sop_cells.specs.Shelves.{ShelfPages, Shifts}
use Rattle.sop_columns.specs.Names.{NameTable}
use Rattle.sop_columns.proofs.NameLemmas.{grows_none}
use Rattle.sop_tables.specs.Tables.{TableLists, places_in, rows, IsHeld, IsTableStep, IsTableMade}
use Rattle.sop_tables.proofs.KeptLemmas.{frame}
use Rattle.sop_tables.proofs.SwapLemmas.{swap_shifts}
use Rattle.sop_sheets.specs.Sheets.{SheetLists, with_table, places_of, geo_of, IsSheet, Becomes}
use Rattle.sop_sheets.proofs.SheetLemmas.{sheet_stands}
use Rattle.sop_sheets.proofs.CallLemmas.{becomes}

-- a table is made, and the one whose place it takes goes
pub swap_table : (s a t : ShelfPages) (n m : NameTable) (old new : TableLists) → IsHeld s (places_in old) → IsTableMade s a n m new → Shifts a t (places_in old) [] → IsTableStep s t n m old new × (rows t m new ≡ rows a m new)
swap_table s a t n m old new held made gone =
    let kept = frame a t m m (places_in old) [] gone (grows_none m) new (λ id h. let c = made.shifts.moves.counts id in let d = held.covered.each id in omega arith) made.table in
    (record { shifts = swap_shifts s a t (places_in new) made.shifts (places_in old) held.covered gone; grows = made.grows; table = kept.0 }, kept.1)

-- points come: the other rows are those of before
rows_beside : (g : Geo) (more : ℕ) (other : Class) → other ≢ Point → rows_of (points_added g more) other ≡ rows_of g other
rows_beside g more Detail ne = refl
rows_beside g more Prim ne = refl
rows_beside g more Point ne = absurd (ne refl)
rows_beside g more Vertex ne = refl

pub points_becomes : (s t : ShelfPages) (n m : NameTable) (sheet new : SheetLists) (is : IsSheet s n sheet) → Covers s.own (own (places_of sheet)) → new ≡ with_table sheet Point new.point
    → IsTableStep s t n m sheet.point new.point → (more : ℕ) → count_of (geo_of s n sheet) Point + more ≤ most_points → new.point.set ≡ sheet.point.set
    → rows t m new.point ≡ rows s n sheet.point ++ replicate more (default_row sheet.point.set) → Becomes s t n m sheet new (points_added (geo_of s n sheet) more)
points_becomes s t n m sheet new is covered rest step more few set row =
    let g = is.geo in
    let own_geo : g ≡ geo_of s n sheet = sym (sheet_stands s n sheet is) in
    let heads = is.stands.sets Point in
    let were = is.stands.rows Point in
    becomes s t n m sheet new Point is covered rest step (points_added g more) (set ∙ heads) (row ∙ (λ j. were j ++ replicate more (default_row (heads j))))
    (λ other ne. heads_of-points_added g more other) (rows_beside g more) refl (leave_sound.add_points g more is.sound)
    ((leave_within.add_points g more is.within).1 (let e = ap (λ (h : Geo). count_of h Point) own_geo in omega arith)) (leave_values_within.add_points g more is.values)
    (points_added (geo_of s n sheet) more) (ap (λ (h : Geo). points_added h more) own_geo)
