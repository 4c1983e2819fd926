-- A geometry made anew: tables without columns hold no page, and four tables and a shape stand for their geometry.
use Rattle.std.proofs.Common.{◌≡◌, ℕ, List, [], ◌∷◌, ◌++◌, length, map, replicate, refl, ap, sym, ◌∙◌, subst, arith}
use Rattle.sop_model.specs.declared.class.Class.{Class}
use Rattle.sop_model.specs.declared.class.Class.TheVariants.{Detail, Prim, Point, Vertex}
use Rattle.sop_model.specs.declared.geo.Geo.{Geo}
use Rattle.sop_model.specs.declared.geo.HeadSet.{HeadSet}
use Rattle.sop_model.specs.Geometry.{no_heads, only_position, empty_geo, heads_of, rows_of, IsSound, IsWithin, AreValuesWithin}
use Rattle.std.proofs.lemmas.List.{append-nil}
use Rattle.sop_model.specs.Rows.{default_row}
use Rattle.sop_model.proofs.PlainLimits.{IsGood-empty_geo, Fits-empty_geo}
use Rattle.sop_model.proofs.LimitsLemmas.{fits_within}
use Rattle.sop_shape.specs.Shapes.{ShapeLists, HasShape}
use Rattle.sop_pages.specs.Moves.{times}
use Rattle.sop_cells.specs.declared.place.Place.{Place}
use Rattle.sop_cells.specs.Places.{own}
use Rattle.sop_cells.specs.Shelves.{ShelfPages, Shifts}
use Rattle.sop_cells.proofs.PlaceLemmas.{shifts_then, stays}
use Rattle.sop_columns.specs.Bits.{placed}
use Rattle.sop_columns.specs.Names.{NameTable, Grows}
use Rattle.sop_columns.proofs.NameLemmas.{grows_none, grows_then}
use Rattle.sop_tables.specs.Tables.{TableLists, flat, places_in, rows, AreColumns, IsTable, IsTableMade, IsNoStep}
use Rattle.sop_tables.proofs.KeptLemmas.{frame}
use Rattle.sop_sheets.specs.Sheets.{SheetLists, table_of, places_of, geo_of, Stands, IsSheet, IsSheetMade}
use Rattle.sop_sheets.proofs.SheetLemmas.{stands_for}

no_columns : (s : ShelfPages) (n : NameTable) (size : ℕ) (columns : List (List Place)) → AreColumns s n size [] columns → columns ≡ []
no_columns s n size [] are = refl
no_columns s n size (c ∷ columns) are = absurd are

no_members : {X : Type 0} (members : List X) → length members ≡ 0 → members ≡ []
no_members [] none = refl
no_members (b ∷ members) none = absurd (omega arith)

-- a table without heads and groups holds no page
bare_places : (s : ShelfPages) (n : NameTable) (tb : TableLists) → IsTable s n tb → tb.set ≡ no_heads → places_in tb ≡ []
bare_places s n tb is bare =
    let heads = ap (λ (h : HeadSet). h.heads) bare in
    let columns = no_columns s n tb.count tb.columns (subst (λ hs. AreColumns s n tb.count hs tb.columns) heads is.columns) in
    let groups = ap (λ (h : HeadSet). length h.groups) bare in
    let members = no_members tb.members (is.groups ∙ groups) in
    λ j. flat (columns j) ++ flat (map placed (members j))

-- so making one changes no page
pub bare_step : (s t : ShelfPages) (n m : NameTable) (tb : TableLists) → IsTableMade s t n m tb → tb.set ≡ no_heads → IsNoStep s t n m
bare_step s t n m tb made bare = record { shifts = subst (Shifts s t []) (bare_places t m tb made.table bare) made.shifts; grows = made.grows }

pub no_step_then : (s t u : ShelfPages) (n m k : NameTable) → IsNoStep s t n m → IsNoStep t u m k → IsNoStep s u n k
no_step_then s t u n m k a b = record { shifts = shifts_then s t u [] [] [] [] a.shifts b.shifts; grows = grows_then n m k a.grows b.grows }

pub no_step : (s : ShelfPages) (n : NameTable) → IsNoStep s s n n
no_step s n = record { shifts = stays s s [] refl; grows = grows_none n }

-- a table without columns stays as it is whatever comes
pub bare_stays : (s t : ShelfPages) (n m : NameTable) (come : List Place) (tb : TableLists) → Shifts s t [] come → Grows n m → IsTable s n tb → tb.set ≡ no_heads → IsTable t m tb × (rows t m tb ≡ rows s n tb)
bare_stays s t n m come tb shifts grows is bare =
    frame s t n m [] come shifts grows tb (λ id h. let none = ap (λ (places : List Place). times id (own places)) (bare_places s n tb is bare) in absurd (omega arith)) is

-- four tables and a shape that have the parts of a geometry
pub made_sheet : (t : ShelfPages) (m : NameTable) (sheet : SheetLists) (g : Geo) → ((class : Class) → IsTable t m (table_of sheet class)) → Stands t m sheet g → IsSound g → IsWithin g → AreValuesWithin g → IsSheet t m sheet × (geo_of t m sheet ≡ g)
made_sheet t m sheet g tables stands sound within values = (record { tables = tables; geo = g; stands = stands; sound = sound; within = within; values = values }, stands_for t m sheet g stands)

-- THE EMPTY GEOMETRY
module _ (s0 s1 s2 s3 s4 : ShelfPages) (n0 n1 n2 n3 n4 : NameTable) (d p v o : TableLists) (shape : ShapeLists)
    (dm : IsTableMade s0 s1 n0 n1 d) (ds : d.set ≡ no_heads) (dr : rows s1 n1 d ≡ replicate 1 (default_row no_heads))
    (pm : IsTableMade s1 s2 n1 n2 p) (ps : p.set ≡ no_heads) (pr : rows s2 n2 p ≡ replicate 0 (default_row no_heads))
    (vm : IsTableMade s2 s3 n2 n3 v) (vs : v.set ≡ no_heads) (vr : rows s3 n3 v ≡ replicate 0 (default_row no_heads))
    (om : IsTableMade s3 s4 n3 n4 o) (os : o.set ≡ only_position) (or : rows s4 n4 o ≡ replicate 0 (default_row only_position)) (has : HasShape empty_geo shape) where
  abbrev empty_lists : SheetLists
  empty_lists = record { detail = d; prim = p; point = o; vertex = v; shape = shape }

  detail_late : IsTable s4 n4 d × (rows s4 n4 d ≡ rows s1 n1 d)
  detail_late =
      let a = bare_stays s1 s2 n1 n2 (places_in p) d pm.shifts pm.grows dm.table ds in
      let b = bare_stays s2 s3 n2 n3 (places_in v) d vm.shifts vm.grows a.0 ds in
      let c = bare_stays s3 s4 n3 n4 (places_in o) d om.shifts om.grows b.0 ds in
      (c.0, c.1 ∙ b.1 ∙ a.1)

  prim_late : IsTable s4 n4 p × (rows s4 n4 p ≡ rows s2 n2 p)
  prim_late =
      let b = bare_stays s2 s3 n2 n3 (places_in v) p vm.shifts vm.grows pm.table ps in
      let c = bare_stays s3 s4 n3 n4 (places_in o) p om.shifts om.grows b.0 ps in
      (c.0, c.1 ∙ b.1)

  vertex_late : IsTable s4 n4 v × (rows s4 n4 v ≡ rows s3 n3 v)
  vertex_late = bare_stays s3 s4 n3 n4 (places_in o) v om.shifts om.grows vm.table vs

  empty_tables : (class : Class) → IsTable s4 n4 (table_of empty_lists class)
  empty_tables Detail = detail_late.0
  empty_tables Prim = prim_late.0
  empty_tables Point = om.table
  empty_tables Vertex = vertex_late.0

  empty_sets : (class : Class) → (table_of empty_lists class).set ≡ heads_of empty_geo class
  empty_sets Detail = ds
  empty_sets Prim = ps
  empty_sets Point = os
  empty_sets Vertex = vs

  empty_rows : (class : Class) → rows s4 n4 (table_of empty_lists class) ≡ rows_of empty_geo class
  empty_rows Detail = detail_late.1 ∙ dr
  empty_rows Prim = prim_late.1 ∙ pr
  empty_rows Point = or
  empty_rows Vertex = vertex_late.1 ∙ vr

  empty_sheet : IsSheet s4 n4 empty_lists × (geo_of s4 n4 empty_lists ≡ empty_geo)
  empty_sheet =
      made_sheet s4 n4 empty_lists empty_geo empty_tables (record { sets = empty_sets; rows = empty_rows; shape = has }) IsGood-empty_geo.sound (fits_within Fits-empty_geo) (record { within = refl })

  bare_steps : IsNoStep s0 s3 n0 n3
  bare_steps = no_step_then s0 s2 s3 n0 n2 n3 (no_step_then s0 s1 s2 n0 n1 n2 (bare_step s0 s1 n0 n1 d dm ds) (bare_step s1 s2 n1 n2 p pm ps)) (bare_step s2 s3 n2 n3 v vm vs)

  empty_places : places_of empty_lists ≡ places_in o
  empty_places =
      let a = bare_places s1 n1 d dm.table ds in
      let b = bare_places s2 n2 p pm.table ps in
      let c = bare_places s3 n3 v vm.table vs in
      (λ j. a j ++ (b j ++ (places_in o ++ c j))) ∙ append-nil (places_in o)

  pub empty_made : IsSheetMade s0 s4 n0 n4 empty_lists
  empty_made = record {
    shifts = subst (Shifts s0 s4 []) (sym empty_places) (shifts_then s0 s3 s4 [] [] [] (places_in o) bare_steps.shifts om.shifts);
    grows = grows_then n0 n3 n4 bare_steps.grows om.grows;
    sheet = empty_sheet.0;
  }

  pub empty_is : geo_of s4 n4 empty_lists ≡ empty_geo
  empty_is = empty_sheet.1
