use Rattle.std.proofs.Common.{◌+◌, ◌≤◌, ap, sym, subst, refl, arith}
use Rattle.std.specs.Prelude.{OnOk}
use Rattle.sop_model.specs.declared.class.Class.TheVariants.{Point}
use Rattle.sop_model.specs.Geometry.{count_of}
use Rattle.sop_model.specs.Limits.{most_points}
use Rattle.sop_model.specs.Rows.{points_added}
use Rattle.sop_pages.specs.Moves.{Covers}
use Rattle.sop_cells.specs.Places.{own}
use Rattle.sop_tables.specs.Tables.{places_in, IsTable, IsHeld}
use Rattle.sop_sheets.specs.Sheets.{SheetLists, places_of, geo_of, IsSheet, Becomes}
use Rattle.sop_sheets.specs.contracts.sheet.Sheet.{the_view}
use Rattle.sop_sheets.proofs.ViewLemmas.{count_in, table_in}
use Rattle.sop_sheets.proofs.CallLemmas.{ok_three}
use Rattle.sop_sheets.proofs.GrowLemmas.{points_becomes}
use Rattle.sop_sheets.proofs.sheet.Sheet.add_points.Goals as goal

pub grow-requires-clause-table : goal.grow-requires-clause-table
grow-requires-clause-table c =
    let P : SheetLists → Type 0 = λ sheet. IsTable c.args.shelf.now c.args.names.now sheet.point in
    subst P (sym c.self.view_is) (c.requires.sheet.tables Point)

pub grow-requires-clause-held : goal.grow-requires-clause-held
grow-requires-clause-held c =
    let P : SheetLists → Type 0 = λ sheet. IsHeld c.args.shelf.now (places_in sheet.point) in
    subst P (sym c.self.view_is) (table_in c.args.shelf.now c.args.names.now c.args.self.now c.requires.sheet _ refl c.requires.held Point)

pub grow-requires-clause-most : goal.grow-requires-clause-most
grow-requires-clause-most c =
    let same = ap (λ (sheet : SheetLists). sheet.point.count) c.self.view_is in
    let many = count_in c.args.shelf.now c.args.names.now c.args.self.now c.requires.sheet _ refl Point in
    let few = c.requires.few in
    omega arith

pub returns-clause-ok : goal.returns-clause-ok
returns-clause-ok c =
    let e = c.grow.ensures in
    let v = c.self.view_is in
    let was = λ (sheet : SheetLists). IsSheet c.args.shelf.now c.args.names.now sheet in
    let covered = λ (sheet : SheetLists). Covers c.args.shelf.now.own (own (places_of sheet)) in
    let few = λ (sheet : SheetLists). count_of (geo_of c.args.shelf.now c.args.names.now sheet) Point + c.args.more ≤ most_points in
    let after = λ (sheet : SheetLists). OnOk c.grow.result (Becomes c.args.shelf.now c.grow.new.shelf c.args.names.now c.grow.new.names sheet (the_view (record c.self.inside { point = c.grow.new.table })) (points_added (geo_of c.args.shelf.now c.args.names.now sheet) c.args.more)) in
    subst after v
    (ok_three c.grow.result (λ set rows step.
    points_becomes c.args.shelf.now c.grow.new.shelf c.args.names.now c.grow.new.names (the_view c.self.inside) (the_view (record c.self.inside { point = c.grow.new.table }))
    (subst was (sym v) c.requires.sheet) (subst covered (sym v) c.requires.held.covered) refl step c.args.more (subst few (sym v) c.requires.few) set rows)
    e.set e.rows e.step)
