use Rattle.std.proofs.Common.{◌∙◌, length, ap, sym, subst, refl, arith}
use Rattle.sop_model.specs.declared.class.Class.{Class}
use Rattle.sop_model.specs.declared.class.Class.TheVariants.{Detail, Prim, Point, Vertex}
use Rattle.sop_model.specs.Rows.{prim_added}
use Rattle.sop_sheets.specs.Sheets.{SheetLists, table_of, geo_of, IsSheet, Becomes}
use Rattle.sop_sheets.specs.contracts.sheet.Sheet.{the_view}
use Rattle.sop_sheets.proofs.ViewLemmas.{count_in, shape_in}
use Rattle.sop_sheets.proofs.AddLemmas.{prims_many, vertices_many, more_in, TakesCells, none_taken, prim_within}
use Rattle.sop_sheets.proofs.sheet.Sheet.add_prim_within.Goals as goal
use Rattle.sop_sheets.proofs.sheet.Sheet.add_prim_within.Goals.{After-self, After-occupy-2}

pub add_prim-requires-clause-prims : goal.add_prim-requires-clause-prims
add_prim-requires-clause-prims c =
    let many = prims_many c.args.shelf.now c.args.names.now c.args.self.now c.requires.sheet _ refl in
    let same = ap (λ (sheet : SheetLists). length sheet.shape.closed) c.self.view_is in
    let few = c.requires.prims in
    omega arith

pub add_prim-requires-clause-vertices : goal.add_prim-requires-clause-vertices
add_prim-requires-clause-vertices c =
    let many = vertices_many c.args.shelf.now c.args.names.now c.args.self.now c.requires.sheet _ refl in
    let same = ap (λ (sheet : SheetLists). length sheet.shape.refers) c.self.view_is in
    let few = c.requires.vertices in
    omega arith

-- the sheet, told by its parts
was : (c : After-self) → IsSheet c.args.shelf.now c.args.names.now (the_view c.self.inside)
was c = subst (IsSheet c.args.shelf.now c.args.names.now) (sym c.self.view_is) c.requires.sheet

pub occupy-requires-clause-table : goal.occupy-requires-clause-table
occupy-requires-clause-table c = (was (goal.at.occupy-requires-clause-table c).After-self).tables Prim

pub occupy-requires-clause-most : goal.occupy-requires-clause-most
occupy-requires-clause-most c =
    let many = count_in c.args.shelf.now c.args.names.now c.args.self.now c.requires.sheet _ refl Prim in
    let same = ap (λ (sheet : SheetLists). sheet.prim.count) c.self.view_is in
    let few = c.requires.prims in
    omega arith

pub occupy-requires-2-clause-table : goal.occupy-requires-2-clause-table
occupy-requires-2-clause-table c = (was (goal.at.occupy-requires-2-clause-table c).After-self).tables Vertex

pub occupy-requires-2-clause-most : goal.occupy-requires-2-clause-most
occupy-requires-2-clause-most c =
    let many = count_in c.args.shelf.now c.args.names.now c.args.self.now c.requires.sheet _ refl Vertex in
    let same = ap (λ (sheet : SheetLists). sheet.vertex.count) c.self.view_is in
    let few = c.requires.vertices in
    omega arith

-- the sheet as it is then
abbrev now : After-occupy-2 → SheetLists
now c = the_view (record c.self.inside { prim = c.occupy.new.self; vertex = c.occupy-2.new.self; topology = c.add_prim.new.self })

-- each table has the elements that come
each : (c : After-occupy-2) → IsSheet c.args.shelf.now c.args.names.now (the_view c.self.inside) → (class : Class) → TakesCells c.args.shelf.now c.args.names.now (table_of (the_view c.self.inside) class) (table_of (now c) class) (more_in (length c.args.points.now) class)
each c is Detail = none_taken c.args.shelf.now c.args.names.now c.self.inside.detail (is.tables Detail)
each c is Prim = let e = c.occupy.ensures in record { set = e.set; places = e.places; table = e.table; rows = e.rows }
each c is Point = none_taken c.args.shelf.now c.args.names.now c.self.inside.point (is.tables Point)
each c is Vertex = let e = c.occupy-2.ensures in record { set = e.set; places = e.places; table = e.table; rows = e.rows }

pub returns-clause-ok : goal.returns-clause-ok
returns-clause-ok c =
    let d = (goal.at.returns-clause-ok c).After-occupy-2 in
    let is = was (goal.at.returns-clause-ok c).After-self in
    let here = geo_of c.args.shelf.now c.args.names.now c.args.self.now in
    let seen = ap (geo_of c.args.shelf.now c.args.names.now) c.self.view_is in
    let shape = shape_in c.args.shelf.now c.args.names.now c.args.self.now c.requires.sheet here refl ∙ ap (λ (sheet : SheetLists). sheet.shape) (sym c.self.view_is) in
    let after = λ (old : SheetLists). Becomes c.args.shelf.now c.args.shelf.now c.args.names.now c.args.names.now old (now d) (prim_added here c.args.closed c.args.points.now) in
    subst after c.self.view_is
    (prim_within c.args.shelf.now c.args.names.now (the_view c.self.inside) is here seen c.args.closed c.args.points.now c.requires.points c.requires.prims c.requires.vertices
    (now d) (each d is) (c.in_ok-add_prim.ensures.ok here shape))
