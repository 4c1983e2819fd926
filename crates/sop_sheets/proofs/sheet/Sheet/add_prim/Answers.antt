use Rattle.std.proofs.Common.{refl, arith}
use Rattle.sop_model.specs.declared.class.Class.TheVariants.{Prim, Vertex}
use Rattle.sop_columns.proofs.NameLemmas.{grows_none}
use Rattle.sop_sheets.proofs.ViewLemmas.{count_in, table_in}
use Rattle.sop_sheets.proofs.CallLemmas.{on_err, stays_still}
use Rattle.sop_sheets.proofs.sheet.Sheet.add_prim.Goals as goal

pub has_cells-requires-clause-prim : goal.has_cells-requires-clause-prim
has_cells-requires-clause-prim c = c.requires.sheet.tables Prim

pub has_cells-requires-clause-vertex : goal.has_cells-requires-clause-vertex
has_cells-requires-clause-vertex c = c.requires.sheet.tables Vertex

pub has_cells-requires-clause-held_prim : goal.has_cells-requires-clause-held_prim
has_cells-requires-clause-held_prim c = table_in c.args.shelf.now c.args.names.now c.args.self.now c.requires.sheet _ refl c.requires.held Prim

pub has_cells-requires-clause-held_vertex : goal.has_cells-requires-clause-held_vertex
has_cells-requires-clause-held_vertex c = table_in c.args.shelf.now c.args.names.now c.args.self.now c.requires.sheet _ refl c.requires.held Vertex

pub has_cells-requires-clause-most_prim : goal.has_cells-requires-clause-most_prim
has_cells-requires-clause-most_prim c =
    let many = count_in c.args.shelf.now c.args.names.now c.args.self.now c.requires.sheet _ refl Prim in
    let few = c.requires.prims in
    omega arith

pub has_cells-requires-clause-most_vertex : goal.has_cells-requires-clause-most_vertex
has_cells-requires-clause-most_vertex c =
    let many = count_in c.args.shelf.now c.args.names.now c.args.self.now c.requires.sheet _ refl Vertex in
    let few = c.requires.vertices in
    omega arith

pub returns-then-has_cells-clause-err : goal.returns-then-has_cells-clause-err
returns-then-has_cells-clause-err c =
    on_err c.add_prim_within.result
    (λ same. stays_still c.args.shelf.now c.args.shelf.now c.args.names.now c.args.names.now c.args.self.now c.add_prim_within.new.self (grows_none c.args.names.now) refl same)
    c.add_prim_within.ensures.err
