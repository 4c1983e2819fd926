use Rattle.std.proofs.Common.{◌∙◌, List, [], length, ap, sym, subst, refl, arith}
use Rattle.sop_model.specs.Rows.{prim_added}
use Rattle.sop_cells.specs.declared.place.Place.{Place}
use Rattle.sop_cells.specs.Shelves.{Shifts}
use Rattle.sop_sheets.specs.Sheets.{SheetLists, places_of, geo_of, Becomes}
use Rattle.sop_sheets.specs.Remade.{sheet_of}
use Rattle.sop_sheets.proofs.ViewLemmas.{shape_in}
use Rattle.sop_sheets.proofs.AddLemmas.{prims_many, vertices_many, prim_changes, prim_sources, prim_beside}
use Rattle.sop_sheets.proofs.RemadeLemmas.{remade_held}
use Rattle.sop_sheets.proofs.sheet.Sheet.add_prim_beside.Goals as goal

pub remade-requires-clause-source : goal.remade-requires-clause-source
remade-requires-clause-source c = prim_sources c.args.shelf.now c.args.names.now c.args.self.now c.requires.sheet _ refl c.args.closed c.args.points.now c.requires.held c.requires.prims c.requires.vertices

pub add_prim-requires-clause-prims : goal.add_prim-requires-clause-prims
add_prim-requires-clause-prims c =
    let many = prims_many c.args.shelf.now c.args.names.now c.args.self.now c.requires.sheet _ refl in
    let same = ap (λ (sheet : SheetLists). length sheet.shape.closed) c.self.view_is in
    let few = c.requires.prims in
    omega arith

pub add_prim-requires-clause-vertices : goal.add_prim-requires-clause-vertices
add_prim-requires-clause-vertices c =
    let many = vertices_many c.args.shelf.now c.args.names.now c.args.self.now c.requires.sheet _ refl in
    let same = ap (λ (sheet : SheetLists). length sheet.shape.refers) c.self.view_is in
    let few = c.requires.vertices in
    omega arith

pub release-requires : goal.release-requires
release-requires c = record {
  held = remade_held c.args.shelf.now c.remade.new.shelf c.args.names.now c.remade.new.names c.args.self.now (prim_changes (length c.args.points.now)) (sheet_of c.in_ok-made.made c.args.self.now.shape) c.in_ok-made.ensures.made;
}

pub returns-clause-ok : goal.returns-clause-ok
returns-clause-ok c =
    let here = geo_of c.args.shelf.now c.args.names.now c.args.self.now in
    let gone = subst (λ (places : List Place). Shifts c.remade.new.shelf c.replace.new.shelf places []) (ap places_of c.self.view_is) c.replace.ensures.shifts in
    let shape = shape_in c.args.shelf.now c.args.names.now c.args.self.now c.requires.sheet here refl ∙ ap (λ (sheet : SheetLists). sheet.shape) (sym c.self.view_is) in
    let after = λ (new : SheetLists). Becomes c.args.shelf.now c.replace.new.shelf c.args.names.now c.remade.new.names c.args.self.now new (prim_added here c.args.closed c.args.points.now) in
    subst after (sym c.replace.ensures.new)
    (prim_beside c.args.shelf.now c.args.names.now c.args.self.now c.requires.sheet here refl c.args.closed c.args.points.now c.requires.points c.requires.prims c.requires.vertices
    c.remade.new.shelf c.replace.new.shelf c.remade.new.names (sheet_of c.in_ok-made.made c.args.self.now.shape) c.add_prim.new.self c.requires.held c.in_ok-made.ensures.made gone (c.in_default.ensures.ok here shape))
