use Rattle.std.proofs.Common.{◌+◌, ◌≤◌, ◌<◌, ◌^◌, [], length, refl, ap, sym, ◌∙◌, subst, arith}
use Rattle.std.specs.Prelude.{All}
use Rattle.sop_model.specs.declared.class.Class.TheVariants.{Prim, Point, Vertex}
use Rattle.sop_model.specs.Limits.{most_prims, most_vertices}
use Rattle.sop_model.specs.Geometry.{IsWithin}
use Rattle.sop_model.specs.Appending.{appended}
use Rattle.sop_cells.specs.Shelves.{Shifts}
use Rattle.sop_tables.specs.Tables.{IsHeld}
use Rattle.sop_tables.specs.Changes.{ComesBehind, ComesBeside}
use Rattle.sop_sheets.specs.Sheets.{SheetLists, places_of, geo_of, IsSheet, Becomes}
use Rattle.sop_sheets.specs.contracts.sheet.Sheet.{the_view}
use Rattle.sop_sheets.proofs.AppendLemmas.{comes_behind, comes_beside, points_few, prims_few, vertices_few, shape_prims, shape_vertices, shape_points, append_becomes, within_both, sources}
use Rattle.sop_sheets.proofs.RemadeLemmas.{remade_held}
use Rattle.sop_sheets.proofs.sheet.Sheet.append.Goals as goal

pub remade-requires-clause-source : goal.remade-requires-clause-source
remade-requires-clause-source c =
    let s = c.args.shelf.now in let n = c.args.names.now in let one = c.args.self.now in let two = c.args.other.now in
    let is = c.requires.sheet in let other = c.requires.other in
    let within = within_both s n one two is other c.requires.within in
    let w = sym c.other.view_is in
    let behind = λ (x : SheetLists). ComesBehind s n one.prim x.prim × (ComesBehind s n one.point x.point × ComesBehind s n one.vertex x.vertex) in
    let all = subst behind w (
      comes_behind s n one two is other c.requires.other_held within Prim (let f = prims_few s n one two is other c.requires.other_held within in omega arith),
      (
        comes_behind s n one two is other c.requires.other_held within Point (points_few s n one two is other c.requires.other_held within),
        comes_behind s n one two is other c.requires.other_held within Vertex (vertices_few s n one two is other c.requires.other_held within),
      ),
    ) in
    let beside = subst (λ (x : SheetLists). ComesBeside s n one.detail x.detail) w (comes_beside s n one two is other c.requires.other_held within) in
    sources s n one _ is c.requires.held beside all.0 all.1.0 all.1.1

pub append-requires-clause-prims : goal.append-requires-clause-prims
append-requires-clause-prims c =
    let s = c.args.shelf.now in let n = c.args.names.now in let one = c.args.self.now in let two = c.args.other.now in
    let within = within_both s n one two c.requires.sheet c.requires.other c.requires.within in
    let P : SheetLists → SheetLists → Type 0 = λ x y. length x.shape.closed + length y.shape.closed ≤ most_prims in
    subst (λ x. P x (the_view c.other.inside)) (sym c.self.view_is) (subst (λ y. P one y) (sym c.other.view_is) (shape_prims s n one two c.requires.sheet c.requires.other c.requires.other_held within))

pub append-requires-clause-vertices : goal.append-requires-clause-vertices
append-requires-clause-vertices c =
    let s = c.args.shelf.now in let n = c.args.names.now in let one = c.args.self.now in let two = c.args.other.now in
    let within = within_both s n one two c.requires.sheet c.requires.other c.requires.within in
    let P : SheetLists → SheetLists → Type 0 = λ x y. length x.shape.refers + length y.shape.refers ≤ most_vertices in
    subst (λ x. P x (the_view c.other.inside)) (sym c.self.view_is) (subst (λ y. P one y) (sym c.other.view_is) (shape_vertices s n one two c.requires.sheet c.requires.other c.requires.other_held within))

pub append-requires-clause-points : goal.append-requires-clause-points
append-requires-clause-points c =
    let s = c.args.shelf.now in let n = c.args.names.now in let one = c.args.self.now in let two = c.args.other.now in
    let within = within_both s n one two c.requires.sheet c.requires.other c.requires.within in
    let points = c.count-points.result in
    let P : SheetLists → Type 0 = λ y. All (λ k. points + k < 2 ^ 32) y.shape.refers in
    let same = ap (λ (x : SheetLists). x.point.count) c.self.view_is in
    subst P (sym c.other.view_is) (shape_points s n one two c.requires.sheet c.requires.other c.requires.other_held within points (let e = c.count-points.ensures in omega arith))

pub release-requires : goal.release-requires
release-requires c = record { held = remade_held c.args.shelf.now c.remade.new.shelf c.args.names.now c.remade.new.names _ _ _ c.in_ok-made.ensures.made }

pub returns-clause-ok : goal.returns-clause-ok
returns-clause-ok c =
    let s = c.args.shelf.now in let t = c.remade.new.shelf in let u = c.replace.new.shelf in let n = c.args.names.now in let m = c.remade.new.names in
    let v = c.self.view_is in let w = c.other.view_is in
    let one = c.args.self.now in let two = the_view c.other.inside in
    let other = subst (IsSheet s n) (sym w) c.requires.other in
    let other_held = subst (λ (x : SheetLists). IsHeld s (places_of x)) (sym w) c.requires.other_held in
    let within = within_both s n one two c.requires.sheet other (subst (λ (y : SheetLists). IsWithin (appended (geo_of s n one) (geo_of s n y))) (sym w) c.requires.within) in
    let gone = subst (λ (x : SheetLists). Shifts t u (places_of x) []) v c.replace.ensures.shifts in
    let shape = ap (λ (x : SheetLists). x.shape) v in let points = ap (λ (x : SheetLists). x.point.count) v in
    subst (λ (y : SheetLists). Becomes s u n m one c.replace.new.self (appended (geo_of s n one) (geo_of s n y))) w
    (subst (λ (now : SheetLists). Becomes s u n m one now (appended (geo_of s n one) (geo_of s n two))) (sym c.replace.ensures.new)
    (append_becomes s n one two c.requires.sheet other other_held within t u m _ _ _ _ refl refl refl refl _ c.requires.held c.in_ok-made.ensures.made gone c.append.new.self
    (λ x y a b p q r. c.in_default.ensures.ok x y a b (p ∙ sym shape) q (r ∙ sym points ∙ sym c.count-points.ensures))))
