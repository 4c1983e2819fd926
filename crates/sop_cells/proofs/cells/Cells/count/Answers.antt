use Rattle.std.proofs.Common.{◌≡◌, ◌+◌, ◌-◌, ap, arith, List, length}
use Rattle.sop_pages.specs.declared.cell.Cell.{Cell}
use Rattle.sop_cells.proofs.PartLemmas.{cells_by_last, places_few}
use Rattle.sop_cells.proofs.cells.Cells.count.Goals as goal
use Rattle.sop_cells.proofs.cells.Cells.count.Goals.{After-page-last}

last_is : (c : After-page-last) → length c.args.self.now ≡ c.place_count-places.result - 1 + 1
last_is c = let n = c.if-places-eq0.false in let p = c.place_count-places.ensures in omega arith

pub overflow_cast-result : goal.overflow_cast-result
overflow_cast-result c = let a = places_few c.args.shelf.now c.args.self.now c.requires.kept in omega arith

pub overflow_mul-result : goal.overflow_mul-result
overflow_mul-result c = let a = places_few c.args.shelf.now c.args.self.now c.requires.kept in omega arith

pub overflow_cast-result-2 : goal.overflow_cast-result-2
overflow_cast-result-2 c =
    let a = cells_by_last c.args.shelf.now c.args.self.now (c.place_count-places.result - 1) c.requires.kept (last_is (goal.at.overflow_cast-result-2 c).After-page-last) in
    let b = ap (λ (cs : List Cell). length cs) c.page-last.ensures in omega arith

pub overflow_add-result : goal.overflow_add-result
overflow_add-result c =
    let a = cells_by_last c.args.shelf.now c.args.self.now (c.place_count-places.result - 1) c.requires.kept (last_is (goal.at.overflow_add-result c).After-page-last) in
    let b = ap (λ (cs : List Cell). length cs) c.page-last.ensures in omega arith

pub returns : goal.returns
returns c =
    let a = cells_by_last c.args.shelf.now c.args.self.now (c.place_count-places.result - 1) c.requires.kept (last_is (goal.at.returns c).After-page-last) in
    let b = ap (λ (cs : List Cell). length cs) c.page-last.ensures in omega arith
