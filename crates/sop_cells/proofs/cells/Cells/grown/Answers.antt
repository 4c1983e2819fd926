use Rattle.std.proofs.Common.{◌≡◌, ◌∙◌, ◌++◌, ◌*◌, ◌-◌, ◌/◌, ◌%◌, ◌≤◌, List, length, take, drop, replicate, ap, sym, subst, arith, length-append}
use Rattle.std.proofs.lemmas.List.{length-replicate}
use Rattle.sop_pages.specs.declared.cell.Cell.{Cell}
use Rattle.sop_cells.specs.declared.place.Place.{Place}
use Rattle.sop_cells.specs.Shelves.{joined, column}
use Rattle.sop_cells.specs.Layouts.{CanHold, IsLaid}
use Rattle.sop_cells.proofs.CutLemmas.{take_all_of, longer}
use Rattle.sop_cells.proofs.PartLemmas.{part_count, first_can, part_within, part_rest, part_tight, part_kept, part_grown}
use Rattle.sop_cells.proofs.cells.Cells.grown.Goals as goal
use Rattle.sop_cells.proofs.cells.Cells.grown.Goals.{In_ok-cells}

pub push_rest-requires-clause-within : goal.push_rest-requires-clause-within
push_rest-requires-clause-within c = let e = c.requires.counted in part_within c.args.shelf.now c.args.self.now (c.args.old_len / 1024) c.requires.kept (omega arith)

pub first_places-requires : goal.first_places-requires
first_places-requires c = let e = c.requires.counted in part_within c.args.shelf.now c.args.self.now (c.args.old_len / 1024) c.requires.kept (omega arith)

pub laid-requires : goal.laid-requires
laid-requires c = subst (CanHold c.args.shelf.now) (sym c.in_ok-places.ensures) (first_can c.args.shelf.now c.args.self.now (c.args.old_len / 1024) c.requires.kept c.requires.room)

module _ (c : In_ok-cells) where
  below : 1024 * (c.args.old_len / 1024) ≤ length (column c.args.shelf.now c.args.self.now)
  below = let e = c.requires.counted in omega arith

  laid : IsLaid c.args.shelf.now c.laid.new.shelf (take (c.args.old_len / 1024) c.args.self.now) c.in_ok-pages.pages c.in_ok-cells.cells
  laid = subst (λ (ps : List Place). IsLaid c.args.shelf.now c.laid.new.shelf ps c.in_ok-pages.pages c.in_ok-cells.cells) c.in_ok-places.ensures c.in_ok-cells.ensures.laid

  rest : List Cell
  rest = column c.args.shelf.now (drop (c.args.old_len / 1024) c.args.self.now)

  pages_are : joined c.in_ok-pages.pages ≡ column c.args.shelf.now (drop (c.args.old_len / 1024) c.args.self.now) ++ replicate (c.extent.result - c.args.old_len) c.args.cell
  pages_are =
      c.in_ok-pages.ensures.cells ∙ c.in_ok-push_copies.ensures
      ∙ ap (λ r. r ++ replicate (c.extent.result - c.args.old_len) c.args.cell) (c.in_ok-push_rest.ensures ∙ ap (λ r. r ++ take (c.args.old_len % 1024) (column c.args.shelf.now (drop (c.args.old_len / 1024) c.args.self.now))) c.in_ok-packer.ensures
      ∙ take_all_of (column c.args.shelf.now (drop (c.args.old_len / 1024) c.args.self.now)) (c.args.old_len % 1024) (let a = part_rest c.args.shelf.now c.args.self.now (c.args.old_len / 1024) c.requires.kept below in let e = c.requires.counted in omega arith))

  cells_are : column c.laid.new.shelf c.in_ok-cells.cells ≡ column c.args.shelf.now c.args.self.now ++ replicate (c.extent.result - c.args.old_len) c.args.cell
  cells_are = part_grown c.args.shelf.now c.args.self.now (c.args.old_len / 1024) c.requires.kept below c.laid.new.shelf c.in_ok-cells.cells c.in_ok-pages.pages laid c.in_ok-pages.ensures.paged (c.extent.result - c.args.old_len) c.args.cell pages_are

  length_is : length (column c.laid.new.shelf c.in_ok-cells.cells) ≡ c.extent.result
  length_is =
      let l = ap (λ (cs : List Cell). length cs) cells_are in let a = length-append (column c.args.shelf.now c.args.self.now) (replicate (c.extent.result - c.args.old_len) c.args.cell) in
      let r = length-replicate (c.extent.result - c.args.old_len) c.args.cell in let e = c.requires.counted in let w = c.requires.within in let m = c.extent.ensures.enough in omega arith

pub returns-clause-cells : goal.returns-clause-cells
returns-clause-cells c = let w = (goal.at.returns-clause-cells c).In_ok-cells in longer _ _ (c.extent.result - c.args.old_len) c.args.cell (cells_are w)

pub returns-clause-enough : goal.returns-clause-enough
returns-clause-enough c = let l = length_is (goal.at.returns-clause-enough c).In_ok-cells in let m = c.extent.ensures.enough in omega arith

pub returns-clause-tight : goal.returns-clause-tight
returns-clause-tight c =
    let w = (goal.at.returns-clause-tight c).In_ok-cells in let l = length_is w in
    let a = part_tight c.args.shelf.now c.args.self.now (c.args.old_len / 1024) c.requires.kept (below w) c.laid.new.shelf c.in_ok-cells.cells c.in_ok-pages.pages (laid w) c.in_ok-pages.ensures.paged in
    c.extent.ensures.tight (length c.in_ok-cells.cells) (omega arith)

pub returns-clause-kept : goal.returns-clause-kept
returns-clause-kept c =
    let w = (goal.at.returns-clause-kept c).In_ok-cells in
    part_kept c.args.shelf.now c.args.self.now (c.args.old_len / 1024) c.requires.kept (below w) c.laid.new.shelf c.in_ok-cells.cells c.in_ok-pages.pages (laid w) c.in_ok-pages.ensures.paged

pub returns-clause-pages : goal.returns-clause-pages
returns-clause-pages c =
    let w = (goal.at.returns-clause-pages c).In_ok-cells in let e = c.requires.counted in let p = c.in_ok-cells.ensures.pages in
    let l = part_count c.args.shelf.now c.args.self.now _ (c.args.old_len / 1024) c.requires.kept (below w) c.in_ok-places.ensures in omega arith
