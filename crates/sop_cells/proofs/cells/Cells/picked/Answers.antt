use Rattle.std.proofs.Common.{◌∙◌, arith, ◌++◌, ◌*◌, ◌/◌, List, [], map, take, get_or, sym, subst}
use Rattle.sop_pages.specs.declared.cell.Cell.TheVariants.{Name}
use Rattle.sop_cells.specs.declared.place.Place.{Place}
use Rattle.sop_cells.specs.Shelves.{column}
use Rattle.sop_cells.specs.Layouts.{CanHold, IsLaid}
use Rattle.sop_cells.proofs.PartLemmas.{part_count, first_can, part_within, part_kept}
use Rattle.sop_cells.proofs.JoinLemmas.{numbers_slice, picked_below, picked_column}
use Rattle.sop_cells.proofs.cells.Cells.picked.Goals as goal
use Rattle.sop_cells.proofs.cells.Cells.picked.Goals.{In_ok-cells}

pub first_places-requires : goal.first_places-requires
first_places-requires c =
    part_within c.args.shelf.now c.args.self.now (c.in_order.result / 1024) c.requires.kept
    (picked_below c.args.shelf.now c.args.shelf.now c.args.self.now [] c.args.numbers.now c.in_order.result (Name 0) [] c.requires.kept c.requires.within c.in_order.ensures.within c.in_order.ensures.each)

pub laid-requires : goal.laid-requires
laid-requires c = subst (CanHold c.args.shelf.now) (sym c.in_ok-places.ensures) (first_can c.args.shelf.now c.args.self.now (c.in_order.result / 1024) c.requires.kept c.requires.room)

laid : (c : In_ok-cells) → IsLaid c.args.shelf.now c.laid.new.shelf (take (c.in_order.result / 1024) c.args.self.now) c.in_ok-pages.pages c.in_ok-cells.cells
laid c = subst (λ (ps : List Place). IsLaid c.args.shelf.now c.laid.new.shelf ps c.in_ok-pages.pages c.in_ok-cells.cells) c.in_ok-places.ensures c.in_ok-cells.ensures.laid

pub returns-clause-cells : goal.returns-clause-cells
returns-clause-cells c =
    picked_column c.args.shelf.now c.laid.new.shelf c.args.self.now c.in_ok-cells.cells c.args.numbers.now c.in_order.result (Name 0) c.in_ok-pages.pages c.requires.kept c.requires.within c.in_order.ensures.within c.in_order.ensures.each
    (laid (goal.at.returns-clause-cells c).In_ok-cells) c.in_ok-pages.ensures.paged
    (c.in_ok-pages.ensures.cells ∙ c.in_ok-push_picked.ensures
    ∙ (λ i. c.in_ok-packer.ensures i ++ map (λ k. get_or (column c.args.shelf.now c.args.self.now) k (Name 0)) (numbers_slice c.args.numbers.now (c.in_order.result / 1024 * 1024) i)))

pub returns-clause-kept : goal.returns-clause-kept
returns-clause-kept c =
    part_kept c.args.shelf.now c.args.self.now (c.in_order.result / 1024) c.requires.kept
    (picked_below c.args.shelf.now c.args.shelf.now c.args.self.now [] c.args.numbers.now c.in_order.result (Name 0) [] c.requires.kept c.requires.within c.in_order.ensures.within c.in_order.ensures.each)
    c.laid.new.shelf c.in_ok-cells.cells c.in_ok-pages.pages (laid (goal.at.returns-clause-kept c).In_ok-cells) c.in_ok-pages.ensures.paged

pub returns-clause-pages : goal.returns-clause-pages
returns-clause-pages c = λ n few each.
    let m = c.in_order.ensures.most n few each in let p = c.in_ok-cells.ensures.pages in
    let l = part_count c.args.shelf.now c.args.self.now _ (c.in_order.result / 1024) c.requires.kept
    (picked_below c.args.shelf.now c.args.shelf.now c.args.self.now [] c.args.numbers.now c.in_order.result (Name 0) [] c.requires.kept c.requires.within c.in_order.ensures.within c.in_order.ensures.each) c.in_ok-places.ensures in omega arith
