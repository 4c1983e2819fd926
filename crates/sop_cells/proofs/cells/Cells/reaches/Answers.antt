use Rattle.std.proofs.Common.{◌≡◌, ◌∙◌, ℕ, List, length, nat_le, ap, sym}
use Rattle.sop_pages.specs.declared.cell.Cell.{Cell}
use Rattle.sop_cells.proofs.ReachLemmas.{last_here, all_cells}
use Rattle.sop_cells.proofs.cells.Cells.reaches.Goals as goal

pub cells-requires : goal.cells-requires
cells-requires c = last_here c.args.shelf.now c.args.self.now c.as_slice.result.now c.last-item.result c.requires (c.as_slice.ensures.value ∙ c.self.view_is) c.in-len1-up.len_at_least c.last-item.is

pub returns-in-len1-up : goal.returns-in-len1-up
returns-in-len1-up c =
    let e = all_cells c.args.shelf.now c.args.self.now c.as_slice.result.now c.last-item.result c.requires (c.as_slice.ensures.value ∙ c.self.view_is) c.in-len1-up.len_at_least c.last-item.is c.cells_of.result _ c.cells_of.ensures
    (ap (λ (cells : List Cell). length cells) c.cells.ensures.value) in
    (λ j. nat_le (c.from.ensures j) (e j))
