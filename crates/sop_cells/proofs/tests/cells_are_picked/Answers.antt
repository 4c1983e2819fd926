use Rattle.std.proofs.Common.{◌∙◌, List, length, ap, arith}
use Rattle.std.proofs.lemmas.List.{length-replicate}
use Rattle.sop_pages.specs.declared.cell.Cell.{Cell}
use Rattle.sop_pages.specs.declared.cell.Cell.TheVariants.{Name}
use Rattle.sop_cells.proofs.FrameLemmas.{alone_room, first_alone, alone_then}
use Rattle.sop_cells.proofs.tests.cells_are_picked.Goals as goal

pub picked-requires-clause-room : goal.picked-requires-clause-room
picked-requires-clause-room g c = λ x.
    let e = c.in_ok-column.ensures in let l = ap (λ (cs : List Cell). length cs) e.cells ∙ length-replicate {A = Cell} 5 (Name 1) in let n = c.set.ensures.count in
    let r = alone_room c.set.new.shelf c.set.new.self c.set.ensures.kept (omega arith) (alone_then _ _ _ _ c.set.ensures.shifts (first_alone _ _ _ c.new-shelf.ensures.own e.shifts)) x in omega arith
