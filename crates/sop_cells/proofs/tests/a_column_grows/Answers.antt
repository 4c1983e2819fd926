use Rattle.std.proofs.Common.{◌∙◌, List, length, ap, arith}
use Rattle.std.proofs.lemmas.List.{length-replicate}
use Rattle.sop_pages.specs.declared.cell.Cell.{Cell}
use Rattle.sop_pages.specs.declared.cell.Cell.TheVariants.{Name}
use Rattle.sop_cells.proofs.FrameLemmas.{alone_room, first_alone}
use Rattle.sop_cells.proofs.tests.a_column_grows.Goals as goal

pub extended-requires-clause-room : goal.extended-requires-clause-room
extended-requires-clause-room g c = λ x.
    let e = c.in_ok-column.ensures in let l = ap (λ (cs : List Cell). length cs) e.cells ∙ length-replicate {A = Cell} 1030 (Name 1) in
    let r = alone_room c.filled.new.shelf c.in_ok-column.column e.kept (omega arith) (first_alone _ _ _ c.new-shelf.ensures.own e.shifts) x in omega arith
