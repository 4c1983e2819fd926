use Rattle.std.proofs.Common.{◌≡◌, ◌++◌, map, take}
use Rattle.std.specs.Prelude.{slice_index_or}
use Rattle.sop_pages.specs.declared.cell.Cell.TheVariants.{Name}
use Rattle.sop_cells.specs.Shelves.{column}
use Rattle.sop_cells.specs.Layouts.{packed_cells}
use Rattle.sop_cells.proofs.cells.Cells.push_picked.Given as goal

abbrev pub invariant-loop-number : goal.invariant-loop-number
invariant-loop-number l = packed_cells l.packer ≡ packed_cells l.fn.packer ++ map (λ i. slice_index_or (column l.shelf l.self) i (Name 0)) (take l.number-index l.numbers)
