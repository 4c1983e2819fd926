use Rattle.std.proofs.Common.{take}
use Rattle.sop_cells.specs.Layouts.{AreCopies}
use Rattle.sop_cells.proofs.cells.copies_of.Given as goal

abbrev pub invariant-loop-place : goal.invariant-loop-place
invariant-loop-place l = AreCopies l.shelf (take l.place-index l.places) l.copies.items
