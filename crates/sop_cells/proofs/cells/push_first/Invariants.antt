use Rattle.std.proofs.Common.{◌≡◌, ◌++◌, take, drop}
use Rattle.sop_cells.specs.Shelves.{column}
use Rattle.sop_cells.specs.Layouts.{packed_cells}
use Rattle.sop_cells.proofs.cells.push_first.Given as goal

abbrev pub invariant-loop-place : goal.invariant-loop-place
invariant-loop-place l = packed_cells l.packer ++ take l.left (column l.shelf (drop l.place-index l.places)) ≡ packed_cells l.fn.packer ++ take l.fn.left (column l.shelf l.places)
