use Rattle.std.proofs.Common.{◌≡◌, ◌++◌, ◌*◌, replicate}
use Rattle.sop_cells.specs.Layouts.{packed_cells}
use Rattle.sop_cells.proofs.packer.Packer.push_copies.Given as goal

abbrev pub invariant-loop-page : goal.invariant-loop-page
invariant-loop-page l = packed_cells l.self ≡ packed_cells l.fn.self ++ replicate (l._page * 1024) l.cell
