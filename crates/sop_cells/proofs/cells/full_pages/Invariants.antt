use Rattle.std.proofs.Common.{◌≡◌, ◌*◌, replicate}
use Rattle.sop_cells.specs.Shelves.{joined}
use Rattle.sop_cells.specs.Layouts.{AreFull}
use Rattle.sop_cells.proofs.cells.full_pages.Given as goal

abbrev pub invariant-loop-page : goal.invariant-loop-page
invariant-loop-page l = (joined l.pages ≡ replicate (l._page * 1024) l.cell) × AreFull l.pages
