use Rattle.std.proofs.Common.{◌≡◌, length}
use Rattle.sop_pages.specs.declared.page.TheConstants.{MOST_CELLS}
use Rattle.sop_pages.specs.Pages.{count, cells}
use Rattle.sop_bench.proofs.pages.sum_of_copies.Given as goal

abbrev pub invariant-loop-time : goal.invariant-loop-time
invariant-loop-time l = (count l.store l.id ≡ 1) × (length (cells l.store l.id) ≡ MOST_CELLS)
