use Rattle.std.proofs.Common.{◌≡◌, length}
use Rattle.sop_pages.specs.declared.page.TheConstants.{MOST_CELLS}
use Rattle.sop_pages.specs.Pages.{IsLive, cells}
use Rattle.sop_bench.proofs.pages.set_rounds.Given as goal

abbrev pub invariant-loop-round : goal.invariant-loop-round
invariant-loop-round l = IsLive l.store l.id × (length (cells l.store l.id) ≡ MOST_CELLS)
