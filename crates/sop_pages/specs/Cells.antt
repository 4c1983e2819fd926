-- What the cells of a page are, and what a run of them becomes.
use Rattle.std.specs.Prelude.{ℕ, ◌+◌, ◌≤◌, List, ◌++◌, length, take, drop}
use Rattle.sop_pages.specs.declared.cell.Cell.{Cell}
use Rattle.sop_pages.specs.declared.page.TheConstants.{MOST_CELLS}

-- The cells make a page: there is one at least, and there are no more than a page has.
abbrev pub IsPage : List Cell → Type 0
IsPage cells = (1 ≤ length cells) × (length cells ≤ MOST_CELLS)

-- The cells with those from number `start` on, counted from 0, made those of `run`.
abbrev pub with_run : List Cell → ℕ → List Cell → List Cell
with_run cells start run = take start cells ++ run ++ drop (start + length run) cells
