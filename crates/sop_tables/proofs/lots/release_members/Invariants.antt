use Rattle.std.proofs.Common.{◌≤◌, length, map}
use Rattle.sop_pages.specs.Pages.{live_pages}
use Rattle.sop_cells.specs.Shelves.{Shifts}
use Rattle.sop_columns.specs.Bits.{placed}
use Rattle.sop_tables.specs.Tables.{flat, IsHeld}
use Rattle.sop_tables.proofs.lots.release_members.Given as goal

abbrev pub invariant-loop-column : goal.invariant-loop-column
invariant-loop-column l = record {
  shifts : Shifts l.initial.shelf l.shelf (flat (map placed l.initial.members.items)) (flat (map placed l.members.items));
  held : IsHeld l.shelf (flat (map placed l.members.items));
  pages : live_pages l.shelf.own ≤ live_pages l.initial.shelf.own;
}

abbrev pub decreases-loop-column : goal.decreases-loop-column
decreases-loop-column l = length l.members.items
