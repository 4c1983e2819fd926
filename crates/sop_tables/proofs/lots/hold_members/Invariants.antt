use Rattle.std.proofs.Common.{◌≡◌, [], take, map}
use Rattle.sop_pages.specs.Pages.{live_pages}
use Rattle.sop_cells.specs.Shelves.{Shifts}
use Rattle.sop_columns.specs.Bits.{placed}
use Rattle.sop_tables.specs.Tables.{flat}
use Rattle.sop_tables.proofs.lots.hold_members.Given as goal

abbrev pub invariant-loop-column : goal.invariant-loop-column
invariant-loop-column l = record { shifts : Shifts l.initial.shelf l.shelf [] (flat (take l.column-index (map placed l.members))); pages : live_pages l.shelf.own ≡ live_pages l.initial.shelf.own }
