use Rattle.std.proofs.Common.{◌≡◌, [], take}
use Rattle.sop_pages.specs.Pages.{live_pages}
use Rattle.sop_cells.specs.Shelves.{Shifts}
use Rattle.sop_cells.proofs.cells.hold_all.Given as goal

abbrev pub invariant-loop-place : goal.invariant-loop-place
invariant-loop-place l = record { shifts : Shifts l.initial.shelf l.shelf [] (take l.place-index l.places); pages : live_pages l.shelf.own ≡ live_pages l.initial.shelf.own }
