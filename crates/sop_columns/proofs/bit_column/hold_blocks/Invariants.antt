use Rattle.std.proofs.Common.{◌≡◌, [], take}
use Rattle.sop_pages.specs.Pages.{live_pages}
use Rattle.sop_cells.specs.Shelves.{Shifts}
use Rattle.sop_columns.specs.Bits.{placed}
use Rattle.sop_columns.proofs.bit_column.hold_blocks.Given as goal

abbrev pub invariant-loop-block : goal.invariant-loop-block
invariant-loop-block l = record { shifts : Shifts l.initial.shelf l.shelf [] (placed (take l.block-index l.blocks)); pages : live_pages l.shelf.own ≡ live_pages l.initial.shelf.own }
