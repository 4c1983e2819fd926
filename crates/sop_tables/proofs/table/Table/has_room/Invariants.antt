use Rattle.std.proofs.Common.{◌≤◌, length, take}
use Rattle.std.specs.Prelude.{All}
use Rattle.sop_cells.specs.Shelves.{column}
use Rattle.sop_tables.proofs.table.Table.has_room.Given as goal

abbrev pub invariant-loop-column : goal.invariant-loop-column
invariant-loop-column l = All (λ places. l.total ≤ length (column l.shelf places)) (take l.column-index l.column-items)
