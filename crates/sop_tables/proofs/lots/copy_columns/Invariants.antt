use Rattle.std.proofs.Common.{◌≡◌, take}
use Rattle.sop_tables.proofs.lots.copy_columns.Given as goal

abbrev pub invariant-loop-column : goal.invariant-loop-column
invariant-loop-column l = l.made.items ≡ take l.column-index l.columns
