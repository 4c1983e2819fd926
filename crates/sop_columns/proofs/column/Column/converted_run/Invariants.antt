use Rattle.std.proofs.Common.{◌≡◌, length, map, take, drop}
use Rattle.sop_columns.specs.Names.{Grows}
use Rattle.sop_columns.specs.Values.{values}
use Rattle.sop_columns.specs.Fitted.{fitted_to, StandsFor}
use Rattle.sop_columns.proofs.column.Column.converted_run.Given as goal

abbrev pub invariant-loop-k : goal.invariant-loop-k
invariant-loop-k l = record {
  stands : StandsFor l.names l.cells.items (map (fitted_to l.kind) (take l.k (drop l.start (values l.shelf l.initial.names l.self))));
  len : length l.cells.items ≡ l.k;
  grows : Grows l.initial.names l.names;
}
