use Rattle.std.proofs.Common.{◌≡◌, length, take, drop}
use Rattle.sop_model.specs.Rows.{column_of}
use Rattle.sop_columns.specs.Names.{Grows}
use Rattle.sop_columns.specs.Fitted.{StandsFor}
use Rattle.sop_tables.proofs.loaded.cells_in.Given as goal

abbrev pub invariant-loop-k : goal.invariant-loop-k
invariant-loop-k g l = record {
  stands : StandsFor l.names l.cells.items (take l.k (drop l.start (column_of (g.V.GeoView.geo l.view) l.class l.head)));
  len : length l.cells.items ≡ l.k;
  grows : Grows l.initial.names l.names;
}
