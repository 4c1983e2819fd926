use Rattle.std.proofs.Common.{◌≡◌, ◌*◌, length, map, take}
use Rattle.std.specs.Prelude.{All}
use Rattle.sop_cells.specs.Shelves.{joined}
use Rattle.sop_columns.specs.Names.{Grows}
use Rattle.sop_columns.specs.Values.{values}
use Rattle.sop_columns.specs.Fitted.{fitted_to, StandsFor}
use Rattle.sop_columns.proofs.column.Column.converted_full.Given as goal

abbrev pub invariant-loop-page : goal.invariant-loop-page
invariant-loop-page l = record {
  stands : StandsFor l.names (joined l.pages) (map (fitted_to l.kind) (take (1024 * l.page) (values l.shelf l.initial.names l.self)));
  full : All (λ page. length page ≡ 1024) l.pages;
  grows : Grows l.initial.names l.names;
}
