use Rattle.std.proofs.Common.{◌≡◌, ◌*◌, length, take}
use Rattle.std.specs.Prelude.{All}
use Rattle.sop_model.specs.Rows.{column_of}
use Rattle.sop_cells.specs.Shelves.{joined}
use Rattle.sop_columns.specs.Names.{Grows}
use Rattle.sop_columns.specs.Fitted.{StandsFor}
use Rattle.sop_tables.proofs.loaded.full_pages_in.Given as goal

abbrev pub invariant-loop-page : goal.invariant-loop-page
invariant-loop-page g l = record {
  stands : StandsFor l.names (joined l.pages) (take (1024 * l.page) (column_of (g.V.GeoView.geo l.view) l.class l.head));
  full : All (λ page. length page ≡ 1024) l.pages;
  grows : Grows l.initial.names l.names;
}
