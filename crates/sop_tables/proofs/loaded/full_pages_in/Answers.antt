use Rattle.std.proofs.Common.{◌≡◌, ◌∙◌, ◌∷◌, [], ◌++◌, ◌*◌, ◌+◌, List, ap, sym, subst, length, arith}
use Rattle.std.specs.Prelude.{All}
use Rattle.std.proofs.lemmas.List.Elements.{All-nil, All-push}
use Rattle.sop_model.specs.Rows.{column_of}
use Rattle.sop_pages.specs.declared.cell.Cell.{Cell}
use Rattle.sop_cells.specs.Shelves.{joined}
use Rattle.sop_columns.specs.Fitted.{StandsFor}
use Rattle.sop_columns.proofs.NameLemmas.{grows_none, grows_then}
use Rattle.sop_columns.proofs.FittedLemmas.{stands_none}
use Rattle.sop_tables.proofs.LoadedLemmas.{page_more}
use Rattle.sop_tables.proofs.loaded.full_pages_in.Goals as goal

pub loop-page-init : goal.loop-page-init
loop-page-init g c = record {
  stands = subst (λ (pages : List (List Cell)). StandsFor c.args.names.now (joined pages) []) (sym c.new-pages.ensures) (stands_none c.args.names.now);
  full = subst (All (λ page. length page ≡ 1024)) (sym c.new-pages.ensures) (All-nil (λ (page : List Cell). length page ≡ 1024));
  grows = grows_none c.args.names.now;
}

pub loop-page-preserved : goal.loop-page-preserved
loop-page-preserved g c =
    let pushed : c.add.new.self ≡ c.loop-page.pages ++ c.in_ok-cells.cells.items ∷ [] = c.in_ok-add.ensures.ok ∙ ap (λ (page : List Cell). c.loop-page.pages ++ page ∷ []) c.from_vec.ensures in
    record {
      stands = page_more c.loop-page.names c.cells_in.new.names (column_of (g.V.GeoView.geo c.args.view.now) c.args.class c.args.head) (1024 * c.loop-page.page) 1024 (1024 * (c.loop-page.page + 1)) c.loop-page.pages _ c.in_ok-cells.cells.items pushed
          c.cells_in.ensures.grows (omega arith) c.loop-page.invariant.stands c.in_ok-cells.ensures.stands;
      full = subst (All (λ page. length page ≡ 1024)) (sym pushed) (All-push (λ page. length page ≡ 1024) c.loop-page.pages c.in_ok-cells.cells.items c.loop-page.invariant.full c.in_ok-cells.ensures.len);
      grows = grows_then _ _ _ c.loop-page.invariant.grows c.cells_in.ensures.grows;
    }
