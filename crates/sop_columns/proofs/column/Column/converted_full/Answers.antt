use Rattle.std.proofs.Common.{◌≡◌, ◌∙◌, ◌∷◌, [], ◌++◌, ◌*◌, ◌+◌, List, ap, sym, subst, length, arith}
use Rattle.std.proofs.lemmas.List.Elements.{All-push}
use Rattle.std.specs.Prelude.{All}
use Rattle.sop_pages.specs.declared.cell.Cell.{Cell}
use Rattle.sop_cells.specs.Shelves.{column}
use Rattle.sop_columns.proofs.NameLemmas.{grows_then}
use Rattle.sop_columns.proofs.FittedLemmas.{stands_page, default_grows}
use Rattle.sop_columns.proofs.column.Column.converted_full.Goals as goal
use Rattle.sop_columns.proofs.column.Column.converted_full.Goals.{In_ok-add}

pushed : (c : In_ok-add) → c.add.new.self ≡ c.loop-page.pages ++ c.in_ok-cells.cells.items ∷ []
pushed c = c.in_ok-add.ensures.ok ∙ ap (λ (page : List Cell). c.loop-page.pages ++ page ∷ []) c.from_vec.ensures

pub loop-page-preserved : goal.loop-page-preserved
loop-page-preserved c = record {
  stands = stands_page c.args.names.now c.loop-page.names c.converted_run.new.names c.args.kind (column c.args.shelf.now c.args.self.now) (1024 * c.loop-page.page) 1024 (1024 * (c.loop-page.page + 1)) _ _ _ (pushed c)
      c.requires.column.numbered c.loop-page.invariant.grows c.converted_run.ensures.grows (omega arith) c.loop-page.invariant.stands c.in_ok-cells.ensures.stands;
  full = subst (All (λ page. length page ≡ 1024)) (sym (pushed c)) (All-push (λ page. length page ≡ 1024) c.loop-page.pages c.in_ok-cells.cells.items c.loop-page.invariant.full c.in_ok-cells.ensures.len);
  grows = grows_then _ _ _ c.loop-page.invariant.grows c.converted_run.ensures.grows;
}

pub converted_run-requires-clause-default : goal.converted_run-requires-clause-default
converted_run-requires-clause-default c = default_grows c.args.names.now c.loop-page.names c.args.kind c.args.default.now c.loop-page.invariant.grows c.requires.default
