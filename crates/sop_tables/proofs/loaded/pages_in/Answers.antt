use Rattle.std.proofs.Common.{◌≡◌, ◌∙◌, ◌∷◌, [], ◌++◌, ◌*◌, ◌/◌, ◌-◌, List, ap, sym, subst, arith}
use Rattle.sop_model.specs.Rows.{column_of}
use Rattle.sop_pages.specs.declared.cell.Cell.{Cell}
use Rattle.sop_cells.specs.Shelves.{IsPaged}
use Rattle.sop_columns.proofs.FittedLemmas.{paged_full, paged_push}
use Rattle.sop_tables.proofs.LoadedLemmas.{page_more, stands_all, length-column}
use Rattle.sop_tables.proofs.loaded.pages_in.Goals as goal

pub returns-then-start-count-clause-stands : goal.returns-then-start-count-clause-stands
returns-then-start-count-clause-stands g c =
    stands_all _ _ _ _ (let l = length-column (g.V.GeoView.geo c.args.view.now) c.args.class c.args.head in let a = c.count-count.ensures in let e = c.if-start-count.true in omega arith) c.in_ok-pages.ensures.stands

pub returns-then-start-count-clause-paged : goal.returns-then-start-count-clause-paged
returns-then-start-count-clause-paged g c = paged_full _ c.in_ok-pages.ensures.full

pub returns-clause-stands : goal.returns-clause-stands
returns-clause-stands g c =
    let pushed : c.add.new.self ≡ c.in_ok-pages.pages ++ c.in_ok-cells.cells.items ∷ [] = c.in_ok-add.ensures.ok ∙ ap (λ (page : List Cell). c.in_ok-pages.pages ++ page ∷ []) c.from_vec.ensures in
    let count = c.count-count.result in
    stands_all _ _ count _ (let l = length-column (g.V.GeoView.geo c.args.view.now) c.args.class c.args.head in let a = c.count-count.ensures in omega arith)
    (page_more c.full_pages_in.new.names c.cells_in.new.names (column_of (g.V.GeoView.geo c.args.view.now) c.args.class c.args.head) (1024 * (count / 1024)) (count - 1024 * (count / 1024)) count c.in_ok-pages.pages _ c.in_ok-cells.cells.items pushed
    c.cells_in.ensures.grows (omega arith) c.in_ok-pages.ensures.stands c.in_ok-cells.ensures.stands)

pub returns-clause-paged : goal.returns-clause-paged
returns-clause-paged g c =
    let pushed : c.add.new.self ≡ c.in_ok-pages.pages ++ c.in_ok-cells.cells.items ∷ [] = c.in_ok-add.ensures.ok ∙ ap (λ (page : List Cell). c.in_ok-pages.pages ++ page ∷ []) c.from_vec.ensures in
    let l = c.in_ok-cells.ensures.len in let f = c.if-start-count.false in
    subst IsPaged (sym pushed) (paged_push c.in_ok-pages.pages c.in_ok-cells.cells.items c.in_ok-pages.ensures.full (omega arith, omega arith))
