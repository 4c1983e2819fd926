use Rattle.std.proofs.Common.{◌≡◌, ◌∙◌, ◌∷◌, [], ◌++◌, ◌*◌, ◌/◌, ◌-◌, List, ap, sym, subst, arith}
use Rattle.sop_pages.specs.declared.cell.Cell.{Cell}
use Rattle.sop_cells.specs.Shelves.{column, IsPaged}
use Rattle.sop_columns.proofs.FittedLemmas.{default_grows, stands_page, paged_full, paged_push}
use Rattle.sop_columns.proofs.column.Column.converted_pages.Goals as goal
use Rattle.sop_columns.proofs.column.Column.converted_pages.Goals.{In_ok-add}

pushed : (c : In_ok-add) → c.add.new.self ≡ c.in_ok-pages.pages ++ c.in_ok-cells.cells.items ∷ []
pushed c = c.in_ok-add.ensures.ok ∙ ap (λ (page : List Cell). c.in_ok-pages.pages ++ page ∷ []) c.from_vec.ensures

pub returns-then-start-len-clause-paged : goal.returns-then-start-len-clause-paged
returns-then-start-len-clause-paged c = paged_full _ c.in_ok-pages.ensures.full

pub returns-clause-stands : goal.returns-clause-stands
returns-clause-stands c =
    stands_page c.args.names.now c.converted_full.new.names c.converted_run.new.names c.args.kind (column c.args.shelf.now c.args.self.now) (1024 * (c.args.len / 1024)) (c.args.len - 1024 * (c.args.len / 1024)) c.args.len _ _ _ (pushed c)
    c.requires.column.numbered c.converted_full.ensures.grows c.converted_run.ensures.grows (omega arith) c.in_ok-pages.ensures.stands c.in_ok-cells.ensures.stands

pub returns-clause-paged : goal.returns-clause-paged
returns-clause-paged c =
    let l = c.in_ok-cells.ensures.len in let f = c.if-start-len.false in
    subst IsPaged (sym (pushed c)) (paged_push c.in_ok-pages.pages c.in_ok-cells.cells.items c.in_ok-pages.ensures.full (omega arith, omega arith))

pub converted_run-requires-clause-default : goal.converted_run-requires-clause-default
converted_run-requires-clause-default c = default_grows c.args.names.now c.converted_full.new.names c.args.kind c.args.default.now c.converted_full.ensures.grows c.requires.default
