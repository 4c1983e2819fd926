use Rattle.std.proofs.Common.{◌≡◌, ◌∙◌, ◌∷◌, ◌++◌, [], List, ap, length, arith}
use Rattle.sop_pages.specs.declared.cell.Cell.{Cell}
use Rattle.sop_cells.specs.Shelves.{blocks}
use Rattle.sop_columns.proofs.BitLemmas.{put_shifts, put_cells, new_here}
use Rattle.sop_columns.proofs.bit_column.put_one.Goals as goal
use Rattle.sop_columns.proofs.bit_column.put_one.Goals.{After-drop-places-inside}

one_page : (c : After-drop-places-inside) → c.add.new.self ≡ c.args.page ∷ []
one_page c = c.in_ok-add.ensures.ok ∙ ap (λ (pages : List (List Cell)). pages ++ c.args.page ∷ []) c.new-pages.ensures

put_it : (c : After-drop-places-inside) → blocks c.put_all.new.self c.in-Ok.places ≡ c.args.page ∷ []
put_it c = c.in-Ok.ensures.cells ∙ one_page c

pub returns-clause-cells : goal.returns-clause-cells
returns-clause-cells c = put_cells c.args.shelf.now c.put_all.new.self c.in-Ok.places c.args.page c.get.result.now (put_it c) c.get.ensures c.in-Ok.ensures.shifts

pub returns-clause-shifts : goal.returns-clause-shifts
returns-clause-shifts c = put_shifts c.args.shelf.now c.put_all.new.self c.in-Ok.places c.args.page c.get.result.now (put_it c) c.get.ensures c.in-Ok.ensures.shifts

pub returns-clause-live : goal.returns-clause-live
returns-clause-live c =
    new_here c.args.shelf.now c.put_all.new.self c.get.result.now c.each_is_counted.ensures c.each_is_counted-2.ensures (returns-clause-shifts c)
    (let l = c.in-Ok.ensures.pages in let e = ap (λ (pages : List (List Cell)). length pages) (one_page c) in omega arith)
