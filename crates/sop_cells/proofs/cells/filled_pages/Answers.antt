use Rattle.std.proofs.Common.{◌*◌, ◌/◌, ◌%◌, arith}
use Rattle.sop_cells.proofs.PageLists.{paged_none}
use Rattle.sop_cells.proofs.CopyLemmas.{page_cells, page_paged}
use Rattle.sop_cells.proofs.cells.filled_pages.Goals as goal

pub returns-clause-cells : goal.returns-clause-cells
returns-clause-cells c = page_cells c.in_ok-pages.pages c.add.new.self _ (c.args.len / 1024 * 1024) (c.args.len % 1024) c.args.cell c.in_ok-add.ensures.ok c.in_ok-filled.ensures c.in_ok-pages.ensures.cells c.in_ok-pages.ensures.full c.args.len (omega arith)

pub returns-clause-paged : goal.returns-clause-paged
returns-clause-paged c =
    let n = c.if-rest-eq0.false in
    page_paged c.in_ok-pages.pages c.add.new.self _ (c.args.len / 1024 * 1024) (c.args.len % 1024) c.args.cell c.in_ok-add.ensures.ok c.in_ok-filled.ensures c.in_ok-pages.ensures.cells c.in_ok-pages.ensures.full (omega arith) (omega arith)

pub returns-then-rest-eq0-clause-paged : goal.returns-then-rest-eq0-clause-paged
returns-then-rest-eq0-clause-paged c = paged_none c.in_ok-pages.pages c.in_ok-pages.ensures.full
