use Rattle.std.proofs.Common.{◌+◌, ◌*◌, refl, arith}
use Rattle.sop_cells.proofs.CopyLemmas.{page_cells, page_full}
use Rattle.sop_cells.proofs.cells.full_pages.Goals as goal

pub loop-page-preserved : goal.loop-page-preserved
loop-page-preserved c =
    let was = c.loop-page.invariant in (
      page_cells c.loop-page.pages c.add.new.self _ (c.loop-page._page * 1024) 1024 c.args.cell c.in_ok-add.ensures.ok c.in_ok-filled.ensures was.0 was.1 ((c.loop-page._page + 1) * 1024) (omega arith),
      page_full c.loop-page.pages c.add.new.self _ (c.loop-page._page * 1024) 1024 c.args.cell c.in_ok-add.ensures.ok c.in_ok-filled.ensures was.0 was.1 refl,
    )
