use Rattle.sop_cells.proofs.HeldLemmas.{here_at}
use Rattle.sop_cells.proofs.PartLemmas.{push_step}
use Rattle.sop_cells.proofs.cells.push_first.Goals as goal

pub cells-cells-requires : goal.cells-cells-requires
cells-cells-requires c = here_at c.args.shelf.now c.args.places.now c.loop-place.place-index _ c.requires.live c.requires.based c.loop-place-test.true c.place-item.is

pub loop-place-preserved : goal.loop-place-preserved
loop-place-preserved c =
    let e = c.lesser-part.ensures in
    push_step c.args.shelf.now c.args.places.now c.loop-place.place-index _ _ _ _ _ c.loop-place.left c.lesser-part.result c.loop-place-test.true c.place-item.is c.cells-cells.ensures.value e.first e.second e.one c.in_ok-push_run.ensures c.loop-place.invariant
