use Rattle.sop_cells.proofs.HeldLemmas.{here_at}
use Rattle.sop_cells.proofs.PartLemmas.{copies_next}
use Rattle.sop_cells.proofs.cells.copies_of.Goals as goal

pub copy_of-requires : goal.copy_of-requires
copy_of-requires c = here_at c.args.shelf.now c.args.places.now c.loop-place.place-index _ c.requires.live c.requires.based c.loop-place-test.true c.place-item.is

pub loop-place-preserved : goal.loop-place-preserved
loop-place-preserved c = copies_next c.args.shelf.now c.args.places.now c.loop-place.place-index _ _ _ _ c.loop-place.invariant c.loop-place-test.true c.place-item.is c.in_ok-copy.ensures c.in_ok-push.ensures.items
