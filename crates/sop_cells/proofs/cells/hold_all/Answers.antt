use Rattle.std.proofs.Common.{◌∙◌}
use Rattle.sop_cells.proofs.HeldLemmas.{hold_live, hold_room, hold_more}
use Rattle.sop_cells.proofs.cells.hold_all.Goals as goal

pub share-requires-clause-live : goal.share-requires-clause-live
share-requires-clause-live c = hold_live c.args.places.now c.loop-place.place-index _ c.loop-place-test.true c.place-item.is c.args.shelf.now c.loop-place.shelf c.requires c.loop-place.invariant.shifts

pub share-requires-clause-room : goal.share-requires-clause-room
share-requires-clause-room c = hold_room c.args.places.now c.loop-place.place-index _ c.loop-place-test.true c.place-item.is c.args.shelf.now c.loop-place.shelf c.requires c.loop-place.invariant.shifts

pub loop-place-preserved : goal.loop-place-preserved
loop-place-preserved c = record {
  shifts = hold_more c.args.places.now c.loop-place.place-index _ c.loop-place-test.true c.place-item.is c.args.shelf.now c.loop-place.shelf c.requires _ c.loop-place.invariant.shifts c.share.ensures.shifts;
  pages = c.share.ensures.pages ∙ c.loop-place.invariant.pages;
}
