use Rattle.std.proofs.Common.{arith}
use Rattle.sop_cells.proofs.HeldLemmas.{release_live, release_more}
use Rattle.sop_cells.proofs.cells.release_all.Goals as goal

pub release-requires : goal.release-requires
release-requires c = release_live c.args.places.now c.loop-place.place-index _ c.loop-place-test.true c.place-item.is c.args.shelf.now c.loop-place.shelf c.requires.covered c.requires.based c.loop-place.invariant.shifts

pub loop-place-preserved : goal.loop-place-preserved
loop-place-preserved c = record {
  shifts = release_more c.args.places.now c.loop-place.place-index _ c.loop-place-test.true c.place-item.is c.args.shelf.now c.loop-place.shelf c.requires.covered c.requires.based _ c.loop-place.invariant.shifts c.release.ensures.shifts;
  pages = let a = c.release.ensures.pages in let b = c.loop-place.invariant.pages in omega arith;
}
