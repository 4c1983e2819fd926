use Rattle.sop_shape.proofs.MakeLemmas.{pick_more}
use Rattle.sop_shape.proofs.lists.pick.Goals as goal

pub loop-place-preserved : goal.loop-place-preserved
loop-place-preserved g c d =
    pick_more c.args.items.now c.args.places.now c.loop-place.place-index c.index-items-place.result d c.loop-place.made.items c.push.new.self.items c.loop-place-test.true (c.requires c.loop-place.place-index 0 c.loop-place-test.true) c.index-items-place.is (c.loop-place.invariant d) c.in_ok-push.ensures.items
