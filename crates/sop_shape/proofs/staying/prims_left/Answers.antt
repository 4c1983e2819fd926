use Rattle.std.proofs.Common.{ltb, refl}
use Rattle.sop_shape.proofs.StayLemmas.{prim_more}
use Rattle.sop_shape.proofs.staying.prims_left.Goals as goal

pub loop-end-preserved : goal.loop-end-preserved
loop-end-preserved c =
    let k = c.loop-end.end-index in
    let both = prim_more c.args.staying.now c.args.ends.now k c.loop-end.before c.index-count.result.now c.in_ok-counts.counts.items (ltb c.loop-end.before c.index-count.result.now) c.loop-end.made.items c.push.new.self.items c.loop-end-test.true (c.requires.ends k 0 c.loop-end-test.true) c.in_ok-counts.ensures
    c.index-count.ensures c.loop-end.invariant.before refl c.loop-end.invariant.made c.in_ok-push.ensures.items in
    record { made = both.0; before = both.1 }
