use Rattle.sop_nearest.proofs.Asked.{scan_more}
use Rattle.sop_nearest.proofs.hits.Ball.measure_all.Goals as goal

pub loop-i-preserved : goal.loop-i-preserved
loop-i-preserved c =
    scan_more c.args.places.now c.args.self.now c.loop-i.i c.index-places-i.result c.args.hits.now.items c.loop-i.hits.items c.measure.new.hits.items
    c.loop-i-test.true c.index-places-i.is c.loop-i.invariant c.in_ok-measure.ensures
