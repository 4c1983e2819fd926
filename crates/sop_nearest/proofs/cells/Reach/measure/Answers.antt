use Rattle.std.proofs.Common.{arith, refl}
use Rattle.sop_nearest.proofs.Asked.{reach_none, reach_more, reach_all}
use Rattle.sop_nearest.proofs.cells.Reach.measure.Goals as goal

pub loop-x-init : goal.loop-x-init
loop-x-init c = record {
  adds = reach_none c.args.places.now c.args.ball.now c.args.spots.now c.args.self.x.low c.args.self.y c.args.self.z c.args.hits.now.items;
  still = λ _. refl;
}

pub loop-x-preserved : goal.loop-x-preserved
loop-x-preserved c = record {
  adds = reach_more c.args.places.now c.args.ball.now c.args.spots.now c.args.self.x.low c.loop-x.x c.args.self.y c.args.self.z c.args.hits.now.items c.loop-x.hits.items c.measure_slab.new.hits.items
      (omega arith) c.loop-x.invariant.adds c.in_ok-measure_slab.ensures;
  still = λ h. absurd (omega arith);
}

pub returns : goal.returns
returns c = reach_all c.args.places.now c.args.ball.now c.args.spots.now c.loop-x.x c.args.self.x c.args.self.y c.args.self.z c.args.hits.now.items c.loop-x.hits.items (omega arith) c.loop-x.auto.x-end c.loop-x.invariant.still c.loop-x.invariant.adds
