use Rattle.std.proofs.Common.{◌<◌, length, arith, refl}
use Rattle.std.proofs.lemmas.List.Elements.{All-same, All-filter}
use Rattle.sop_nearest.specs.Cells.{is_in_row}
use Rattle.sop_nearest.proofs.Asked.{slab_none, slab_more, slab_all}
use Rattle.sop_nearest.proofs.cells.Reach.measure_slab.Goals as goal

pub loop-y-init : goal.loop-y-init
loop-y-init c = record {
  adds = slab_none c.args.places.now c.args.ball.now c.args.spots.now c.args.x c.args.self.y.low c.args.self.z c.args.hits.now.items;
  still = λ _. refl;
}

pub measure_row-requires-clause-numbers : goal.measure_row-requires-clause-numbers
measure_row-requires-clause-numbers c =
    All-same (λ s. s.number < length c.args.places.now) _ _ c.row.ensures (All-filter (λ s. is_in_row c.args.x c.loop-y.y c.args.self.z s.cell) (λ s. s.number < length c.args.places.now) c.args.spots.now c.requires.numbers)

pub loop-y-preserved : goal.loop-y-preserved
loop-y-preserved c = record {
  adds = slab_more c.args.places.now c.args.ball.now c.args.spots.now c.args.x c.args.self.y.low c.loop-y.y c.args.self.z c.args.hits.now.items c.loop-y.hits.items c.measure_row.new.hits.items c.row.result.now
      (omega arith) c.loop-y.invariant.adds c.row.ensures c.in_ok-measure_row.ensures;
  still = λ h. absurd (omega arith);
}

pub returns : goal.returns
returns c = slab_all c.args.places.now c.args.ball.now c.args.spots.now c.args.x c.loop-y.y c.args.self.y c.args.self.z c.args.hits.now.items c.loop-y.hits.items (omega arith) c.loop-y.auto.y-end c.loop-y.invariant.still c.loop-y.invariant.adds
