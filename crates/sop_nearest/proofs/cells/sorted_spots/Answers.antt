use Rattle.std.proofs.Common.{arith, rules}
use Rattle.std.proofs.lemmas.List.Sorted.{answers_always}
use Rattle.sop_nearest.proofs.Grid.{spot_more, grid_from}
use Rattle.sop_nearest.specs.declared.cells.Spot.{Spot}
use Rattle.sop_nearest.proofs.cells.sorted_spots.Goals as goal

pub loop-i-preserved : goal.loop-i-preserved
loop-i-preserved c =
    spot_more c.args.side c.args.places.now c.loop-i.i c.index-places-i.result c.cell_of.result c.loop-i.spots.items c.push.new.self.items
    c.loop-i-test.true c.index-places-i.is c.cell_of.ensures c.loop-i.invariant c.in_ok-push.ensures.items

pub returns : goal.returns
returns c =
    grid_from c.args.side c.args.places.now c.loop-i.i c.loop-i.spots.items c.sort_unstable_by_key.new.self.items c.requires.wide c.requires.few (omega arith) c.loop-i.invariant
    c.sort_unstable_by_key.ensures.permutation (c.sort_unstable_by_key.ensures.sorted (λ (s : Spot). s.cell) (answers_always _ _ _ (λ f a r g h. search rules)))
