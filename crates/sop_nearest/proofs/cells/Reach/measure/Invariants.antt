use Rattle.std.proofs.Common.{◌≡◌, ◌≤◌}
use Rattle.sop_nearest.specs.Cells.{is_in_reach, AddsHits}
use Rattle.sop_nearest.proofs.cells.Reach.measure.Given as goal

abbrev pub invariant-loop-x : goal.invariant-loop-x
invariant-loop-x l = record {
  adds : AddsHits l.places l.ball l.spots (is_in_reach (record { low = l.self.x.low; end = l.x }) l.self.y l.self.z) l.initial.hits.items l.hits.items;
  still : l.self.x.end ≤ l.self.x.low → l.x ≡ l.self.x.low;
}
