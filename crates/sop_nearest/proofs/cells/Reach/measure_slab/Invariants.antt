use Rattle.std.proofs.Common.{◌≡◌, ◌≤◌}
use Rattle.sop_nearest.specs.Cells.{is_in_slab, AddsHits}
use Rattle.sop_nearest.proofs.cells.Reach.measure_slab.Given as goal

abbrev pub invariant-loop-y : goal.invariant-loop-y
invariant-loop-y l = record {
  adds : AddsHits l.places l.ball l.spots (is_in_slab l.x (record { low = l.self.y.low; end = l.y }) l.self.z) l.initial.hits.items l.hits.items;
  still : l.self.y.end ≤ l.self.y.low → l.y ≡ l.self.y.low;
}
