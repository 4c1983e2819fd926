use Rattle.std.proofs.Common.{◌≡◌}
use Rattle.sop_model.specs.Sweep.{is_marked, how_many}
use Rattle.sop_shape.proofs.CountLemmas.{AreCountsTo}
use Rattle.sop_shape.proofs.lists.counts_before.Given as goal

abbrev pub invariant-loop-flag : goal.invariant-loop-flag
invariant-loop-flag l = record {
  counts : AreCountsTo l.flags l.flag-index l.counts.items;
  count : l.count ≡ how_many (is_marked l.flags) l.flag-index;
}
