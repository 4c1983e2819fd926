use Rattle.std.proofs.Common.{◌≡◌, length}
use Rattle.sop_net.proofs.RankLemmas.{IsPlacedFrom}
use Rattle.sop_net.proofs.order.rank_all.Given as goal

abbrev pub invariant-loop-rank : goal.invariant-loop-rank
invariant-loop-rank l = (length l.ranks ≡ length l.nodes) × IsPlacedFrom l.nodes l.order l.ranks l.rank
