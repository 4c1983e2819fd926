use Rattle.std.proofs.Common.{◌≡◌, ◌∙◌, ◌+◌, ◌-◌, ◌<◌, subst, length, length-set, arith}
use Rattle.std.proofs.lemmas.List.{get_or_default}
use Rattle.sop_net.proofs.FlagLemmas.{in-at}
use Rattle.sop_net.proofs.RankLemmas.{IsPlacedFrom, placed-step}
use Rattle.sop_net.proofs.order.rank_all.Goals as goal

pub place-requires-clause-live : goal.place-requires-clause-live
place-requires-clause-live c =
    let within : c.loop-rank.rank - 1 < length c.args.order.now = let most = c.loop-rank.auto.rank in let some = c.loop-rank-test.true in omega arith in
    c.requires.live c.index-order-rank.result
    (rw (c.index-order-rank.is ∙ get_or_default c.args.order.now (c.loop-rank.rank - 1) c.index-order-rank.result 0 within) (in-at c.args.order.now (c.loop-rank.rank - 1) within))

pub loop-rank-preserved : goal.loop-rank-preserved
loop-rank-preserved c =
    let some = c.loop-rank-test.true in
    let within : c.loop-rank.rank - 1 < length c.args.order.now = let most = c.loop-rank.auto.rank in omega arith in
    let next : c.loop-rank.rank ≡ c.loop-rank.rank - 1 + 1 = omega arith in (
      length-set c.loop-rank.ranks c.place.result (c.loop-rank.rank - 1) ∙ c.loop-rank.invariant.0,
      placed-step c.args.nodes.now c.args.order.now c.loop-rank.ranks (c.loop-rank.rank - 1) c.place.result c.index-order-rank.result within
          (c.index-order-rank.is ∙ get_or_default c.args.order.now (c.loop-rank.rank - 1) c.index-order-rank.result 0 within)
          c.place.ensures.place (rw c.loop-rank.invariant.0 c.place.ensures.within) c.requires.live
          (subst (IsPlacedFrom c.args.nodes.now c.args.order.now c.loop-rank.ranks) next c.loop-rank.invariant.1),
    )
