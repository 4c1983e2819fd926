use Rattle.std.proofs.Common.{◌≡◌, ◌∙◌, sym, inr, ℕ, List, ◌++◌, length, take, drop, true, arith}
use Rattle.std.proofs.lemmas.List.{take-append-le, take_all}
use Rattle.sop_net.specs.Order.{comes_first}
use Rattle.sop_net.proofs.WireLemmas.{order-admits, order-free}
use Rattle.sop_net.proofs.RankLemmas.{placed-ranking, placed-below}
use Rattle.sop_net.proofs.order.Order.admit.Goals as goal

-- where the ranks tell that the source comes first, the order serves
module _ (c : goal.Then-rank) where
  source-first : comes_first c.args.source c.args.node c.args.self.now.nodes.items ≡ true
  source-first =
      c.requires.ranking.first c.args.source c.args.node (c.requires.order.complete c.args.source c.requires.source) (c.requires.order.complete c.args.node c.requires.node)
      (rw (c.rank.ensures, c.rank-2.ensures) at c.if-rank.true)

pub returns-then-rank-clause-free : goal.returns-then-rank-clause-free
returns-then-rank-clause-free c = order-free c.args.nodes.now c.args.self.now.nodes.items c.args.node c.args.source c.requires.order c.requires.wires (source-first c)

pub returns-then-rank-clause-order : goal.returns-then-rank-clause-order
returns-then-rank-clause-order c = order-admits c.args.nodes.now c.args.self.now.nodes.items c.args.node c.args.source c.requires.order c.requires.wires (source-first c)

-- the ranks that are left, as a list
written : (new old : List ℕ) (len : ℕ) → length old ≡ len → length new ≡ length old → take len (new ++ drop (length new) old) ≡ new
written new old len whole same = take-append-le len new (drop (length new) old) (omega arith) ∙ take_all len new (omega arith)

module _ (c : goal.After-self-1) where
  ranks-left : take c.args.self.now.ranks.len (c.rank_all.new.ranks ++ drop (length c.rank_all.new.ranks) c.args.self.now.ranks.items) ≡ c.rank_all.new.ranks
  ranks-left =
      written c.rank_all.new.ranks c.args.self.now.ranks.items c.args.self.now.ranks.len (rw c.deref_mut.ensures.value at c.deref_mut.ensures.len)
      (c.rank_all.ensures.len ∙ sym c.requires.ranking.each)

pub returns-clause-ranking : goal.returns-clause-ranking
returns-clause-ranking c =
    rw (ranks-left c) (placed-ranking c.args.nodes.now c.in_ok-self.field-0.items c.rank_all.new.ranks c.rank_all.ensures.len (rw c.deref-2.ensures.value at c.rank_all.ensures.ranks))

pub returns-clause-ranks : goal.returns-clause-ranks
returns-clause-ranks c =
    rw (ranks-left c)
    (inr (placed-below c.args.nodes.now _ c.in_ok-self.field-0.items c.rank_all.new.ranks c.requires.rising c.in_ok-self.ensures.order c.rank_all.ensures.len
    (rw c.deref-2.ensures.value at c.rank_all.ensures.ranks)))
