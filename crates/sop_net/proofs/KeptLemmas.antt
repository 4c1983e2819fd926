-- What the network keeps, its ranks with it, when a node is added, removed, changed and wired.
use Rattle.std.proofs.Common.{◌≡◌, sym, ap, subst, ℕ, ◌+◌, ◌<◌, ◌≤◌, ◌⊎◌, inl, inr, List, [], ◌∷◌, ◌++◌, not, ◌==◌, IsTrue, length, get_or, set, arith}
use Rattle.std.specs.Prelude.{None, Some, map, All, filter, remove}
use Rattle.std.specs.List.{position_or_len}
use Rattle.std.proofs.lemmas.List.Elements.{All-weaker}
use Rattle.sop_model.specs.Names.{is_name}
use Rattle.sop_net.specs.declared.node_type.NodeType.{NodeType}
use Rattle.sop_net.specs.declared.node.Node.{Node}
use Rattle.sop_net.specs.Limits.{most_nodes}
use Rattle.sop_net.specs.Network.{place_named, IsLive, new_node, sources}
use Rattle.sop_net.specs.Order.{In, IsOrder, IsRanking, IsRanked, IsKept, with_source}
use Rattle.sop_net.specs.Steps.{refusal_of_pairs, with_pairs, unwired}
use Rattle.sop_net.proofs.PlaceLemmas.{stands-at}
use Rattle.sop_net.proofs.AddLemmas.{kept-added}
use Rattle.sop_net.proofs.SetLemmas.{kept-pairs}
use Rattle.sop_net.proofs.RemoveLemmas.{kept-removed}
use Rattle.sop_net.proofs.WireLemmas.{kept-wired}
use Rattle.sop_net.proofs.RankLemmas.{ranked-added, ranked-set, ranked-removed, rising-few}

unused : (nodes : List Node) (k added : ℕ) → k < length nodes → ((d : Node) → (get_or nodes k d).number ≡ added) → ((d : Node) → k < length nodes → (get_or nodes k d).number < added) → ⊥
unused [] k added within number below = absurd (omega arith)
unused (n ∷ nodes) k added within number below = let is = number n in let less = below n within in absurd (omega arith)

module _ (nodes : List Node) (names : List (List ℕ)) (order ranks : List ℕ) (added : ℕ) (kept : IsKept nodes names order added × IsRanked nodes order ranks added) where
  -- the next number is in no order yet
  fresh : In order added → ⊥
  fresh i =
      let s = stands-at nodes added (kept.0.is_order.live added i) in
      let k = position_or_len (λ (n : Node). n.number == added) nodes in
      unused nodes k added s.within (λ d. s.numbered d) (λ d h. kept.0.network.below k d h)

  pub both-added : (node_type : NodeType) (name : List ℕ) → IsTrue (is_name name) → place_named nodes name ≡ None → length nodes < most_nodes
      → IsKept (nodes ++ new_node added node_type name ∷ []) (names ++ name ∷ []) (order ++ added ∷ []) (added + 1)
      × IsRanked (nodes ++ new_node added node_type name ∷ []) (order ++ added ∷ []) (ranks ++ added ∷ []) (added + 1)
  both-added node_type name named free room =
      let after = kept-added nodes names order added node_type name kept.0 named free room in
      (after, ranked-added nodes order ranks (new_node added node_type name) after.network.rising kept.0.is_order.live kept.1 fresh)

  module _ (at : ℕ) (within : at < length nodes) where
    pub both-removed : (n : Node) → n ≡ get_or nodes at n
        → IsKept (map (unwired n.number) (remove nodes at)) (remove names at) (filter (λ x. not (x == n.number)) order) added
        × IsRanked (map (unwired n.number) (remove nodes at)) (filter (λ x. not (x == n.number)) order) (remove ranks at) added
    both-removed n read =
        let after = kept-removed nodes names order added at kept.0 within n read in
        (after, ranked-removed nodes order ranks at n within read after.network.rising kept.0.is_order.live added kept.1)

    module _ (m n : Node) (judged : m ≡ get_or nodes at m) (read : n ≡ get_or nodes at n) where
      pub both-set : (pairs now : List (List ℕ)) → refusal_of_pairs m.node_type pairs ≡ None → with_pairs m.node_type n.parms pairs ≡ now
          → IsKept (set nodes at (record n { parms = now })) names order added × IsRanked (set nodes at (record n { parms = now })) order ranks added
      both-set pairs now fine is =
          let after = kept-pairs nodes names order added at kept.0 within m n judged read pairs now fine is in
          (after, ranked-set nodes order ranks at (record n { parms = now }) n after.network.rising (ap (λ k. k.number) read) added kept.0.is_order.live kept.1)

      pub both-wired : (input source : ℕ) (order_now ranks_now : List ℕ) → IsLive nodes source → IsOrder (with_source (sources nodes) m.number source) nodes order_now
          → IsRanking nodes order_now ranks_now → (ranks_now ≡ ranks) ⊎ All (λ rank. rank < length nodes) ranks_now
          → IsKept (set nodes at (record n { wires = set n.wires input (Some source) })) names order_now added
          × IsRanked (set nodes at (record n { wires = set n.wires input (Some source) })) order_now ranks_now added
      both-wired input source order_now ranks_now there is_order ranking from =
          let after = kept-wired nodes names order added at kept.0 within m n judged read input source order_now there is_order in
          let few : 0 + length nodes ≤ added = rising-few nodes 0 added (λ i d h. omega arith) kept.0.network.rising kept.0.network.below (omega arith) in
          let below : All (λ rank. rank < added) ranks_now = elim from [
            | inl same ↦ subst (λ l. All (λ rank. rank < added) l) (sym same) kept.1.below
            | inr low ↦ All-weaker (λ rank. rank < length nodes) (λ rank. rank < added) (λ rank less. omega arith) ranks_now low
          ] in
          (after, ranked-set nodes order_now ranks_now at (record n { wires = set n.wires input (Some source) }) n after.network.rising (ap (λ k. k.number) read) added is_order.live (record { ranking = ranking; below = below }))
