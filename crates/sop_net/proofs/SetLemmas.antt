-- Texts that are set for parameters of the node at a place.
use Rattle.std.proofs.Common.{◌≡◌, ◌∙◌, sym, ap, subst, ℕ, ◌<◌, List, [], ◌∷◌, length, get_or, set}
use Rattle.std.specs.Prelude.{None, Some, Ok, position, bytes_eq, slice_set}
use Rattle.sop_net.specs.declared.staged.StagedText.{StagedText}
use Rattle.sop_net.specs.declared.node_type.NodeType.{NodeType}
use Rattle.sop_net.specs.declared.node.Node.{Node}
use Rattle.sop_net.specs.Network.{Network, place_named, IsNodeOf}
use Rattle.sop_net.specs.NodeTable.{parms_of}
use Rattle.sop_net.specs.Order.{IsKept}
use Rattle.sop_net.specs.Steps.{refusal_of_pair, refusal_of_pairs, first_of, set_at, with_pairs, with_changed, unless_refused, set_on, set_node}
use Rattle.sop_net.proofs.ChangeLemmas.{same-read, kept-rewired_not, on_named-at}
use Rattle.sop_net.proofs.StagedLemmas.{values-pairs}
use Rattle.sop_net.proofs.ValueLemmas.{values-length}

module _ (nodes : List Node) (names : List (List ℕ)) (order : List ℕ) (added at : ℕ) (kept : IsKept nodes names order added) (within : at < length nodes) (m n : Node) (judged : m ≡ get_or nodes at m) (read : n ≡ get_or nodes at n) where
  is-node : IsNodeOf n
  is-node = subst IsNodeOf (sym read) (kept.network.nodes at n within)

  same-type : m.node_type ≡ n.node_type
  same-type = ap (λ k. k.node_type) (same-read nodes at m n within judged read)

  pub as-many : (count : ℕ) → count ≡ length (parms_of m.node_type) → count ≡ length n.parms
  as-many count is = is ∙ ap (λ k. length (parms_of k)) same-type ∙ sym (values-length (parms_of n.node_type) n.parms is-node.parms)

  pub place-room : (i : ℕ) → i < length (parms_of m.node_type) → i < length n.parms
  place-room i h = subst (λ k. i < k) (ap (λ k. length (parms_of k)) same-type ∙ sym (values-length (parms_of n.node_type) n.parms is-node.parms)) h

  module _ (pairs now : List (List ℕ)) (fine : refusal_of_pairs m.node_type pairs ≡ None) (is : with_pairs m.node_type n.parms pairs ≡ now) where
    pub kept-pairs : IsKept (set nodes at (record n { parms = now })) names order added
    kept-pairs =
        let taken = values-pairs n.node_type n.parms pairs is-node.parms (ap (λ k. refusal_of_pairs k pairs) (sym same-type) ∙ fine) in
        let texts : with_pairs n.node_type n.parms pairs ≡ now = ap (λ k. with_pairs k n.parms pairs) (sym same-type) ∙ is in
        kept-rewired_not nodes names order added at (record n { parms = now }) n kept (ap (λ k. k.number) read) (ap (λ k. k.name) read) (ap (λ k. k.wires) read)
        (record { name = is-node.name; parms = rw texts at taken; inputs = is-node.inputs })

    pub set-pairs : (name : List ℕ) → place_named nodes name ≡ Some at → set_node (record { nodes = nodes; added = added }) name pairs ≡ Ok (record { nodes = set nodes at (record n { parms = now }); added = added })
    set-pairs name placed =
        let net : Network = record { nodes = nodes; added = added } in
        let texts : with_pairs n.node_type n.parms pairs ≡ now = ap (λ k. with_pairs k n.parms pairs) (sym same-type) ∙ is in
        on_named-at net name at n (set_on net pairs) placed within read
        ∙ ap (λ end. unless_refused end (with_changed net at (record n { parms = with_pairs n.node_type n.parms pairs }))) (ap (λ k. refusal_of_pairs k pairs) (sym same-type) ∙ fine)
        ∙ ap (λ t. Ok (record { nodes = set nodes at (record n { parms = t }); added = added })) texts

-- one pair
pub one-fine : (node_type : NodeType) (name value : List ℕ) → refusal_of_pair node_type name value ≡ None → refusal_of_pairs node_type (name ∷ value ∷ []) ≡ None
one-fine node_type name value fine = ap (λ end. first_of end None) fine

pub one-set : (node_type : NodeType) (texts : List (List ℕ)) (name value : List ℕ) (e : StagedText) → position (λ p. bytes_eq p.name name) (parms_of node_type) ≡ Some e.at → e.text ≡ value
    → with_pairs node_type texts (name ∷ value ∷ []) ≡ slice_set texts e.at e.text
one-set node_type texts name value e at is = ap (λ place. set_at place texts value) at ∙ ap (slice_set texts e.at) (sym is)
