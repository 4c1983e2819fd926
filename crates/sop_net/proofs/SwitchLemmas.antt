-- The wires that a node uses.
use Rattle.std.proofs.Common.{◌≡◌, ◌∙◌, sym, ap, refl, ℕ, zero, suc, ◌+◌, ◌-◌, ◌<◌, List, [], ◌∷◌, length, take, drop, arith}
use Rattle.std.specs.Prelude.{Option}
use Rattle.sop_net.specs.declared.node_type.NodeType.TheVariants as type
use Rattle.sop_net.specs.declared.node.Node.{Node}
use Rattle.sop_net.specs.Network.{wire_at, switch_input, wires_used_by}

one-at : (wires : List (Option ℕ)) (i : ℕ) → i < length wires → take 1 (drop i wires) ≡ wire_at wires i ∷ []
one-at [] i h = absurd (omega arith)
one-at (wire ∷ wires) zero h = refl
one-at (wire ∷ wires) (suc i) h = one-at wires i (omega arith)

-- a switch uses one wire
pub one-wire : (n : Node) (wires : List (Option ℕ)) (i : ℕ) → n.node_type ≡ type.Switch → wires ≡ n.wires → i ≡ switch_input n → i < length n.wires
    → take (i + 1 - i) (drop i wires) ≡ wires_used_by n.node_type n
one-wire n wires i node_type is input h =
    let one : i + 1 - i ≡ 1 = omega arith in
    ap (λ k. take k (drop i wires)) one ∙ ap (λ l. take 1 (drop i l)) is ∙ one-at n.wires i h ∙ ap (λ k. wire_at n.wires k ∷ []) input ∙ ap (λ k. wires_used_by k n) (sym node_type)
