-- What a wire's step answers, for nodes at their places.
use Rattle.std.proofs.Common.{◌≡◌, ◌∙◌, ap, refl, ℕ, ◌<◌, ◌≤◌, List, true, false, not, cond, length, get_or, set, arith}
use Rattle.std.specs.Prelude.{Option, None, Some, Ok, Err, nat_lt}
use Rattle.std.proofs.lemmas.Bool.{lt-ltb}
use Rattle.std.proofs.lemmas.Bool.Decides.{nat_tests}
use Rattle.sop_net.specs.declared.node.Node.{Node}
use Rattle.sop_net.specs.declared.net_end.NetEnd.TheVariants.{BadInput, Cycle}
use Rattle.sop_net.specs.Graph.{searched}
use Rattle.sop_net.specs.Network.{Network, place_named, sources}
use Rattle.sop_net.specs.Steps.{input_of_text, is_upstream, with_changed, wired_into, wire_on, wired_node}
use Rattle.sop_net.proofs.ChangeLemmas.{same-read, on_named-at}

high-input : (net : Network) (at source : ℕ) (m : Node) (input : Option ℕ) → ((i : ℕ) → input ≡ Some i → length m.wires ≤ i) → wired_into net at m source input ≡ Err BadInput
high-input net at source m None h = refl
high-input net at source m (Some i) h =
    let le : length m.wires ≤ i = h i refl in
    let no : nat_lt i (length m.wires) ≡ false = grind (arith, nat_tests) in
    ap (λ b. cond (not b) (Err BadInput) (cond (is_upstream net source m.number) (Err Cycle) (Ok (with_changed net at (record m { wires = set m.wires i (Some source) }))))) no

low-input : (net : Network) (at source i : ℕ) (m : Node) → i < length m.wires
    → wired_into net at m source (Some i) ≡ cond (is_upstream net source m.number) (Err Cycle) (Ok (with_changed net at (record m { wires = set m.wires i (Some source) })))
low-input net at source i m h =
    ap (λ b. cond (not b) (Err BadInput) (cond (is_upstream net source m.number) (Err Cycle) (Ok (with_changed net at (record m { wires = set m.wires i (Some source) }))))) (lt-ltb i (length m.wires) h)

module _ (nodes : List Node) (added : ℕ) (name index source_name : List ℕ) (at source_at : ℕ) (m s : Node)
    (placed : place_named nodes name ≡ Some at) (within : at < length nodes) (judged : m ≡ get_or nodes at m)
    (source_placed : place_named nodes source_name ≡ Some source_at) (source_within : source_at < length nodes) (source_read : s ≡ get_or nodes source_at s) where
  wired-at : wired_node (record { nodes = nodes; added = added }) name index source_name ≡ wired_into (record { nodes = nodes; added = added }) at m s.number (input_of_text index)
  wired-at =
      let net : Network = record { nodes = nodes; added = added } in
      on_named-at net name at m (wire_on net index source_name) placed within judged
      ∙ on_named-at net source_name source_at s (λ k source. wired_into net at m source.number (input_of_text index)) source_placed source_within source_read

  pub wire-bad_input : ((input : ℕ) → input_of_text index ≡ Some input → length m.wires ≤ input) → wired_node (record { nodes = nodes; added = added }) name index source_name ≡ Err BadInput
  wire-bad_input high = wired-at ∙ high-input (record { nodes = nodes; added = added }) at s.number m (input_of_text index) high

  module _ (input : ℕ) (is_input : input_of_text index ≡ Some input) (low : input < length m.wires) where
    decided : wired_node (record { nodes = nodes; added = added }) name index source_name
        ≡ cond (searched (length nodes) (sources nodes) s.number m.number) (Err Cycle) (Ok (with_changed (record { nodes = nodes; added = added }) at (record m { wires = set m.wires input (Some s.number) })))
    decided =
        wired-at ∙ ap (wired_into (record { nodes = nodes; added = added }) at m s.number) is_input ∙ low-input (record { nodes = nodes; added = added }) at s.number input m low

    pub wire-cycle : searched (length nodes) (sources nodes) s.number m.number ≡ true → wired_node (record { nodes = nodes; added = added }) name index source_name ≡ Err Cycle
    wire-cycle found = decided ∙ ap (λ b. cond b (Err Cycle) (Ok (with_changed (record { nodes = nodes; added = added }) at (record m { wires = set m.wires input (Some s.number) })))) found

    pub wire-ok : searched (length nodes) (sources nodes) s.number m.number ≡ false → (n : Node) → n ≡ get_or nodes at n
        → wired_node (record { nodes = nodes; added = added }) name index source_name ≡ Ok (record { nodes = set nodes at (record n { wires = set n.wires input (Some s.number) }); added = added })
    wire-ok free n read =
        decided
        ∙ ap (λ b. cond b (Err Cycle) (Ok (with_changed (record { nodes = nodes; added = added }) at (record m { wires = set m.wires input (Some s.number) })))) free
        ∙ ap (λ k. Ok (record { nodes = set nodes at (record k { wires = set k.wires input (Some s.number) }); added = added })) (same-read nodes at m n within judged read)
