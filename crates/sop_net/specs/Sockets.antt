-- The inputs that a node uses, by rising number, as a cook asks for them: of a switch the one that it takes, of every other node all of its
-- type's.
use Rattle.std.specs.Prelude.{ℕ, suc, Bool, not, List, [], ◌∷◌, Option}
use Rattle.sop_net.specs.declared.node_type.NodeType.{NodeType}
use Rattle.sop_net.specs.declared.node_type.NodeType.TheVariants as type
use Rattle.sop_net.specs.declared.node.Node.{Node}
use Rattle.sop_net.specs.NodeTable.{row_of}
use Rattle.sop_net.specs.Network.{switch_input, wires_used_by}

-- an input: its number, whether it must be wired, and the source of its wire
pub record Socket : Type 0 where
  pub input : ℕ
  pub is_needed : Bool
  pub wire : Option ℕ

-- inputs from this number on
abbrev pub sockets_from : ℕ → Bool → List (Option ℕ) → List Socket
sockets_from input is_needed [] = []
sockets_from input is_needed (wire ∷ wires) = record { input = input; is_needed = is_needed; wire = wire } ∷ sockets_from (suc input) is_needed wires

-- the number of the first input that a node uses
abbrev pub first_used : NodeType → Node → ℕ
first_used type.Switch n = switch_input n
first_used other n = 0

-- whether the inputs of a type must be wired
abbrev pub needs_inputs : NodeType → Bool
needs_inputs node_type = not (row_of node_type).is_optional

abbrev pub sockets_of : Node → List Socket
sockets_of n = sockets_from (first_used n.node_type n) (needs_inputs n.node_type) (wires_used_by n.node_type n)
