-- The steps of a network: a node is added, parameters are set, a wire is set, a node is removed. Each gives the new network, or the first
-- refusal in the order that its rule names.
use Rattle.std.specs.Prelude.{ℕ, ◌+◌, Bool, ◌||◌, not, nat_le, nat_lt, ◌==◌, if◌then◌else◌, List, [], ◌∷◌, ◌++◌, length, map, remove, Option, None, Some, Result, Ok, Err, find, position, is_some, slice_get, slice_set, bytes_eq}
use Rattle.sop_fixed.specs.Numerals.{number_in}
use Rattle.sop_model.specs.Names.{is_name}
use Rattle.sop_net.specs.declared.node_type.NodeType.{NodeType}
use Rattle.sop_net.specs.declared.node.Node.{Node}
use Rattle.sop_net.specs.declared.net_end.NetEnd.{NetEnd}
use Rattle.sop_net.specs.declared.net_end.NetEnd.TheVariants.{BadName, NameTaken, NoType, Limit, NoNode, NoParm, BadValue, BadInput, Cycle}
use Rattle.sop_net.specs.NodeTable.{Parm, type_of_word, parms_of}
use Rattle.sop_net.specs.ParmValues.{is_value}
use Rattle.sop_net.specs.Limits.{most_nodes, most_added, most_input_digits}
use Rattle.sop_net.specs.Graph.{searched}
use Rattle.sop_net.specs.Network.{Network, place_named, new_node, sources}

abbrev pub Step : Type 0
Step = Result Network NetEnd

-- A node is added: BadName for a text that is no name, NameTaken for the name of a node that stands, NoType for another word than a type's,
-- Limit where 1,024 nodes stand or 2^64 - 1 were added before.
abbrev pub has_no_room : Network → Bool
has_no_room net = nat_le most_nodes (length net.nodes) || nat_le most_added net.added

abbrev pub with_node : Network → NodeType → List ℕ → Network
with_node net node_type name = record { nodes = net.nodes ++ new_node net.added node_type name ∷ []; added = net.added + 1 }

abbrev pub added_of_type : Network → Option NodeType → List ℕ → Step
added_of_type net None name = Err NoType
added_of_type net (Some node_type) name = if has_no_room net then Err Limit else Ok (with_node net node_type name)

abbrev pub added_node : Network → List ℕ → List ℕ → Step
added_node net word name =
    if not (is_name name) then Err BadName
    else if is_some (place_named net.nodes name) then Err NameTaken
    else added_of_type net (type_of_word word) name

-- the network with its node at a place changed
abbrev pub with_changed : Network → ℕ → Node → Network
with_changed net at n = record net { nodes = slice_set net.nodes at n }

abbrev pub on_node : Network → ℕ → Option Node → (ℕ → Node → Step) → Step
on_node net at None go = Err NoNode
on_node net at (Some n) go = go at n

-- a step on the node at a place
abbrev pub on_node_at : Network → Option ℕ → (ℕ → Node → Step) → Step
on_node_at net None go = Err NoNode
on_node_at net (Some at) go = on_node net at (slice_get net.nodes at) go

-- a step on the node of a name; NoNode where none stands
abbrev pub on_named : Network → List ℕ → (ℕ → Node → Step) → Step
on_named net name go = on_node_at net (place_named net.nodes name) go

-- Parameters are set: NoNode, then for each pair of a parameter and a text NoParm and BadValue. All pairs are judged before any is set; of
-- one parameter twice the last text stays.
abbrev pub refusal_of_value : Option Parm → List ℕ → Option NetEnd
refusal_of_value None value = Some NoParm
refusal_of_value (Some p) value = if is_value p.kind value then None else Some BadValue

abbrev pub refusal_of_pair : NodeType → List ℕ → List ℕ → Option NetEnd
refusal_of_pair node_type parm value = refusal_of_value (find (λ p. bytes_eq p.name parm) (parms_of node_type)) value

abbrev pub first_of : Option NetEnd → Option NetEnd → Option NetEnd
first_of None later = later
first_of (Some end) later = Some end

-- the first refusal among parameters and texts in turn
abbrev pub refusal_of_pairs : NodeType → List (List ℕ) → Option NetEnd
refusal_of_pairs node_type [] = None
refusal_of_pairs node_type (parm ∷ []) = None
refusal_of_pairs node_type (parm ∷ value ∷ pairs) = first_of (refusal_of_pair node_type parm value) (refusal_of_pairs node_type pairs)

abbrev pub set_at : Option ℕ → List (List ℕ) → List ℕ → List (List ℕ)
set_at None texts value = texts
set_at (Some i) texts value = slice_set texts i value

abbrev pub with_pair : NodeType → List (List ℕ) → List ℕ → List ℕ → List (List ℕ)
with_pair node_type texts parm value = set_at (position (λ p. bytes_eq p.name parm) (parms_of node_type)) texts value

abbrev pub with_pairs : NodeType → List (List ℕ) → List (List ℕ) → List (List ℕ)
with_pairs node_type texts [] = texts
with_pairs node_type texts (parm ∷ []) = texts
with_pairs node_type texts (parm ∷ value ∷ pairs) = with_pairs node_type (with_pair node_type texts parm value) pairs

abbrev pub unless_refused : Option NetEnd → Network → Step
unless_refused None net = Ok net
unless_refused (Some end) net = Err end

abbrev pub set_on : Network → List (List ℕ) → ℕ → Node → Step
set_on net pairs at n = unless_refused (refusal_of_pairs n.node_type pairs) (with_changed net at (record n { parms = with_pairs n.node_type n.parms pairs }))

abbrev pub set_node : Network → List ℕ → List (List ℕ) → Step
set_node net name pairs = on_named net name (set_on net pairs)

-- A wire is set: NoNode for the node, NoNode for the source, BadInput for another text than one or two digits that give a number below the
-- node's inputs, Cycle where the source is the node or the node is upstream of the source. A former wire there is replaced.
abbrev pub input_of_text : List ℕ → Option ℕ
input_of_text text = number_in most_input_digits text

-- a bound that no way upstream passes: no node is met twice
abbrev pub is_upstream : Network → ℕ → ℕ → Bool
is_upstream net x y = searched (length net.nodes) (sources net.nodes) x y

abbrev pub wired_into : Network → ℕ → Node → ℕ → Option ℕ → Step
wired_into net at n source None = Err BadInput
wired_into net at n source (Some input) =
    if not (nat_lt input (length n.wires)) then Err BadInput
    else if is_upstream net source n.number then Err Cycle
    else Ok (with_changed net at (record n { wires = slice_set n.wires input (Some source) }))

abbrev pub wire_on : Network → List ℕ → List ℕ → ℕ → Node → Step
wire_on net index source at n = on_named net source (λ source_at s. wired_into net at n s.number (input_of_text index))

abbrev pub wired_node : Network → List ℕ → List ℕ → List ℕ → Step
wired_node net name index source = on_named net name (wire_on net index source)

-- A node is removed, with all wires that touch it: NoNode.
abbrev pub unless_from : ℕ → Option ℕ → Option ℕ
unless_from x None = None
unless_from x (Some source) = if source == x then None else Some source

abbrev pub unwired : ℕ → Node → Node
unwired x n = record n { wires = map (unless_from x) n.wires }

abbrev pub removed_node : Network → List ℕ → Step
removed_node net name = on_named net name (λ at n. Ok (record net { nodes = map (unwired n.number) (remove net.nodes at) }))
