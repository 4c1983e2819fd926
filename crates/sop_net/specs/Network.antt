-- The network: a list of nodes in order of making, each with its number, its name, its type, the texts of its parameters and its wires; and
-- how many nodes were added so far.
--
-- A node's number is how many nodes were added before it; it keeps it when others are removed. A wire stands at the number of the input that
-- it goes into, and names its source by the source's number.
use Rattle.std.specs.Prelude.{◌≡◌, ℕ, ◌<◌, ◌≤◌, ◌==◌, IsTrue, zero, suc, ⊤, Contains, List, [], ◌∷◌, length, All, Option, None, Some, find, position, slice_get, replicate, option_map, bytes_eq, is_some, unsigned_abs, unwrap_or, pos, map, AllPairs}
use Rattle.std.specs.Option.{option_and_then}
use Rattle.sop_model.specs.Names.{is_name, are_distinct}
use Rattle.sop_net.specs.declared.node_type.NodeType.{NodeType}
use Rattle.sop_net.specs.declared.node_type.NodeType.TheVariants as type
use Rattle.sop_net.specs.declared.node.Node.{Node}
use Rattle.sop_net.specs.NodeTable.{Parm, inputs_of, parms_of, default_parms}
use Rattle.sop_net.specs.ParmValues.{is_value, whole_of}
use Rattle.sop_net.specs.Limits.{most_nodes}
use Rattle.sop_net.specs.Graph.{HasNoCycle}

pub record Network : Type 0 where
  pub nodes : List Node
  pub added : ℕ

-- no node, and none was added
abbrev pub empty_network : Network
empty_network = record { nodes = []; added = 0 }

-- the node of this number
abbrev pub node_of : List Node → ℕ → Option Node
node_of nodes x = find (λ n. n.number == x) nodes

abbrev pub place_of : List Node → ℕ → Option ℕ
place_of nodes x = position (λ n. n.number == x) nodes

-- a node of this number stands
abbrev pub IsLive : List Node → ℕ → Type 0
IsLive nodes x = IsTrue (is_some (node_of nodes x))

-- the node of this name, and its place in the list
abbrev pub node_named : List Node → List ℕ → Option Node
node_named nodes name = find (λ n. bytes_eq n.name name) nodes

abbrev pub place_named : List Node → List ℕ → Option ℕ
place_named nodes name = position (λ n. bytes_eq n.name name) nodes

abbrev pub number_named : List Node → List ℕ → Option ℕ
number_named nodes name = option_map (λ n. n.number) (node_named nodes name)

-- a node with default parameters and no wire
abbrev pub new_node : ℕ → NodeType → List ℕ → Node
new_node number node_type name = record { number = number; name = name; node_type = node_type; parms = default_parms node_type; wires = replicate (inputs_of node_type) None }

-- the wire into an input
abbrev pub wire_at : List (Option ℕ) → ℕ → Option ℕ
wire_at wires input = option_and_then (λ wire. wire) (slice_get wires input)

-- the sources of wires, by rising input number
abbrev pub wired : List (Option ℕ) → List ℕ
wired [] = []
wired (None ∷ wires) = wired wires
wired (Some source ∷ wires) = source ∷ wired wires

abbrev pub wires_of : Option Node → List (Option ℕ)
wires_of None = []
wires_of (Some n) = n.wires

-- what the node of this number takes from, by all wires
abbrev pub sources : List Node → ℕ → List ℕ
sources nodes x = wired (wires_of (node_of nodes x))

-- the text of a parameter, by its place in the table
abbrev pub parm_at : List (List ℕ) → ℕ → List ℕ
parm_at [] i = []
parm_at (text ∷ texts) zero = text
parm_at (text ∷ texts) (suc i) = parm_at texts i

-- the input that a switch takes
abbrev pub switch_input : Node → ℕ
switch_input n = unsigned_abs (unwrap_or (whole_of (parm_at n.parms 0)) (pos 0))

-- the wires that a node uses: of a switch the one into the input that it takes, of every other node all
abbrev pub wires_used_by : NodeType → Node → List (Option ℕ)
wires_used_by type.Switch n = wire_at n.wires (switch_input n) ∷ []
wires_used_by other n = n.wires

abbrev pub used_wires : Option Node → List (Option ℕ)
used_wires None = []
used_wires (Some n) = wires_used_by n.node_type n

-- what the node of this number takes from, by used wires
abbrev pub used_sources : List Node → ℕ → List ℕ
used_sources nodes x = wired (used_wires (node_of nodes x))

-- each parameter has a text that it takes
abbrev pub AreValues : List Parm → List (List ℕ) → Type 0
AreValues [] [] = ⊤
AreValues [] (text ∷ texts) = ⊥
AreValues (p ∷ parms) [] = ⊥
AreValues (p ∷ parms) (text ∷ texts) = IsTrue (is_value p.kind text) × AreValues parms texts

-- a node as its type asks for
pub record IsNodeOf (n : Node) : Type 0 where
  pub name : IsTrue (is_name n.name)
  pub parms : AreValues (parms_of n.node_type) n.parms
  pub inputs : length n.wires ≡ inputs_of n.node_type

-- what holds of every network
pub record IsNetwork (net : Network) : Type 0 where
  pub few : length net.nodes ≤ most_nodes
  pub nodes : All IsNodeOf net.nodes
  pub names : IsTrue (are_distinct (map (λ n. n.name) net.nodes))
  -- numbers rise, and are below the number of nodes added so far
  pub rising : AllPairs (λ a b. a.number < b.number) net.nodes
  pub below : All (λ n. n.number < net.added) net.nodes
  -- each wire's source stands, and no node is upstream of itself
  pub live : (x y : ℕ) → Contains (sources net.nodes x) y → IsLive net.nodes y
  pub no_cycle : HasNoCycle (sources net.nodes)
