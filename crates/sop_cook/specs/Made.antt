-- What a node makes of its inputs and its file: a geometry, or a fault.
--
-- A node of a basic or of a combining type gives what the rules of its type say. Nodes of other types can't be cooked yet.
use Rattle.std.specs.Prelude.{ℕ, Bool, ◌||◌, if◌then◌else◌, List, Option}
use Rattle.sop_model.specs.declared.geo.Geo.{Geo}
use Rattle.sop_net.specs.declared.node_type.NodeType.{NodeType}
use Rattle.sop_net.specs.declared.node.Node.{Node}
use Rattle.sop_basic.specs.Loads.{FileMap}
use Rattle.sop_basic.specs.Outcomes as node
use Rattle.sop_basic.specs.Basic.{is_basic, basic_geo}
use Rattle.sop_combine.specs.Combine.{is_combining, combine_geo}

-- what a node of a type gives of what the files are, of the texts of its parameters and of its inputs, one for each that it uses
abbrev pub node_geo : FileMap → NodeType → List (List ℕ) → List (Option Geo) → node.Outcome
node_geo files node_type parms inputs = if is_combining node_type then combine_geo node_type parms inputs else basic_geo files node_type parms inputs

-- what a node makes of its inputs
abbrev pub made : FileMap → Node → List (Option Geo) → node.Outcome
made files n inputs = node_geo files n.node_type n.parms inputs

-- whether nodes of this type can be cooked yet
abbrev pub is_built : NodeType → Bool
is_built node_type = is_combining node_type || is_basic node_type
