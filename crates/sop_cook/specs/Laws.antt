-- What holds of every cook: what its visits ask for, and what it rests on.
use Rattle.std.specs.Prelude.{◌≡◌, ℕ, ⊤, List, Some, Contains}
use Rattle.sop_model.specs.declared.geo.Geo.{Geo}
use Rattle.sop_net.specs.declared.node.Node.{Node}
use Rattle.sop_net.specs.Graph.{Reaches}
use Rattle.sop_net.specs.Network.{node_of, wire_at, wires_of, used_sources}
use Rattle.sop_net.specs.Needs.{file_of}
use Rattle.sop_basic.specs.declared.loaded.LoadedFile.TheVariants.{Missing}
use Rattle.sop_basic.specs.Loads.{FileMap}
use Rattle.sop_cook.specs.Visit.{Visit}

-- each question of a visit, for an input and its source, is as P says
abbrev pub Asks : (ℕ → ℕ → Type 0) → Visit → Type 0
Asks P (Visit.Give outcome) = ⊤
Asks P (Visit.Ask input source more) = P input source × ((g : Geo) → Asks P (more g))

-- the source is wired into this input of node x, which uses the wire; so it is upstream of x
pub record IsUsedWire (nodes : List Node) (x input source : ℕ) : Type 0 where
  pub wired : wire_at (wires_of (node_of nodes x)) input ≡ Some source
  pub used : Contains (used_sources nodes x) source

-- files agree on each name that the node or one upstream of it by used wires loads
abbrev pub AreAlike : FileMap → FileMap → List Node → ℕ → Type 0
AreAlike files others nodes x = (y : ℕ) (name : List ℕ) → Reaches (used_sources nodes) x y → file_of nodes y ≡ Some name → files name ≡ others name

-- y is node x or upstream of it by used wires, and loads a file that is missing
pub record IsMissing (files : FileMap) (nodes : List Node) (x y : ℕ) : Type 0 where
  pub reached : Reaches (used_sources nodes) x y
  pub name : List ℕ
  pub file : file_of nodes y ≡ Some name
  pub missing : files name ≡ Missing
