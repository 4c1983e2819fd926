-- The visit of a node: it asks for its inputs, one after the other, and then gives what the node makes of them.
--
-- It asks by sockets, which are the inputs that the node uses, by rising number. A wired one is asked for; an unwired one that the node needs
-- gives NoInput in its turn; another is passed over. A node of a type that can't be cooked yet asks for nothing.
use Rattle.std.specs.Prelude.{ℕ, Bool, true, false, List, [], ◌∷◌, Option, None, Some, Result, Ok, Err}
use Rattle.sop_model.specs.declared.geo.Geo.{Geo}
use Rattle.sop_model.specs.declared.fault.Fault.{Fault}
use Rattle.sop_model.specs.declared.fault.Fault.TheVariants as fault
use Rattle.sop_net.specs.declared.node.Node.{Node}
use Rattle.sop_net.specs.Sockets.{Socket, sockets_of}
use Rattle.sop_basic.specs.Loads.{FileMap}
use Rattle.sop_cook.specs.Made.{made, is_built}

-- a fault and the number of its node
pub record Failure : Type 0 where
  pub node : ℕ
  pub fault : Fault

-- what a node gives
abbrev pub Outcome : Type 0
Outcome = Result Geo Failure

abbrev pub failed : ℕ → Fault → Failure
failed x f = record { node = x; fault = f }

-- what node x itself makes
abbrev pub at_node : ℕ → Result Geo Fault → Outcome
at_node x (Ok g) = Ok g
at_node x (Err f) = Err (failed x f)

pub data Visit : Type 0 where
  -- the visit ends, and the node gives this
  Give : (outcome : Outcome) → Visit
  -- cook this source, which goes into this input, and go on with its geometry
  Ask : (input source : ℕ) → (more : Geo → Visit) → Visit

abbrev pub fail : ℕ → Fault → Visit
fail x f = Visit.Give (Err (failed x f))

-- node x asks for one input, and goes on with its geometry, or with none
abbrev pub ask : ℕ → ℕ → Bool → Option ℕ → (Option Geo → Visit) → Visit
ask x input is_needed (Some source) more = Visit.Ask input source (λ g. more (Some g))
ask x input true None more = fail x (fault.NoInput input)
ask x input false None more = more None

-- node x asks for its inputs in turn, and goes on with all of them
abbrev pub ask_all : ℕ → List Socket → (List (Option Geo) → Visit) → Visit
ask_all x [] more = more []
ask_all x (s ∷ sockets) more = ask x s.input s.is_needed s.wire (λ g. ask_all x sockets (λ inputs. more (g ∷ inputs)))

abbrev pub visit_if : Bool → FileMap → ℕ → Node → Visit
visit_if true files x n = ask_all x (sockets_of n) (λ inputs. Visit.Give (at_node x (made files n inputs)))
visit_if false files x n = fail x fault.NotYet

-- the visit of node x, which is this node
abbrev pub visit : FileMap → ℕ → Option Node → Visit
visit files x None = fail x fault.NotYet
visit files x (Some n) = visit_if (is_built n.node_type) files x n
