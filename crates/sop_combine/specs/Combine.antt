-- What nodes of the combining types give, type by type: a geometry, or a fault. The types are `merge`, `blast` and `groupcreate`.
--
-- A node has the texts of its parameters in the order of its type's, and all its type's inputs by rising number, some of which may lack a
-- geometry. A merge takes those that have one; of every other node each is needed, and one that lacks a geometry is NoInput. A geometry that
-- passes a limit is Limit, after every other fault.
use Rattle.std.specs.Prelude.{ℕ, Bool, List, [], ◌∷◌, Option, None, Some, is_some, Ok, Err}
use Rattle.sop_model.specs.declared.geo.Geo.{Geo}
use Rattle.sop_model.specs.declared.fault.Fault.TheVariants.{NotYet}
use Rattle.sop_model.specs.Merge.{merged}
use Rattle.sop_net.specs.declared.node_type.NodeType.{NodeType}
use Rattle.sop_net.specs.declared.node_type.NodeType.TheVariants as type
use Rattle.sop_basic.specs.Outcomes.{Outcome, limited}
use Rattle.sop_basic.specs.Basic.{with_input}
use Rattle.sop_combine.specs.Blast.{blast_geo}
use Rattle.sop_combine.specs.GroupCreate.{groupcreate_geo}

-- the inputs that have a geometry
abbrev pub wired : List (Option Geo) → List Geo
wired [] = []
wired (None ∷ inputs) = wired inputs
wired (Some g ∷ inputs) = g ∷ wired inputs

-- what nodes of one type make, from the texts of the parameters and the inputs
abbrev pub Maker : Type 0
Maker = List (List ℕ) → List (Option Geo) → Outcome

-- The table of types; None where a type is none of these.
abbrev pub maker_of : NodeType → Option Maker
maker_of type.Merge = Some (λ parms inputs. Ok (merged (wired inputs)))
maker_of type.Blast = Some (λ parms inputs. with_input inputs 0 (blast_geo parms))
maker_of type.GroupCreate = Some (λ parms inputs. with_input inputs 0 (groupcreate_geo parms))
maker_of other = None

abbrev pub is_combining : NodeType → Bool
is_combining node_type = is_some (maker_of node_type)

abbrev pub made_by : Option Maker → Maker
made_by None parms inputs = Err NotYet
made_by (Some maker) parms inputs = maker parms inputs

-- what a node gives
abbrev pub combine_geo : NodeType → List (List ℕ) → List (Option Geo) → Outcome
combine_geo node_type parms inputs = limited (made_by (maker_of node_type) parms inputs)
