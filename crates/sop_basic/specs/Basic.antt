-- What nodes of the basic types give, type by type: a geometry, or a fault. The types are `file`, `add`, `line`, `grid`, `box`, `null`,
-- `switch`, `xform`, `attribcreate`, `attribdelete` and `enumerate`.
--
-- A node has the texts of its parameters in the order of its type's, and one input for each that it uses, by rising number, some of which
-- may lack a geometry: of a switch the one of the number `input`, of every other node all of its type's. A null and a switch give their only
-- input. A needed input that lacks a geometry is NoInput. A geometry that passes a limit is Limit, after every other fault.
use Rattle.std.specs.Prelude.{ℕ, Bool, List, Option, None, Some, is_some, slice_get, Ok, Err}
use Rattle.std.specs.Option.{option_and_then}
use Rattle.sop_model.specs.declared.geo.Geo.{Geo}
use Rattle.sop_model.specs.declared.fault.Fault.TheVariants.{NoInput, NotYet}
use Rattle.sop_net.specs.declared.node_type.NodeType.{NodeType}
use Rattle.sop_net.specs.declared.node_type.NodeType.TheVariants as type
use Rattle.sop_net.specs.Network.{parm_at}
use Rattle.sop_basic.specs.Loads.{FileMap}
use Rattle.sop_basic.specs.ParmTexts.{count_in}
use Rattle.sop_basic.specs.Outcomes.{Outcome, limited}
use Rattle.sop_basic.specs.File.{file_geo}
use Rattle.sop_basic.specs.Add.{add_geo}
use Rattle.sop_basic.specs.Line.{line_geo}
use Rattle.sop_basic.specs.Grid.{grid_geo}
use Rattle.sop_basic.specs.Box.{box_geo}
use Rattle.sop_basic.specs.Xform.{xform_geo}
use Rattle.sop_basic.specs.AttribCreate.{attrib_create_geo}
use Rattle.sop_basic.specs.AttribDelete.{attrib_delete_geo}
use Rattle.sop_basic.specs.Enumerate.{enumerate_geo}

abbrev pub input_at : List (Option Geo) → ℕ → Option Geo
input_at inputs i = option_and_then (λ g. g) (slice_get inputs i)

-- goes on with the geometry of a needed input
abbrev pub needing : ℕ → Option Geo → (Geo → Outcome) → Outcome
needing i None go = Err (NoInput i)
needing i (Some g) go = go g

abbrev pub with_input : List (Option Geo) → ℕ → (Geo → Outcome) → Outcome
with_input inputs i go = needing i (input_at inputs i) go

-- what nodes of one type make, from what files hold, the texts of the parameters, and the inputs
abbrev pub Maker : Type 0
Maker = FileMap → List (List ℕ) → List (Option Geo) → Outcome

-- The table of types; None where a type is none of these.
abbrev pub maker_of : NodeType → Option Maker
maker_of type.File = Some (λ files parms inputs. file_geo (files (parm_at parms 0)))
maker_of type.Add = Some (λ files parms inputs. add_geo parms (input_at inputs 0))
maker_of type.Line = Some (λ files parms inputs. line_geo parms)
maker_of type.Grid = Some (λ files parms inputs. grid_geo parms)
maker_of type.Box = Some (λ files parms inputs. box_geo parms)
maker_of type.Null = Some (λ files parms inputs. with_input inputs 0 Ok)
maker_of type.Switch = Some (λ files parms inputs. needing (count_in (parm_at parms 0)) (input_at inputs 0) Ok)
maker_of type.Xform = Some (λ files parms inputs. with_input inputs 0 (xform_geo parms))
maker_of type.AttribCreate = Some (λ files parms inputs. with_input inputs 0 (attrib_create_geo parms))
maker_of type.AttribDelete = Some (λ files parms inputs. with_input inputs 0 (attrib_delete_geo parms))
maker_of type.Enumerate = Some (λ files parms inputs. with_input inputs 0 (enumerate_geo parms))
maker_of other = None

abbrev pub is_basic : NodeType → Bool
is_basic node_type = is_some (maker_of node_type)

abbrev pub made_by : Option Maker → Maker
made_by None files parms inputs = Err NotYet
made_by (Some maker) files parms inputs = maker files parms inputs

-- what a node gives
abbrev pub basic_geo : FileMap → NodeType → List (List ℕ) → List (Option Geo) → Outcome
basic_geo files node_type parms inputs = limited (made_by (maker_of node_type) files parms inputs)
