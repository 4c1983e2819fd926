-- The four commands of a network, by their words: what each does to a network.
use Rattle.std.specs.Prelude.{ℕ, ◌%◌, Bool, ◌&&◌, if◌then◌else◌, nat_le, ◌==◌, List, [], ◌∷◌, length, Option, None, Some, Result, Ok, Err, codes, bytes_eq}
use Rattle.sop_net.specs.declared.net_end.NetEnd.{NetEnd}
use Rattle.sop_net.specs.declared.net_end.NetEnd.TheVariants as end
use Rattle.sop_net.specs.Network.{Network}
use Rattle.sop_net.specs.Steps.{added_node, set_node, wired_node, removed_node}
use Rattle.hscript_text.specs.declared.refusal.ScriptKind.{ScriptKind}
use Rattle.hscript_text.specs.declared.refusal.ScriptKind.TheVariants as refused
use Rattle.hscript_text.specs.declared.verb.Verb.{Verb}
use Rattle.hscript_text.specs.declared.verb.Verb.TheVariants.{OpAdd, OpParm, OpWire, OpRm}

abbrev pub Step : Type 0
Step = Result Network ScriptKind

-- A refusal of the network is told by its name. None is for want of memory.
abbrev pub refusal_of : NetEnd → ScriptKind
refusal_of end.BadName = refused.BadName
refusal_of end.NameTaken = refused.NameTaken
refusal_of end.NoType = refused.NoType
refusal_of end.Limit = refused.Limit
refusal_of end.NoNode = refused.NoNode
refusal_of end.NoParm = refused.NoParm
refusal_of end.BadValue = refused.BadValue
refusal_of end.BadInput = refused.BadInput
refusal_of end.Cycle = refused.Cycle
refusal_of end.Memory = refused.Limit

abbrev pub told : Result Network NetEnd → Step
told (Ok net) = Ok net
told (Err end) = Err (refusal_of end)

-- `opadd TYPE NAME` adds a node.
abbrev pub op_add : Network → List (List ℕ) → Step
op_add net (type ∷ name ∷ []) = told (added_node net type name)
op_add net words = Err refused.BadArgs

-- at least one parameter, each with a value
abbrev pub are_pairs : List (List ℕ) → Bool
are_pairs words = nat_le 2 (length words) && (length words % 2 == 0)

-- `opparm NODE PARM VALUE ..` sets parameters of a node.
abbrev pub op_parm : Network → List (List ℕ) → Step
op_parm net [] = Err refused.BadArgs
op_parm net (node ∷ pairs) = if are_pairs pairs then told (set_node net node pairs) else Err refused.BadArgs

-- `opwire NODE INDEX SOURCE` wires a node into an input of another.
abbrev pub op_wire : Network → List (List ℕ) → Step
op_wire net (node ∷ index ∷ source ∷ []) = told (wired_node net node index source)
op_wire net words = Err refused.BadArgs

-- `oprm NODE` removes a node.
abbrev pub op_rm : Network → List (List ℕ) → Step
op_rm net (node ∷ []) = told (removed_node net node)
op_rm net words = Err refused.BadArgs

abbrev pub verb_of : List ℕ → Option Verb
verb_of word =
    if bytes_eq word (codes "opadd") then Some OpAdd
    else if bytes_eq word (codes "opparm") then Some OpParm
    else if bytes_eq word (codes "opwire") then Some OpWire
    else if bytes_eq word (codes "oprm") then Some OpRm
    else None

abbrev pub done : Option Verb → Network → List (List ℕ) → Step
done None net words = Err refused.BadCommand
done (Some OpAdd) net words = op_add net words
done (Some OpParm) net words = op_parm net words
done (Some OpWire) net words = op_wire net words
done (Some OpRm) net words = op_rm net words

-- A command begins with the word that names it.
abbrev pub carried_out : Network → List (List ℕ) → Step
carried_out net [] = Err refused.BadCommand
carried_out net (verb ∷ words) = done (verb_of verb) net words
