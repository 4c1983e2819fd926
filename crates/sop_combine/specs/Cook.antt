-- A combining node over a vault: which inputs must be given.
use Rattle.std.specs.Prelude.{◌≡◌, ℕ, Bool, true, false, List, slice_get, Option, Some}
use Rattle.sop_net.specs.declared.node_type.NodeType.{NodeType}
use Rattle.sop_net.specs.declared.node_type.NodeType.TheVariants as type

-- a key is given for the input of this number
abbrev pub IsGivenAt : List (Option ℕ) → ℕ → Type 0
IsGivenAt keys i = (key : ℕ) × (slice_get keys i ≡ Some (Some key))

-- whether a node needs its first input
abbrev pub needs_input : NodeType → Bool
needs_input type.Blast = true
needs_input type.GroupCreate = true
needs_input other = false
