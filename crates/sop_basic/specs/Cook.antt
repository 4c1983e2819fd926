-- A basic node over a vault: its inputs as the geometries at their keys, what must be given, and when they are well made.
use Rattle.std.specs.Prelude.{◌≡◌, ℕ, Bool, true, false, List, map, All, slice_get, Option, Some, IfSome, IsSomeAnd}
use Rattle.std.specs.Option.{option_and_then}
use Rattle.sop_model.specs.declared.geo.Geo.{Geo}
use Rattle.sop_model.specs.Geometry.{IsGood}
use Rattle.sop_net.specs.declared.node_type.NodeType.{NodeType}
use Rattle.sop_net.specs.declared.node_type.NodeType.TheVariants as type
use Rattle.sop_vault.specs.Keyed.{at, IsLive}
use Rattle.sop_vault.specs.Vaults.{VaultMap}

-- what stands at the keys of the inputs
abbrev pub inputs_seen : VaultMap → List (Option ℕ) → List (Option Geo)
inputs_seen v keys = map (option_and_then (at v.geos)) keys

-- whether a node needs its input
abbrev pub needs_input : NodeType → Bool
needs_input type.Null = true
needs_input type.Switch = true
needs_input type.Xform = true
needs_input type.AttribCreate = true
needs_input type.AttribDelete = true
needs_input type.Enumerate = true
needs_input other = false

-- whether a node hands on the geometry of its input as it is
abbrev pub hands_on : NodeType → Bool
hands_on type.Null = true
hands_on type.Switch = true
hands_on other = false

-- a key is given for the first input
abbrev pub IsGiven : List (Option ℕ) → Type 0
IsGiven keys = (key : ℕ) × (slice_get keys 0 ≡ Some (Some key))

-- a geometry stands at each key that is given
abbrev pub AreLive : VaultMap → List (Option ℕ) → Type 0
AreLive v keys = All (λ input. IfSome input (IsLive v.geos)) keys

-- a well made geometry stands at each key that is given
abbrev pub AreGoodAt : VaultMap → List (Option ℕ) → Type 0
AreGoodAt v keys = All (λ input. IfSome input (λ key. IsSomeAnd (at v.geos key) IsGood)) keys
