-- Steps of these nodes: inputs appended, and a group made sure of. For private contracts.
use Rattle.std.specs.Prelude.{◌≡◌, ◌≢◌, ℕ, List, Option, None, Some, Result, Ok, Err, IfSome, IsSomeAnd}
use Rattle.sop_model.specs.declared.class.Class.{Class}
use Rattle.sop_model.specs.declared.geo.Geo.{Geo}
use Rattle.sop_model.specs.declared.fault.Fault.TheVariants as fault
use Rattle.sop_model.specs.declared.fault.CookStop.{CookStop}
use Rattle.sop_model.specs.declared.fault.CookStop.TheVariants as stop
use Rattle.sop_model.specs.Geometry.{IsSound}
use Rattle.sop_model.specs.Appending.{appended}
use Rattle.sop_model.specs.Rows.{group_named}
use Rattle.sop_vault.specs.Keyed.{at}
use Rattle.sop_vault.specs.Vaults.{VaultMap, Changed}
use Rattle.sop_vault.specs.Refusals.{PassesLimit}
use Rattle.sop_basic.specs.Making.{Touched}

-- an input behind a geometry, where it has one
abbrev pub behind : Geo → Option Geo → Geo
behind a None = a
behind a (Some b) = appended a b

-- a geometry that is well made, but that primitives may lack vertices, at another key than this
abbrev pub IsInput : VaultMap → ℕ → Option ℕ → Type 0
IsInput v key input = IfSome input (λ from. (from ≢ key) × IsSomeAnd (at v.geos from) IsSound)

-- The geometry that has the group stands at the key now, and the group has this number; or it passes a limit.
abbrev pub FindsGroup : VaultMap → VaultMap → ℕ → Class → List ℕ → Geo → Result ℕ CookStop → Type 0
FindsGroup old new key class name g (Ok number) = Changed old new key (Some g) × (group_named g class name ≡ Some number)
FindsGroup old new key class name g (Err (stop.Fault f)) = (f ≡ fault.Limit) × PassesLimit g × Touched old new key
FindsGroup old new key class name g (Err stop.Memory) = Touched old new key
