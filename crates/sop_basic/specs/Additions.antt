-- Points and a primitive that come to what is there: steps that may pass a limit. For private contracts.
use Rattle.std.specs.Prelude.{◌≡◌, ℕ, Some, Result, Ok, Err}
use Rattle.sop_model.specs.declared.geo.Geo.{Geo}
use Rattle.sop_model.specs.declared.fault.Fault.TheVariants.{Limit}
use Rattle.sop_model.specs.declared.fault.CookStop.{CookStop}
use Rattle.sop_model.specs.declared.fault.CookStop.TheVariants as stop
use Rattle.sop_vault.specs.Vaults.{VaultMap, Changed}
use Rattle.sop_vault.specs.Refusals.{PassesLimit}
use Rattle.sop_basic.specs.Making.{Touched}

-- A step at a key: this geometry stands there now, or it passes a limit, or memory was wanting.
abbrev pub Extends : VaultMap → VaultMap → ℕ → Geo → Result (Unit {0}) CookStop → Type 0
Extends old new key g (Ok done) = Changed old new key (Some g)
Extends old new key g (Err (stop.Fault f)) = (f ≡ Limit) × PassesLimit g × Touched old new key
Extends old new key g (Err stop.Memory) = Touched old new key
