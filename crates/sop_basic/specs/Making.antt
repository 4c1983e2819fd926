-- What a call does to the geometries of a vault: what steps make of the geometry at a new key, and what is left where they stop. For private
-- contracts, but for `Gives`.
use Rattle.std.specs.Prelude.{◌≡◌, ◌≢◌, ℕ, ◌≤◌, List, [], length, Some, Result, Ok, Err}
use Rattle.sop_fixed.specs.declared.vec3.Vec3.{Vec3}
use Rattle.sop_model.specs.Limits.{most_points}
use Rattle.sop_model.specs.declared.geo.Geo.{Geo}
use Rattle.sop_model.specs.declared.fault.Fault.TheVariants.{Limit}
use Rattle.sop_model.specs.declared.fault.CookStop.{CookStop}
use Rattle.sop_model.specs.declared.fault.CookStop.TheVariants as stop
use Rattle.sop_columns.specs.Names.{Grows}
use Rattle.sop_vault.specs.declared.vault_end.VaultEnd.{VaultEnd}
use Rattle.sop_vault.specs.declared.vault_end.VaultEnd.TheVariants as end
use Rattle.sop_vault.specs.Keyed.{at, IsLive, AreSame}
use Rattle.sop_vault.specs.Vaults.{VaultMap, Changed, Added}
use Rattle.sop_basic.specs.Outcomes.{Outcome, limited, within_limits}
use Rattle.sop_basic.specs.Shapes.{shape}

-- no key but this one changed, nor its pages, and a geometry still stands at it
pub record Touched (old new : VaultMap) (key : ℕ) : Type 0 where
  pub live : IsLive new.geos key
  pub geos : (other : ℕ) → other ≢ key → at new.geos other ≡ at old.geos other
  pub held : (other : ℕ) → other ≢ key → at new.held other ≡ at old.held other
  pub names : Grows old.names new.names

-- A step at a key: its geometry is the outcome now, or the step stopped with the outcome's fault, or for want of memory.
abbrev pub Makes : VaultMap → VaultMap → ℕ → Outcome → Result (Unit {0}) CookStop → Type 0
Makes old new key outcome (Ok done) = (g : Geo) × (outcome ≡ Ok g) × Changed old new key (Some g)
Makes old new key outcome (Err (stop.Fault f)) = (outcome ≡ Err f) × Touched old new key
Makes old new key outcome (Err stop.Memory) = Touched old new key

-- The same where the limits of the outcome's geometry are still to be judged: a step may stop at Limit before.
abbrev pub Prepares : VaultMap → VaultMap → ℕ → Outcome → Result (Unit {0}) CookStop → Type 0
Prepares old new key outcome (Ok done) = (g : Geo) × (outcome ≡ Ok g) × Changed old new key (Some g)
Prepares old new key outcome (Err (stop.Fault f)) = (limited outcome ≡ Err f) × Touched old new key
Prepares old new key outcome (Err stop.Memory) = Touched old new key

-- every key stands for what it stood for, and holds the pages that it held; only names may have come
pub record IsKept (old new : VaultMap) : Type 0 where
  pub geos : AreSame old.geos new.geos
  pub held : (key : ℕ) → IsLive old.geos key → at new.held key ≡ at old.held key
  pub names : Grows old.names new.names

-- A node: a new key has the outcome's geometry, or the node ends with the outcome's fault, or for want of memory; no other key changes.
abbrev pub Gives : VaultMap → VaultMap → Outcome → Result ℕ CookStop → Type 0
Gives old new outcome (Ok key) = (g : Geo) × (outcome ≡ Ok g) × Added old new key (Some g)
Gives old new outcome (Err (stop.Fault f)) = (outcome ≡ Err f) × IsKept old new
Gives old new outcome (Err stop.Memory) = IsKept old new

-- what the end of a call of a vault is at a node
abbrev pub stop_of : VaultEnd → CookStop
stop_of end.Limit = stop.Fault Limit
stop_of other = stop.Memory

-- the limits of the geometry at a key are kept, or they aren't
abbrev pub Judges : Geo → Result (Unit {0}) CookStop → Type 0
Judges g (Ok done) = within_limits g ≡ Ok g
Judges g (Err (stop.Fault f)) = within_limits g ≡ Err f
Judges g (Err stop.Memory) = ⊥

-- points alone stand at a key, at most as many as there may be
pub record HasPoints (v : VaultMap) (key : ℕ) : Type 0 where
  pub places : List Vec3
  pub there : at v.geos key ≡ Some (shape places [])
  pub few : length places ≤ most_points
