-- The values of an attribute set one element after the other, and an attribute made sure of. For private contracts.
use Rattle.std.specs.Prelude.{◌≡◌, ℕ, suc, Bool, true, false, pos, List, [], ◌∷◌, Option, None, Some, Result, Ok, Err, ⊤}
use Rattle.sop_model.specs.declared.class.Class.{Class}
use Rattle.sop_model.specs.declared.geo.Geo.{Geo}
use Rattle.sop_model.specs.declared.geo.Row.{Row}
use Rattle.sop_model.specs.declared.geo.Head.{Head}
use Rattle.sop_model.specs.declared.fault.CookStop.{CookStop}
use Rattle.sop_model.specs.declared.fault.CookStop.TheVariants as stop
use Rattle.sop_model.specs.declared.fault.Fault.TheVariants.{BadParm, Limit}
use Rattle.sop_model.specs.declared.value.Value.{Value}
use Rattle.sop_model.specs.declared.value.Value.TheVariants as value
use Rattle.sop_model.specs.Geometry.{rows_of}
use Rattle.sop_model.specs.Rows.{with_value, with_rows, kind_at, head_named}
use Rattle.sop_vault.specs.Vaults.{VaultMap, Changed}
use Rattle.sop_vault.specs.Refusals.{PassesLimit}
use Rattle.sop_basic.specs.declared.filling.Filling.{Filling}
use Rattle.sop_basic.specs.declared.filling.Filling.TheVariants.{Same, Counted}
use Rattle.sop_basic.specs.Making.{Touched}

-- the value of the selected element of a number, counted among the selected
abbrev pub filled_with : Filling → ℕ → Value
filled_with (Same v) i = v.now
filled_with Counted i = value.Int (pos i)

-- rows with values under a head where they are selected, the first of which is the value of the number k
abbrev pub rows_filled : (ℕ → Value) → ℕ → ℕ → List Bool → List Row → List Row
rows_filled values head k [] rows = rows
rows_filled values head k (on ∷ flags) [] = []
rows_filled values head k (true ∷ flags) (row ∷ rows) = with_value head (values k) row ∷ rows_filled values head (suc k) flags rows
rows_filled values head k (false ∷ flags) (row ∷ rows) = row ∷ rows_filled values head k flags rows

abbrev pub filled : (ℕ → Value) → Class → ℕ → List Bool → Geo → Geo
filled values class head flags g = with_rows g class (rows_filled values head 0 flags (rows_of g class))

-- the attribute of this name and kind has this number
pub record IsHeadAt (g : Geo) (class : Class) (head : Head) (number : ℕ) : Type 0 where
  pub named : head_named g class head.name ≡ Some number
  pub kind : kind_at g class number ≡ Some head.kind

-- The geometry that has the attribute stands at the key now, and the attribute has this number; or it passes a limit.
abbrev pub Finds : VaultMap → VaultMap → ℕ → Class → Head → Geo → Result ℕ CookStop → Type 0
Finds old new key class head g (Ok number) = Changed old new key (Some g) × IsHeadAt g class head number
Finds old new key class head g (Err (stop.Fault f)) = (f ≡ Limit) × PassesLimit g × Touched old new key
Finds old new key class head g (Err stop.Memory) = Touched old new key

-- what the code reads of parameters that may not fit
abbrev pub ReadsValue : Option Value → Result Value CookStop → Type 0
ReadsValue told (Ok v) = told ≡ Some v
ReadsValue told (Err (stop.Fault f)) = (told ≡ None) × (f ≡ BadParm)
ReadsValue told (Err stop.Memory) = ⊤
