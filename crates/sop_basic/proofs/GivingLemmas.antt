-- What a node leaves in a vault, as runs of calls of a vault are told.
use Rattle.std.proofs.Common.{◌≡◌, ℕ, [], ◌∷◌, arith}
use Rattle.std.specs.Prelude.{Some, Result, Ok, Err, OnErr}
use Rattle.sop_model.specs.declared.geo.Geo.{Geo}
use Rattle.sop_model.specs.declared.fault.CookStop.{CookStop}
use Rattle.sop_model.specs.declared.fault.CookStop.TheVariants as stop
use Rattle.sop_vault.specs.Keyed.{at}
use Rattle.sop_vault.specs.Vaults.{VaultMap, HoldsAsBefore, IsVault}
use Rattle.sop_vault.specs.Passing.{Passes, Owns}
use Rattle.sop_vault.proofs.PassLemmas.{passes_added, owns_one, before_from}
use Rattle.sop_basic.specs.Outcomes.{Outcome}
use Rattle.sop_basic.specs.Making.{IsKept, Gives}
use Rattle.sop_basic.proofs.MakingLemmas.{live_of}

pub passes_kept : (old new : VaultMap) → IsKept old new → Passes old [] new []
passes_kept old new kept = record {
  others = λ k x y. kept.geos k;
  held = λ k x y live. kept.held k live;
  came = λ k x y. absurd (omega arith);
  went = λ k x y. absurd (omega arith);
  names = kept.names;
}

-- what stopped
pub kept_of : (old new : VaultMap) (outcome : Outcome) (s : CookStop) → Gives old new outcome (Err s) → IsKept old new
kept_of old new outcome (stop.Fault f) (is, kept) = kept
kept_of old new outcome stop.Memory kept = kept

pub passes_stopped : (old new : VaultMap) (outcome : Outcome) (s : CookStop) → Gives old new outcome (Err s) → Passes old [] new []
passes_stopped old new outcome s gives = passes_kept old new (kept_of old new outcome s gives)

-- what was made
pub passes_made : (old new : VaultMap) (outcome : Outcome) (key : ℕ) → Gives old new outcome (Ok key) → Passes old [] new (key ∷ [])
passes_made old new outcome key (g, is, added) = passes_added old new key (Some g) added

pub owns_made : (old new : VaultMap) (outcome : Outcome) (key : ℕ) → Gives old new outcome (Ok key) → Owns new (key ∷ [])
owns_made old new outcome key (g, is, added) = owns_one new key (live_of new key g added.geos.here)

pub there_made : (old new : VaultMap) (outcome : Outcome) (key : ℕ) → Gives old new outcome (Ok key) → (g : Geo) × (outcome ≡ Ok g) × (at new.geos key ≡ Some g)
there_made old new outcome key (g, is, added) = (g, is, added.geos.here)

-- no page came where the node stopped
pub as_before : (old new : VaultMap) (outcome : Outcome) (r : Result ℕ CookStop) → IsVault old → IsVault new → Gives old new outcome r → OnErr r (HoldsAsBefore old new)
as_before old new outcome (Ok key) is now gives = tt
as_before old new outcome (Err s) is now gives = before_from old new is now (passes_stopped old new outcome s gives)
