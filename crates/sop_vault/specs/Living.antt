-- What stays in a vault, whatever a call answers.
use Rattle.std.specs.Prelude.{ℕ}
use Rattle.sop_vault.specs.Keyed.{Keyed, IsLive}

-- each key that has something still has something
abbrev pub StayLive : {X : Type 0} → Keyed X → Keyed X → Type 0
StayLive old new = (key : ℕ) → IsLive old key → IsLive new key
