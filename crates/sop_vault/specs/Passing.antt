-- What a run of calls leaves that has some keys of its own before, and some after.
use Rattle.std.specs.Prelude.{◌≡◌, ℕ, ◌≤◌, List, None}
use Rattle.sop_pages.specs.Moves.{times}
use Rattle.sop_columns.specs.Names.{Grows}
use Rattle.sop_vault.specs.Keyed.{at, IsLive}
use Rattle.sop_vault.specs.Vaults.{VaultMap}

-- every other key stands for what it stood for and holds the pages that it held; a key that came was free before, and one that went is free
pub record Passes (old : VaultMap) (before : List ℕ) (new : VaultMap) (after : List ℕ) : Type 0 where
  pub others : (k : ℕ) → times k before ≡ 0 → times k after ≡ 0 → at new.geos k ≡ at old.geos k
  pub held : (k : ℕ) → times k before ≡ 0 → times k after ≡ 0 → IsLive old.geos k → at new.held k ≡ at old.held k
  pub came : (k : ℕ) → times k before ≡ 0 → 1 ≤ times k after → at old.geos k ≡ None
  pub went : (k : ℕ) → 1 ≤ times k before → times k after ≡ 0 → at new.geos k ≡ None
  pub names : Grows old.names new.names

-- each of the keys is there once, and a geometry stands at it
pub record Owns (v : VaultMap) (keys : List ℕ) : Type 0 where
  pub once : (k : ℕ) → times k keys ≤ 1
  pub live : (k : ℕ) → 1 ≤ times k keys → IsLive v.geos k
