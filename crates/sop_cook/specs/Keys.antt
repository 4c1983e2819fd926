-- Keys of a vault as what stands at them. For private contracts.
use Rattle.std.specs.Prelude.{ℕ, List, [], ◌∷◌, Option, Result, Ok, Err, map, option_map, flat_map, option_to_list, IsSomeAnd}
use Rattle.sop_model.specs.declared.geo.Geo.{Geo}
use Rattle.sop_vault.specs.Keyed.{at}
use Rattle.sop_vault.specs.Vaults.{VaultMap}
use Rattle.sop_cook.specs.Ends.{geo_at, IsReady}

-- inputs by their keys, as geometries
abbrev pub inputs_at : VaultMap → List (Option ℕ) → List (Option Geo)
inputs_at v keys = map (option_map (geo_at v)) keys

-- the keys that are there
abbrev pub keys_in : List (Option ℕ) → List ℕ
keys_in keys = flat_map option_to_list keys

-- the key of an answer
abbrev pub key_of : {E : Type 0} → Result ℕ E → List ℕ
key_of (Ok key) = key ∷ []
key_of (Err e) = []

-- a ready geometry stands at the key
abbrev pub IsReadyAt : VaultMap → ℕ → Type 0
IsReadyAt v key = IsSomeAnd (at v.geos key) IsReady
