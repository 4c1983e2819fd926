-- A cook that runs. For private contracts.
use Rattle.std.specs.Prelude.{◌≡◌, ℕ, List}
use Rattle.sop_net.specs.declared.node.Node.{Node}
use Rattle.sop_vault.specs.Vaults.{VaultMap}
use Rattle.sop_cook.specs.declared.serial.Cooking.{Cooking}
use Rattle.sop_basic.specs.Loads.{file_in}
use Rattle.sop_cook.specs.Visit.{Outcome}
use Rattle.sop_cook.specs.SerialCook.{cook_of}
use Rattle.sop_cook.specs.Keys.{keys_in}
use Rattle.sop_cook.specs.Parts.{IsKept}

abbrev pub nodes_of : Cooking → List Node
nodes_of c = c.net.now.nodes

-- the keys that it keeps
abbrev pub keys_of : Cooking → List ℕ
keys_of c = keys_in c.kept.keys.items

-- what node x gives in it
abbrev pub gives : Cooking → ℕ → Outcome
gives c x = cook_of (file_in c.loaded.now) c.net.now.nodes x

-- what it kept is what the nodes give
abbrev pub IsRunning : VaultMap → Cooking → Type 0
IsRunning v c = IsKept v (gives c) (nodes_of c) c.kept

-- it went on: over the same network and the same loads, and what it kept is what the nodes give
pub record RunsOn (old : Cooking) (v : VaultMap) (new : Cooking) : Type 0 where
  pub net : new.net.now ≡ old.net.now
  pub loaded : new.loaded.now ≡ old.loaded.now
  pub running : IsRunning v new
