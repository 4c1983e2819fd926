-- What the parts of a cook ensure, and what a cook keeps of finished nodes. For private contracts.
use Rattle.std.specs.Prelude.{◌≡◌, ℕ, ⊤, List, [], ◌∷◌, Option, Some, Result, Ok, Err, length, None, slice_get, slice_set, IsSome, IsSomeAnd, IsTrue}
use Rattle.sop_model.specs.declared.geo.Geo.{Geo}
use Rattle.sop_model.specs.declared.fault.Fault as fault
use Rattle.sop_model.specs.declared.fault.CookStop.{CookStop}
use Rattle.sop_model.specs.declared.fault.CookStop.TheVariants as stop
use Rattle.sop_vault.specs.Keyed.{at}
use Rattle.sop_vault.specs.Vaults.{VaultMap}
use Rattle.sop_net.specs.declared.node.Node.{Node}
use Rattle.sop_net.specs.Network.{place_of}
use Rattle.sop_net.specs.Sockets.{Socket}
use Rattle.sop_cook.specs.declared.cook_end.CookEnd.{CookEnd}
use Rattle.sop_cook.specs.declared.cook_end.CookEnd.TheVariants as end
use Rattle.sop_cook.specs.declared.kept.Kept.{Kept}
use Rattle.sop_cook.specs.Visit.{Outcome, failed, Visit}
use Rattle.sop_cook.specs.SerialCook.{run}
use Rattle.sop_cook.specs.Ends.{IsReady}

-- the code answers exactly what one node makes, or want of memory
abbrev pub TellsMade : Result Geo fault.Fault → Result Geo CookStop → Type 0
TellsMade outcome (Ok g) = outcome ≡ Ok g
TellsMade outcome (Err (stop.Fault f)) = outcome ≡ Err f
TellsMade outcome (Err stop.Memory) = ⊤

-- what is asked goes on with this answer, whatever is then done with it
abbrev pub GoesOn : {A : Type 0} → (ℕ → Outcome) → ((A → Visit) → Visit) → A → Type 0
GoesOn {A} go asks answer = (more : A → Visit) → run go (asks more) ≡ run go (more answer)

-- what is asked ends so, whatever would then be done
abbrev pub EndsSo : {A : Type 0} → (ℕ → Outcome) → ((A → Visit) → Visit) → CookEnd → Type 0
EndsSo {A} go asks (end.Fault x f) = (more : A → Visit) → run go (asks more) ≡ Err (failed x f)
EndsSo {A} go asks end.Memory = ⊤

-- what stands at each kept key is what its node gives
pub record IsKept (v : VaultMap) (go : ℕ → Outcome) (nodes : List Node) (kept : Kept) : Type 0 where
  pub uses : length kept.uses.items ≡ length nodes
  pub places : length kept.keys.items ≡ length nodes
  pub geos : (x place key : ℕ) → place_of nodes x ≡ Some place → slice_get kept.keys.items place ≡ Some (Some key) → IsSomeAnd (at v.geos key) (λ g. (go x ≡ Ok g) × IsReady g)

-- so many places, and none has a key
pub record AreNone (count : ℕ) (keys : List (Option ℕ)) : Type 0 where
  pub places : length keys ≡ count
  pub none : (x key : ℕ) → slice_get keys x ≡ Some (Some key) → ⊥

-- a key is kept at place x, where none was, and stands for this
pub record IsShareKept (v : VaultMap) (old : List (Option ℕ)) (x : ℕ) (g : Option Geo) (new : List (Option ℕ)) : Type 0 where
  pub key : ℕ
  pub here : at v.geos key ≡ g
  pub was : slice_get old x ≡ Some None
  pub now : new ≡ slice_set old x (Some key)

-- a key for each socket, but that an input that isn't needed may have none
abbrev pub AreFilled : List Socket → List (Option ℕ) → Type 0
AreFilled [] [] = ⊤
AreFilled [] (key ∷ keys) = ⊥
AreFilled (s ∷ sockets) [] = ⊥
AreFilled (s ∷ sockets) (key ∷ keys) = (IsTrue s.is_needed → IsSome key) × AreFilled sockets keys
