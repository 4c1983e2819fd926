-- The inputs of a node as the geometries at their keys.
use Rattle.std.proofs.Common.{◌≡◌, ℕ, List, [], ◌∷◌, refl, sym, ap, ◌∙◌, subst}
use Rattle.std.specs.Prelude.{true, false, IsTrue, Option, None, Some, Result, IfSome, slice_get}
use Rattle.std.specs.Option.{option_and_then, option_map}
use Rattle.std.proofs.lemmas.List.Elements.{All-head}
use Rattle.std.proofs.lemmas.Option.{slice_get-map}
use Rattle.sop_model.specs.declared.geo.Geo.{Geo}
use Rattle.sop_model.specs.declared.fault.CookStop.{CookStop}
use Rattle.sop_net.specs.declared.node_type.NodeType.{NodeType}
use Rattle.sop_vault.specs.Keyed.{at, IsLive}
use Rattle.sop_vault.specs.Vaults.{VaultMap}
use Rattle.sop_basic.specs.Basic.{input_at, needing}
use Rattle.sop_basic.specs.Outcomes.{Outcome, limited}
use Rattle.sop_basic.specs.Making.{Gives}
use Rattle.sop_basic.proofs.MakingLemmas.{there_is}
use Rattle.sop_basic.specs.Cook.{inputs_seen, hands_on, AreLive}

pub given_live : (v : VaultMap) (keys : List (Option ℕ)) (key : ℕ) → AreLive v keys → slice_get keys 0 ≡ Some (Some key) → IsLive v.geos key
given_live v [] key live given = absurd (cc)
given_live v (k ∷ keys) key live given =
    let same : k ≡ Some key = cc in
    subst (λ o. IfSome o (IsLive v.geos)) same (All-head (λ input. IfSome input (IsLive v.geos)) k keys live)

pub seen_at : (v : VaultMap) (keys : List (Option ℕ)) (key : ℕ) (g : Geo) → slice_get keys 0 ≡ Some (Some key) → at v.geos key ≡ Some g → input_at (inputs_seen v keys) 0 ≡ Some g
seen_at v keys key g given there =
    ap (option_and_then (λ g. g)) (slice_get-map (option_and_then (at v.geos)) keys 0 ∙ ap (option_map (option_and_then (at v.geos))) given ∙ ap Some there)

-- the first input, where there is one
abbrev first_of : List (Option ℕ) → Option ℕ
first_of keys = option_and_then (λ key. key) (slice_get keys 0)

live_first : (v : VaultMap) (keys : List (Option ℕ)) → AreLive v keys → IfSome (first_of keys) (IsLive v.geos)
live_first v [] live = tt
live_first v (k ∷ keys) live = All-head (λ input. IfSome input (IsLive v.geos)) k keys live

pub first_live : (v : VaultMap) (keys : List (Option ℕ)) (first : Option ℕ) → AreLive v keys → first ≡ first_of keys → IfSome first (IsLive v.geos)
first_live v keys first live is = subst (λ o. IfSome o (IsLive v.geos)) (sym is) (live_first v keys live)

first_seen : (v : VaultMap) (keys : List (Option ℕ)) → input_at (inputs_seen v keys) 0 ≡ option_and_then (at v.geos) (first_of keys)
first_seen v [] = refl
first_seen v (None ∷ keys) = refl
first_seen v (Some key ∷ keys) = same (at v.geos key)
  where
    same : (o : Option Geo) → option_and_then (λ g. g) (Some o) ≡ o
    same None = refl
    same (Some g) = refl

pub seen_first : (v : VaultMap) (keys : List (Option ℕ)) (first : Option ℕ) → first ≡ first_of keys → input_at (inputs_seen v keys) 0 ≡ option_and_then (at v.geos) first
seen_first v keys first is = first_seen v keys ∙ ap (option_and_then (at v.geos)) (sym is)

-- goes on with the geometry of the first input, whatever its number
pub gives_input : (v new : VaultMap) (keys : List (Option ℕ)) (number key : ℕ) (go : Geo → Outcome) (r : Result ℕ CookStop) → AreLive v keys → slice_get keys 0 ≡ Some (Some key)
    → ((g : Geo) → at v.geos key ≡ Some g → Gives v new (limited (go g)) r) → Gives v new (limited (needing number (input_at (inputs_seen v keys) 0) go)) r
gives_input v new keys number key go r live given gives =
    let (g, there) = there_is (at v.geos key) (given_live v keys key live given) in
    subst (λ o. Gives v new (limited (needing number o go)) r) (sym (seen_at v keys key g given there)) (gives g there)

-- nothing is asked of a node of another type
pub not_handed : {P : Type 0} (node known : NodeType) → node ≡ known → hands_on known ≡ false → IsTrue (hands_on node) → P
not_handed node known is other handed =
    let both : true ≡ false = sym handed ∙ ap hands_on is ∙ other in
    absurd (cc)
