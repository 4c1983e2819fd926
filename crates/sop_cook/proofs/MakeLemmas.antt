-- What a node does to a vault, as a cook sees it.
use Rattle.std.proofs.Common.{◌≡◌, ℕ, ◌<◌, Bool, true, false, List, [], ◌∷◌, length, refl, sym, ◌∙◌, ap, subst, arith, ◌||◌, if◌then◌else◌}
use Rattle.std.specs.Prelude.{All, IfOk, IfSome, IsSome, IsSomeAnd, IsTrue, Option, None, Some, Result, Ok, Err, option_map, unwrap_or}
use Rattle.std.specs.Option.{option_and_then}
use Rattle.std.proofs.lemmas.List.Elements.{All-head, All-tail, All-weaker}
use Rattle.sop_model.specs.declared.geo.Geo.{Geo}
use Rattle.sop_model.specs.declared.fault.CookStop.{CookStop}
use Rattle.sop_model.specs.declared.fault.CookStop.TheVariants as stop
use Rattle.sop_model.specs.Geometry.{empty_geo, IsGood, Fits}
use Rattle.sop_net.specs.declared.node_type.NodeType.{NodeType}
use Rattle.sop_net.specs.declared.node_type.NodeType.TheVariants as type
use Rattle.sop_net.specs.declared.node.Node.{Node}
use Rattle.sop_net.specs.NodeTable.{inputs_of}
use Rattle.sop_net.specs.Network.{IsNodeOf, wires_used_by}
use Rattle.sop_net.specs.Sockets.{sockets_from, first_used, needs_inputs, sockets_of}
use Rattle.sop_vault.specs.Keyed.{at, IsLive}
use Rattle.sop_vault.specs.Vaults.{VaultMap}
use Rattle.sop_vault.specs.Passing.{Passes, Owns}
use Rattle.sop_vault.proofs.PassLemmas.{passes_added, owns_one, owns_none}
use Rattle.sop_basic.specs.Loads.{FileMap}
use Rattle.sop_basic.specs.Outcomes.{Outcome}
use Rattle.sop_basic.specs.Making.{Gives, IsKept}
use Rattle.sop_basic.specs.Basic.{is_basic, basic_geo}
use Rattle.sop_basic.specs.Basic as table
use Rattle.sop_basic.specs.Cook as basic
use Rattle.sop_basic.specs.Cook.{needs_input, IsGiven, AreLive, AreGoodAt}
use Rattle.sop_cook.specs.Ends.{IsReady, geo_at, seen}
use Rattle.sop_cook.specs.Keys.{inputs_at, key_of, IsReadyAt}
use Rattle.sop_combine.specs.Combine.{is_combining, combine_geo}
use Rattle.sop_combine.specs.Combine as combine_table
use Rattle.sop_combine.specs.Cook.{IsGivenAt}
use Rattle.sop_combine.specs.Cook as combine
use Rattle.sop_basic.proofs.GoodLemmas.{limited_fits}
use Rattle.sop_cook.specs.Made.{node_geo, made, is_built}
use Rattle.sop_cook.specs.Parts.{AreFilled, TellsMade}

-- THE TABLE

-- a type that is built and not combining is basic
basic_else : (combining basic : Bool) → combining || basic ≡ true → combining ≡ false → basic ≡ true
basic_else false basic built apart = built
basic_else true basic built apart = absurd (cc)

pub known_basic : (found : Option Node) (t : NodeType) → option_map (λ n. n.node_type) found ≡ Some t → IsSome found → IfSome found (λ n. IsTrue (is_built n.node_type)) → is_combining t ≡ false → IsTrue (is_basic t)
known_basic None t typed live built apart = cc
known_basic (Some n) t typed live built apart = let same : n.node_type ≡ t = cc in basic_else (is_combining t) (is_basic t) (sym (ap is_built same) ∙ built) apart

-- THE INPUTS OF A NODE

given_some : (o : Option ℕ) (keys : List (Option ℕ)) → IsSome o → IsGiven (o ∷ keys)
given_some None keys is = cc
given_some (Some key) keys is = (key, refl)

first_given : (first : ℕ) (wires keys : List (Option ℕ)) → 0 < length wires → AreFilled (sockets_from first true wires) keys → IsGiven keys
first_given first [] keys some filled = absurd (omega (arith, some))
first_given first (wire ∷ wires) [] some filled = absurd filled
first_given first (wire ∷ wires) (key ∷ keys) some filled = given_some key keys (filled.0 refl)

given_by : (t : NodeType) (n : Node) (keys : List (Option ℕ)) → length n.wires ≡ inputs_of t → AreFilled (sockets_from (first_used t n) (needs_inputs t) (wires_used_by t n)) keys → IsTrue (needs_input t) → IsGiven keys
given_by type.Null n keys long filled needs = first_given 0 n.wires keys (let one : length n.wires ≡ 1 = long in omega (arith, one)) filled
given_by type.Switch n keys long filled needs = first_given (first_used type.Switch n) (wires_used_by type.Switch n) keys (omega arith) filled
given_by type.Xform n keys long filled needs = first_given 0 n.wires keys (let one : length n.wires ≡ 1 = long in omega (arith, one)) filled
given_by type.AttribCreate n keys long filled needs = first_given 0 n.wires keys (let one : length n.wires ≡ 1 = long in omega (arith, one)) filled
given_by type.AttribDelete n keys long filled needs = first_given 0 n.wires keys (let one : length n.wires ≡ 1 = long in omega (arith, one)) filled
given_by type.Enumerate n keys long filled needs = first_given 0 n.wires keys (let one : length n.wires ≡ 1 = long in omega (arith, one)) filled
given_by other n keys long filled needs = let no : ⊥ = cc in absurd no

combined_by : (t : NodeType) (n : Node) (keys : List (Option ℕ)) → length n.wires ≡ inputs_of t → AreFilled (sockets_from (first_used t n) (needs_inputs t) (wires_used_by t n)) keys → IsTrue (combine.needs_input t) → IsGivenAt keys 0
combined_by type.Blast n keys long filled needs = first_given 0 n.wires keys (let one : length n.wires ≡ 1 = long in omega (arith, one)) filled
combined_by type.GroupCreate n keys long filled needs = first_given 0 n.wires keys (let one : length n.wires ≡ 1 = long in omega (arith, one)) filled
combined_by other n keys long filled needs = let no : ⊥ = cc in absurd no

-- a node has the input that it needs
pub known_given : (found : Option Node) (t : NodeType) (keys : List (Option ℕ)) → option_map (λ n. n.node_type) found ≡ Some t → ((n : Node) → found ≡ Some n → IsNodeOf n) → IfSome found (λ n. AreFilled (sockets_of n) keys) → IsTrue (needs_input t) → IsGiven keys
known_given None t keys typed fits filled needs = let no : ⊥ = cc in absurd no
known_given (Some n) t keys typed fits filled needs = let same : n.node_type ≡ t = cc in given_by n.node_type n keys (fits n refl).inputs filled (subst (λ k. IsTrue (needs_input k)) (sym same) needs)

pub known_combined : (found : Option Node) (t : NodeType) (keys : List (Option ℕ)) → option_map (λ n. n.node_type) found ≡ Some t → ((n : Node) → found ≡ Some n → IsNodeOf n) → IfSome found (λ n. AreFilled (sockets_of n) keys) → IsTrue (combine.needs_input t) → IsGivenAt keys 0
known_combined None t keys typed fits filled needs = let no : ⊥ = cc in absurd no
known_combined (Some n) t keys typed fits filled needs = let same : n.node_type ≡ t = cc in combined_by n.node_type n keys (fits n refl).inputs filled (subst (λ k. IsTrue (combine.needs_input k)) (sym same) needs)

module _ (v : VaultMap) where
  ready_live : (key : ℕ) → IsReadyAt v key → IsLive v.geos key
  ready_live key ready = by (at v.geos key) ready
    where
      by : (o : Option Geo) → IsSomeAnd o IsReady → IsSome o
      by None r = absurd r
      by (Some g) r = refl

  live_input : (o : Option ℕ) → IfSome o (IsReadyAt v) → IfSome o (IsLive v.geos)
  live_input None r = tt
  live_input (Some key) r = ready_live key r

  pub all_live : (keys : List (Option ℕ)) → All (λ input. IfSome input (IsReadyAt v)) keys → AreLive v keys
  all_live keys ready = All-weaker (λ input. IfSome input (IsReadyAt v)) (λ input. IfSome input (IsLive v.geos)) live_input keys ready

  good_input : (o : Option ℕ) → IfSome o (IsReadyAt v) → IfSome o (λ key. IsSomeAnd (at v.geos key) IsGood)
  good_input None r = tt
  good_input (Some key) r = by (at v.geos key) r
    where
      by : (o : Option Geo) → IsSomeAnd o IsReady → IsSomeAnd o IsGood
      by None r = absurd r
      by (Some g) r = r.good

  pub all_good : (keys : List (Option ℕ)) → All (λ input. IfSome input (IsReadyAt v)) keys → AreGoodAt v keys
  all_good keys ready = All-weaker (λ input. IfSome input (IsReadyAt v)) (λ input. IfSome input (λ key. IsSomeAnd (at v.geos key) IsGood)) good_input keys ready

  seen_input : (o : Option ℕ) → IfSome o (IsReadyAt v) → option_and_then (at v.geos) o ≡ option_map (geo_at v) o
  seen_input None r = refl
  seen_input (Some key) r = by (at v.geos key) r
    where
      by : (o : Option Geo) → IsSomeAnd o IsReady → o ≡ Some (unwrap_or o empty_geo)
      by None r = absurd r
      by (Some g) r = refl

  seen_all : (keys : List (Option ℕ)) → All (λ input. IfSome input (IsReadyAt v)) keys → basic.inputs_seen v keys ≡ inputs_at v keys
  seen_all [] ready = refl
  seen_all (key ∷ keys) ready =
      let P : Option ℕ → Type 0 = λ input. IfSome input (IsReadyAt v) in
      let here = seen_input key (All-head P key keys ready) in let rest = seen_all keys (All-tail P key keys ready) in λ j. here j ∷ rest j

-- WHAT A NODE GIVES

-- no key came
passes_kept : (u v : VaultMap) → IsKept u v → Passes u [] v []
passes_kept u v kept = record {
  others = λ k before after. kept.geos k;
  held = λ k before after live. kept.held k live;
  came = λ k before after. absurd (omega (arith, after));
  went = λ k before after. absurd (omega (arith, before));
  names = kept.names;
}

gives_tells : (u v : VaultMap) (outcome : Outcome) (r : Result ℕ CookStop) → Gives u v outcome r → TellsMade outcome (seen v r)
gives_tells u v outcome (Ok key) (g, is, added) = is ∙ ap (λ (o : Option Geo). Ok (unwrap_or o empty_geo)) (sym added.geos.here)
gives_tells u v outcome (Err (stop.Fault f)) (is, kept) = is
gives_tells u v outcome (Err stop.Memory) kept = tt

pub gives_passes : (u v : VaultMap) (outcome : Outcome) (r : Result ℕ CookStop) → Gives u v outcome r → Passes u [] v (key_of r)
gives_passes u v outcome (Ok key) (g, is, added) = passes_added u v key (Some g) added
gives_passes u v outcome (Err (stop.Fault f)) (is, kept) = passes_kept u v kept
gives_passes u v outcome (Err stop.Memory) kept = passes_kept u v kept

pub gives_owns : (u v : VaultMap) (outcome : Outcome) (r : Result ℕ CookStop) → Gives u v outcome r → Owns v (key_of r)
gives_owns u v outcome (Ok key) (g, is, added) = owns_one v key (subst (λ (o : Option Geo). IsSome o) (sym added.geos.here) refl)
gives_owns u v outcome (Err stop) gives = owns_none v

-- a geometry that a node gives passes no limit
node_fits : (files : FileMap) (t : NodeType) (parms : List (List ℕ)) (inputs : List (Option Geo)) (g : Geo) → node_geo files t parms inputs ≡ Ok g → Fits g
node_fits files t parms inputs g is = by (is_combining t) is
  where
    by : (b : Bool) → (if b then combine_geo t parms inputs else basic_geo files t parms inputs) ≡ Ok g → Fits g
    by true is = limited_fits (combine_table.made_by (combine_table.maker_of t) parms inputs) g is
    by false is = limited_fits (table.made_by (table.maker_of t) files parms inputs) g is

-- one new key with what the node makes, which is well made, is what is asked of `make`
module _ (u v : VaultMap) (files : FileMap) (t : NodeType) (parms : List (List ℕ)) (keys : List (Option ℕ)) (r : Result ℕ CookStop) (gives : Gives u v (node_geo files t parms (basic.inputs_seen u keys)) r) where
  pub node_ready : IfOk r (λ key. IsSomeAnd (at v.geos key) IsGood) → IfOk r (IsReadyAt v)
  node_ready good = from r gives good
    where
      from : (r : Result ℕ CookStop) → Gives u v (node_geo files t parms (basic.inputs_seen u keys)) r → IfOk r (λ key. IsSomeAnd (at v.geos key) IsGood) → IfOk r (IsReadyAt v)
      from (Err stop) gives good = tt
      from (Ok key) (g, is, added) good = by (at v.geos key) added.geos.here good
        where
          by : (o : Option Geo) → o ≡ Some g → IsSomeAnd o IsGood → IsSomeAnd o IsReady
          by None here good = absurd good
          by (Some h) here good = let same : h ≡ g = cc in record { good = good; fits = subst Fits (sym same) (node_fits files t parms (basic.inputs_seen u keys) g is) }

  -- what it makes is told
  pub node_tells : (found : Option Node) → option_map (λ n. n.node_type) found ≡ Some t → option_map (λ n. n.parms) found ≡ Some parms → All (λ input. IfSome input (IsReadyAt u)) keys
      → IfSome found (λ n. TellsMade (made files n (inputs_at u keys)) (seen v r))
  node_tells None typed texts ready = tt
  node_tells (Some n) typed texts ready =
      let is : n.node_type ≡ t = cc in
      let same : n.parms ≡ parms = cc in
      let outcome : made files n (inputs_at u keys) ≡ node_geo files t parms (basic.inputs_seen u keys) =
      ap (λ k. node_geo files k n.parms (inputs_at u keys)) is ∙ ap (λ ps. node_geo files t ps (inputs_at u keys)) same ∙ ap (node_geo files t parms) (sym (seen_all u keys ready)) in
      subst (λ o. TellsMade o (seen v r)) (sym outcome) (gives_tells u v _ r gives)

-- what a combining node gives, and what another does
pub gives_combined : (u v : VaultMap) (files : FileMap) (t : NodeType) (parms : List (List ℕ)) (inputs : List (Option Geo)) (r : Result ℕ CookStop) → is_combining t ≡ true → Gives u v (combine_geo t parms inputs) r → Gives u v (node_geo files t parms inputs) r
gives_combined u v files t parms inputs r is gives = subst (λ b. Gives u v (if b then combine_geo t parms inputs else basic_geo files t parms inputs) r) (sym is) gives

pub gives_basic : (u v : VaultMap) (files : FileMap) (t : NodeType) (parms : List (List ℕ)) (inputs : List (Option Geo)) (r : Result ℕ CookStop) → is_combining t ≡ false → Gives u v (basic_geo files t parms inputs) r → Gives u v (node_geo files t parms inputs) r
gives_basic u v files t parms inputs r is gives = subst (λ b. Gives u v (if b then combine_geo t parms inputs else basic_geo files t parms inputs) r) (sym is) gives
