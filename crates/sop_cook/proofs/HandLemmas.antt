-- Keys that go from hand to hand while a cook runs.
use Rattle.std.proofs.Common.{◌≡◌, ℕ, ◌≤◌, List, [], ◌∷◌, ◌++◌, refl, sym, ◌∙◌, ap, subst, arith}
use Rattle.std.specs.Prelude.{All, ◌⊎◌, IfOk, OnErr, IfSome, IsSomeAnd, Option, None, Some, Result, Ok, Err, length, slice_get, slice_set, option_to_list, unwrap_or}
use Rattle.std.proofs.lemmas.List.Elements.{All-nil, All-push}
use Rattle.sop_model.specs.declared.geo.Geo.{Geo}
use Rattle.sop_model.specs.declared.fault.CookStop.{CookStop}
use Rattle.sop_model.specs.Geometry.{empty_geo}
use Rattle.sop_pages.specs.Moves.{times}
use Rattle.sop_pages.proofs.MoveLemmas.{times-append, times_here}
use Rattle.sop_net.specs.Network.{place_of}
use Rattle.sop_vault.specs.Keyed.{at, IsLive}
use Rattle.sop_vault.specs.Vaults.{VaultMap, Changed, Added, HoldsAsBefore, IsVault}
use Rattle.sop_vault.specs.Passing.{Passes, Owns}
use Rattle.sop_vault.proofs.PassLemmas.{passes_none, passes_then, passes_as, passes_beside, passes_behind, passes_gone, owns_as, owns_back, owns_front, owns_beside, owns_behind, owns_none, beside_stay, behind_stay, added_from, before_from}
use Rattle.sop_cook.specs.declared.cook_end.CookEnd.{CookEnd}
use Rattle.sop_cook.specs.declared.kept.Kept.{Kept}
use Rattle.sop_cook.specs.declared.serial.Cooking.{Cooking}
use Rattle.sop_cook.specs.Visit.{Outcome}
use Rattle.sop_cook.specs.Ends.{IsReady, geo_at, seen}
use Rattle.sop_cook.specs.Keys.{inputs_at, keys_in, key_of, IsReadyAt}
use Rattle.sop_cook.specs.Parts.{IsShareKept}
use Rattle.sop_cook.specs.Cooking.{nodes_of, keys_of, gives, IsRunning, RunsOn}
use Rattle.sop_cook.proofs.KeptLemmas.{keys_push, keys_taken, first_live, seen_same, ready_same, kept_put, kept_stays, kept_taken}
use Rattle.sop_cook.proofs.CookingLemmas.{went_on, runs_with, runs_still, stays}

-- WHAT A KEY TELLS

-- a key whose node gives what stands there
pub told_at : (v : VaultMap) (key : ℕ) (outcome : Outcome) → outcome ≡ Ok (geo_at v key) → IsReadyAt v key → IsSomeAnd (at v.geos key) (λ g. (outcome ≡ Ok g) × IsReady g)
told_at v key outcome told ready = by (at v.geos key) told ready
  where
    by : (o : Option Geo) → outcome ≡ Ok (unwrap_or o empty_geo) → IsSomeAnd o IsReady → IsSomeAnd o (λ g. (outcome ≡ Ok g) × IsReady g)
    by None t r = absurd r
    by (Some g) t r = (t, r)

-- and what is told of it, where it stands as it stood
pub tells_at : (u v : VaultMap) (key : ℕ) (outcome : Outcome) → at v.geos key ≡ at u.geos key → IsSomeAnd (at u.geos key) (λ g. (outcome ≡ Ok g) × IsReady g) → (outcome ≡ Ok (geo_at v key)) × IsReadyAt v key
tells_at u v key outcome same told = by (at u.geos key) same told
  where
    by : (o : Option Geo) → at v.geos key ≡ o → IsSomeAnd o (λ g. (outcome ≡ Ok g) × IsReady g) → (outcome ≡ Ok (geo_at v key)) × IsReadyAt v key
    by None e t = absurd t
    by (Some g) e t = (t.0 ∙ ap (λ (o : Option Geo). Ok (unwrap_or o empty_geo)) (sym e), subst (λ (o : Option Geo). IsSomeAnd o IsReady) (sym e) t.1)

-- KEPT

-- a share may be kept, and the key stays
module _ (u v : VaultMap) (self : Cooking) (kept : Kept) (x place key : ℕ) (running : IsRunning u self) (told : IsSomeAnd (at u.geos key) (λ g. (gives self x ≡ Ok g) × IsReady g)) (own : Owns u (key ∷ keys_of self))
    (at_x : place_of (nodes_of self) x ≡ Some place) (uses : kept.uses.items ≡ self.kept.uses.items) (keys : (kept.keys.items ≡ self.kept.keys.items) ⊎ IsShareKept v self.kept.keys.items place (at u.geos key) kept.keys.items)
    (stay : (k : ℕ) → IsLive u.geos k → at v.geos k ≡ at u.geos k) (passes : Passes u (keys_of self) v (keys_in kept.keys.items)) (owns : Owns v (keys_in kept.keys.items)) where
  abbrev now : Cooking
  now = record self { kept = kept }

  pub keep_on : RunsOn self v now
  keep_on =
      runs_with v self now refl refl
      (kept_put v (gives self) (nodes_of self) self.kept kept (kept_stays u v (gives self) (nodes_of self) self.kept running (λ k l. stay k (own.live k (let e = times-append k (key ∷ []) (keys_of self) in omega arith)))) x place (at u.geos key) at_x uses keys told)

  key_stays : at v.geos key ≡ at u.geos key
  key_stays = stay key (first_live u key (keys_of self) own)

  pub keep_told : (gives self x ≡ Ok (geo_at v key)) × IsReadyAt v key
  keep_told = tells_at u v key (gives self x) key_stays told

  pub keep_passes : Passes u (key ∷ keys_of self) v (key ∷ keys_in kept.keys.items)
  keep_passes = passes_behind u v (keys_of self) (keys_in kept.keys.items) (key ∷ []) own passes

  pub keep_owns : Owns v (key ∷ keys_in kept.keys.items)
  keep_owns = owns_behind u v (keys_of self) (keys_in kept.keys.items) (key ∷ []) own passes owns

  -- the key goes
  module _ (w : VaultMap) (gone : Changed v w key None) where
    pub gone_passes : Passes u (key ∷ keys_of self) w (keys_in kept.keys.items)
    gone_passes =
        passes_then u v w (key ∷ keys_of self) (key ∷ keys_in kept.keys.items) (keys_in kept.keys.items) keep_passes (passes_beside v w (key ∷ []) [] (keys_in kept.keys.items) keep_owns (passes_gone v w key gone))

    pub gone_owns : Owns w (keys_in kept.keys.items)
    gone_owns = owns_beside v w (key ∷ []) [] (keys_in kept.keys.items) keep_owns (passes_gone v w key gone) (owns_none w)

    pub gone_on : RunsOn self w now
    gone_on = runs_still self now v w keep_on (λ k l. beside_stay v w (key ∷ []) [] (keys_in kept.keys.items) keep_owns (passes_gone v w key gone) k l)

-- TAKEN

-- a key was taken out of what is kept, or none was there
module _ (u : VaultMap) (self : Cooking) (kept : Kept) (x place : ℕ) (o : Option ℕ) (running : IsRunning u self) (own : Owns u (keys_of self)) (at_x : place_of (nodes_of self) x ≡ Some place)
    (uses : length kept.uses.items ≡ length self.kept.uses.items) (keys : kept.keys.items ≡ slice_set self.kept.keys.items place None) (taken : slice_get self.kept.keys.items place ≡ Some o) where
  abbrev left : Cooking
  left = record self { kept = kept }

  pub take_running : IsRunning u left
  take_running = kept_taken u (gives self) (nodes_of self) self.kept kept running x place at_x uses keys

  same_keys : (k : ℕ) → times k (option_to_list o ++ keys_of left) ≡ times k (keys_of self)
  same_keys k =
      let a = keys_taken k self.kept.keys.items place o taken in let b = ap (λ (ks : List (Option ℕ)). times k (keys_in ks)) keys in let c = times-append k (option_to_list o) (keys_of left) in omega arith

  pub take_owns : Owns u (option_to_list o ++ keys_of left)
  take_owns = owns_as u (keys_of self) (option_to_list o ++ keys_of left) same_keys own

  pub take_passes : (v : VaultMap) (after : List ℕ) → Passes u (option_to_list o ++ keys_of left) v after → Passes u (keys_of self) v after
  take_passes v after p = passes_as u v (option_to_list o ++ keys_of left) after (keys_of self) after (λ k. sym (same_keys k)) (λ k. refl) p

  pub take_told : (key : ℕ) → o ≡ Some key → IsSomeAnd (at u.geos key) (λ g. (gives self x ≡ Ok g) × IsReady g)
  take_told key is = running.geos x place key at_x (taken ∙ ap Some is)

-- GATHERED

-- the inputs so far, and what is kept
pub record Gathered (start : Cooking) (u : VaultMap) (self : Cooking) (v : VaultMap) (inputs : List (Option ℕ)) : Type 0 where
  pub on : RunsOn start v self
  pub ready : All (λ input. IfSome input (IsReadyAt v)) inputs
  pub passes : Passes u (keys_of start) v (keys_in inputs ++ keys_of self)
  pub owns : Owns v (keys_in inputs ++ keys_of self)

pub gathered_none : (start : Cooking) (u : VaultMap) → IsRunning u start → Owns u (keys_of start) → Gathered start u start u []
gathered_none start u running own = record { on = stays u start running; ready = All-nil (λ input. IfSome input (IsReadyAt u)); passes = passes_none u (keys_of start); owns = own }

module _ (start : Cooking) (u : VaultMap) (self : Cooking) (v : VaultMap) (inputs : List (Option ℕ)) (so_far : Gathered start u self v inputs) (now : Cooking) (w : VaultMap) (on : RunsOn self w now) where
  pub back : Owns v (keys_of self)
  back = owns_back v (keys_in inputs) (keys_of self) so_far.owns

  -- one more
  module _ (input : Option ℕ) (ready : IfSome input (IsReadyAt w)) (passes : Passes v (keys_of self) w (option_to_list input ++ keys_of now)) (owns : Owns w (option_to_list input ++ keys_of now)) where
    stay : (k : ℕ) → 1 ≤ times k (keys_in inputs) → at w.geos k ≡ at v.geos k
    stay k l = behind_stay v w (keys_of self) (option_to_list input ++ keys_of now) (keys_in inputs) so_far.owns passes k l

    pub inputs_stay : inputs_at w inputs ≡ inputs_at v inputs
    inputs_stay = seen_same v w inputs stay

    pushed : (k : ℕ) → times k (keys_in (inputs ++ input ∷ []) ++ keys_of now) ≡ times k (keys_in inputs ++ (option_to_list input ++ keys_of now))
    pushed k =
        let a = times-append k (keys_in (inputs ++ input ∷ [])) (keys_of now) in let b = keys_push k inputs input in
        let c = times-append k (keys_in inputs) (option_to_list input ++ keys_of now) in let d = times-append k (option_to_list input) (keys_of now) in omega arith

    pub gathered_more : Gathered start u now w (inputs ++ input ∷ [])
    gathered_more = record {
      on = went_on start self v now w so_far.on on;
      ready = All-push (λ i. IfSome i (IsReadyAt w)) inputs input (ready_same v w inputs stay so_far.ready) ready;
      passes =
          passes_then u v w (keys_of start) (keys_in inputs ++ keys_of self) (keys_in (inputs ++ input ∷ []) ++ keys_of now) so_far.passes
          (passes_as v w (keys_in inputs ++ keys_of self) (keys_in inputs ++ (option_to_list input ++ keys_of now)) (keys_in inputs ++ keys_of self) (keys_in (inputs ++ input ∷ []) ++ keys_of now) (λ k. refl) pushed
          (passes_behind v w (keys_of self) (option_to_list input ++ keys_of now) (keys_in inputs) so_far.owns passes));
      owns = owns_as w (keys_in inputs ++ (option_to_list input ++ keys_of now)) (keys_in (inputs ++ input ∷ []) ++ keys_of now) pushed (owns_behind v w (keys_of self) (option_to_list input ++ keys_of now) (keys_in inputs) so_far.owns passes owns);
    }

  -- none, and those so far go
  module _ (passes : Passes v (keys_of self) w (keys_of now)) (owns : Owns w (keys_of now)) where
    both : Owns w (keys_in inputs ++ keys_of now)
    both = owns_behind v w (keys_of self) (keys_of now) (keys_in inputs) so_far.owns passes owns

    pub failed_held : Owns w (keys_in inputs)
    failed_held = owns_front w (keys_in inputs) (keys_of now) both

    module _ (z : VaultMap) (gone : Passes w (keys_in inputs) z []) where
      pub failed_on : RunsOn start z now
      failed_on = runs_still start now w z (went_on start self v now w so_far.on on) (λ k l. beside_stay w z (keys_in inputs) [] (keys_of now) both gone k l)

      pub failed_passes : Passes u (keys_of start) z (keys_of now)
      failed_passes =
          passes_then u w z (keys_of start) (keys_in inputs ++ keys_of now) (keys_of now)
          (passes_then u v w (keys_of start) (keys_in inputs ++ keys_of self) (keys_in inputs ++ keys_of now) so_far.passes (passes_behind v w (keys_of self) (keys_of now) (keys_in inputs) so_far.owns passes))
          (passes_beside w z (keys_in inputs) [] (keys_of now) both gone)

      pub failed_owns : Owns z (keys_of now)
      failed_owns = owns_beside w z (keys_in inputs) [] (keys_of now) both gone (owns_none z)

-- MADE

-- what a node makes comes behind its inputs, which then go
module _ (start : Cooking) (u : VaultMap) (self : Cooking) (v : VaultMap) (inputs : List (Option ℕ)) (passed : Passes u (keys_of start) v (keys_in inputs ++ keys_of self)) (held : Owns v (keys_in inputs ++ keys_of self)) (on : RunsOn start v self)
    (w : VaultMap) (made : Result ℕ CookStop) (passes : Passes v [] w (key_of made)) (owns : Owns w (key_of made)) where
  all : Owns w (key_of made ++ (keys_in inputs ++ keys_of self))
  all = owns_beside v w [] (key_of made) (keys_in inputs ++ keys_of self) held passes owns

  turned : (k : ℕ) → times k (keys_in inputs ++ (key_of made ++ keys_of self)) ≡ times k (key_of made ++ (keys_in inputs ++ keys_of self))
  turned k =
      let a = times-append k (key_of made) (keys_in inputs ++ keys_of self) in let b = times-append k (keys_in inputs) (keys_of self) in
      let c = times-append k (keys_in inputs) (key_of made ++ keys_of self) in let d = times-append k (key_of made) (keys_of self) in omega arith

  front : Owns w (keys_in inputs ++ (key_of made ++ keys_of self))
  front = owns_as w (key_of made ++ (keys_in inputs ++ keys_of self)) (keys_in inputs ++ (key_of made ++ keys_of self)) turned all

  pub made_held : Owns w (keys_in inputs)
  made_held = owns_front w (keys_in inputs) (key_of made ++ keys_of self) front

  module _ (z : VaultMap) (gone : Passes w (keys_in inputs) z []) where
    pub made_passes : Passes u (keys_of start) z (key_of made ++ keys_of self)
    made_passes =
        passes_then u w z (keys_of start) (keys_in inputs ++ (key_of made ++ keys_of self)) (key_of made ++ keys_of self)
        (passes_as u w (keys_of start) (key_of made ++ (keys_in inputs ++ keys_of self)) (keys_of start) (keys_in inputs ++ (key_of made ++ keys_of self)) (λ k. refl) turned
        (passes_then u v w (keys_of start) (keys_in inputs ++ keys_of self) (key_of made ++ (keys_in inputs ++ keys_of self)) passed (passes_beside v w [] (key_of made) (keys_in inputs ++ keys_of self) held passes)))
        (passes_beside w z (keys_in inputs) [] (key_of made ++ keys_of self) front gone)

    pub made_owns : Owns z (key_of made ++ keys_of self)
    made_owns = owns_beside w z (keys_in inputs) [] (key_of made ++ keys_of self) front gone (owns_none z)

    pub made_stay : (k : ℕ) → 1 ≤ times k (key_of made ++ keys_of self) → at z.geos k ≡ at w.geos k
    made_stay k l = beside_stay w z (keys_in inputs) [] (key_of made ++ keys_of self) front gone k l

    kept_stay : (k : ℕ) → 1 ≤ times k (keys_of self) → at w.geos k ≡ at v.geos k
    kept_stay k l = beside_stay v w [] (key_of made) (keys_in inputs ++ keys_of self) held passes k (let a = times-append k (keys_in inputs) (keys_of self) in omega arith)

    pub made_on : RunsOn start z self
    made_on = runs_still start self w z (runs_still start self v w on kept_stay) (λ k l. made_stay k (let a = times-append k (key_of made) (keys_of self) in omega arith))

-- what was made stays
pub made_seen : {E : Type 0} (w z : VaultMap) (made : Result ℕ E) (more : List ℕ) → ((k : ℕ) → 1 ≤ times k (key_of made ++ more) → at z.geos k ≡ at w.geos k) → (seen z made ≡ seen w made) × (IfOk made (IsReadyAt w) → IfOk made (IsReadyAt z))
made_seen w z (Ok key) more stay =
    let same = stay key (let a = times-append key (key ∷ []) more in let b = times_here key key refl in omega arith) in
    (ap (λ (o : Option Geo). Ok (unwrap_or o empty_geo)) same, λ r. subst (λ (o : Option Geo). IsSomeAnd o IsReady) (sym same) r)
made_seen w z (Err stop) more stay = (refl, λ r. tt)

-- THE END

-- what is still kept goes, and the answer is left
module _ (u v z : VaultMap) (answer : Result ℕ CookEnd) (kept : List ℕ) (passes : Passes u [] v (key_of answer ++ kept)) (owns : Owns v (key_of answer ++ kept)) (gone : Passes v kept z []) where
  pub end_stay : (k : ℕ) → 1 ≤ times k (key_of answer ++ []) → at z.geos k ≡ at v.geos k
  end_stay k l = behind_stay v z kept [] (key_of answer) owns gone k (let a = times-append k (key_of answer) [] in omega arith)

  end_passes : Passes u [] z (key_of answer ++ [])
  end_passes = passes_then u v z [] (key_of answer ++ kept) (key_of answer ++ []) passes (passes_behind v z kept [] (key_of answer) owns gone)

  pub end_added : IsVault u → IsVault z → IfOk answer (λ key. Added u z key (at z.geos key))
  end_added is now = by answer end_passes
    where
      by : (r : Result ℕ CookEnd) → Passes u [] z (key_of r ++ []) → IfOk r (λ key. Added u z key (at z.geos key))
      by (Ok key) p = added_from u z key is now p
      by (Err e) p = tt

  pub end_before : IsVault u → IsVault z → OnErr answer (HoldsAsBefore u z)
  end_before is now = by answer end_passes
    where
      by : (r : Result ℕ CookEnd) → Passes u [] z (key_of r ++ []) → OnErr r (HoldsAsBefore u z)
      by (Ok key) p = tt
      by (Err e) p = before_from u z is now p
