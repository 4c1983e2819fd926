-- What is kept of finished nodes.
use Rattle.std.proofs.Common.{◌≡◌, Bool, true, inl, inr, ℕ, zero, suc, ◌+◌, ◌<◌, ◌≤◌, get_or, List, [], ◌∷◌, ◌++◌, length, set, drop, refl, sym, ◌∙◌, ap, subst, arith}
use Rattle.std.specs.Prelude.{All, is_some, not, Option, None, Some, IfSome, IsSome, IsSomeAnd, Ok, slice_get, slice_set, option_to_list, unwrap_or, ◌⊎◌}
use Rattle.std.proofs.lemmas.List.{length-set, length-append, append-nil, drop_more, drop_all}
use Rattle.std.proofs.lemmas.Bool.{false≢true}
use Rattle.std.proofs.lemmas.Option.{slice_get-get_or}
use Rattle.std.proofs.lemmas.List.Concat.{flat_map-append}
use Rattle.sop_model.specs.declared.geo.Geo.{Geo}
use Rattle.sop_model.specs.Geometry.{empty_geo}
use Rattle.sop_pages.specs.Moves.{times}
use Rattle.sop_pages.proofs.MoveLemmas.{times-append, times_here}
use Rattle.sop_net.specs.declared.node.Node.{Node}
use Rattle.sop_net.specs.Network.{place_of}
use Rattle.sop_net.proofs.RoomLemmas.{same_number}
use Rattle.sop_vault.specs.Keyed.{at, IsLive}
use Rattle.sop_vault.specs.Vaults.{VaultMap, Added, Changed}
use Rattle.sop_vault.specs.Passing.{Passes, Owns}
use Rattle.sop_vault.proofs.PassLemmas.{passes_none, passes_then, passes_as, passes_beside, passes_added, passes_gone, owns_as, owns_beside, owns_one, owns_none}
use Rattle.sop_cook.specs.declared.kept.Kept.{Kept}
use Rattle.sop_cook.specs.Visit.{Outcome}
use Rattle.sop_cook.specs.Ends.{geo_at, IsReady}
use Rattle.sop_cook.specs.Keys.{inputs_at, keys_in, IsReadyAt}
use Rattle.sop_cook.specs.Parts.{IsKept, AreNone, IsShareKept}

-- KEYS THAT ARE THERE

pub keys_push : (k : ℕ) (keys : List (Option ℕ)) (o : Option ℕ) → times k (keys_in (keys ++ o ∷ [])) ≡ times k (keys_in keys) + times k (option_to_list o)
keys_push k keys o = ap (times k) (flat_map-append option_to_list keys (o ∷ []) ∙ ap (λ (xs : List ℕ). keys_in keys ++ xs) (append-nil (option_to_list o))) ∙ times-append k (keys_in keys) (option_to_list o)

-- one is put where none was
pub keys_set : (k : ℕ) (keys : List (Option ℕ)) (place key : ℕ) → slice_get keys place ≡ Some None → times k (keys_in (slice_set keys place (Some key))) ≡ times k (key ∷ []) + times k (keys_in keys)
keys_set k [] place key is = cc
keys_set k (None ∷ keys) zero key is = times-append k (key ∷ []) (keys_in keys)
keys_set k (Some other ∷ keys) zero key is = cc
keys_set k (o ∷ keys) (suc place) key is =
    let rest = keys_set k keys place key is in
    let a = times-append k (option_to_list o) (keys_in (slice_set keys place (Some key))) in
    let b = times-append k (option_to_list o) (keys_in keys) in
    omega arith

-- where one was read that is none
pub free_at : (keys : List (Option ℕ)) (place : ℕ) (o : Option ℕ) (test : Bool) → place < length keys → o ≡ get_or keys place o → is_some o ≡ not test → test ≡ true → slice_get keys place ≡ Some None
free_at keys place None test lt read is so = slice_get-get_or keys place None lt ∙ ap Some (sym read)
free_at keys place (Some key) test lt read is so = absurd (false≢true (sym (is ∙ ap not so)))

-- one is taken out
pub keys_taken : (k : ℕ) (keys : List (Option ℕ)) (place : ℕ) (o : Option ℕ) → slice_get keys place ≡ Some o → times k (option_to_list o) + times k (keys_in (slice_set keys place None)) ≡ times k (keys_in keys)
keys_taken k [] place o is = cc
keys_taken k (other ∷ keys) zero o is =
    let same : other ≡ o = cc in
    let a = times-append k (option_to_list o) (keys_in keys) in
    let b = ap (λ (p : Option ℕ). times k (option_to_list p ++ keys_in keys)) same in
    omega arith
keys_taken k (other ∷ keys) (suc place) o is =
    let rest = keys_taken k keys place o is in
    let a = times-append k (option_to_list other) (keys_in (slice_set keys place None)) in
    let b = times-append k (option_to_list other) (keys_in keys) in
    omega arith

pub key_in : (keys : List (Option ℕ)) (place key : ℕ) → slice_get keys place ≡ Some (Some key) → 1 ≤ times key (keys_in keys)
key_in [] place key is = cc
key_in (o ∷ keys) zero key is =
    let same : o ≡ Some key = cc in
    let a = ap (λ (p : Option ℕ). times key (option_to_list p ++ keys_in keys)) same in
    let b = times-append key (key ∷ []) (keys_in keys) in
    let c = times_here key key refl in
    omega arith
key_in (o ∷ keys) (suc place) key is = let rest = key_in keys place key is in let a = times-append key (option_to_list o) (keys_in keys) in omega arith

-- none is there before any came
pub none_in : (n : ℕ) (keys : List (Option ℕ)) → AreNone n keys → keys_in keys ≡ []
none_in n keys are = by keys are.none
  where
    by : (keys : List (Option ℕ)) → ((x key : ℕ) → slice_get keys x ≡ Some (Some key) → ⊥) → keys_in keys ≡ []
    by [] none = refl
    by (None ∷ keys) none = by keys (λ x key e. none (suc x) key e)
    by (Some key ∷ keys) none = absurd (none 0 key refl)

-- GEOMETRIES THAT STAY

module _ (v w : VaultMap) where
  pub at_same : (k : ℕ) → at w.geos k ≡ at v.geos k → geo_at w k ≡ geo_at v k
  at_same k same = ap (λ (o : Option Geo). unwrap_or o empty_geo) same

  pub seen_same : (keys : List (Option ℕ)) → ((k : ℕ) → 1 ≤ times k (keys_in keys) → at w.geos k ≡ at v.geos k) → inputs_at w keys ≡ inputs_at v keys
  seen_same [] same = refl
  seen_same (None ∷ keys) same = ap (λ (gs : List (Option Geo)). None ∷ gs) (seen_same keys same)
  seen_same (Some key ∷ keys) same =
      let here = at_same key (same key (let a = times-append key (key ∷ []) (keys_in keys) in let b = times_here key key refl in omega arith)) in
      let rest = seen_same keys (λ k l. same k (let a = times-append k (key ∷ []) (keys_in keys) in omega arith)) in
      λ j. Some (here j) ∷ rest j

  pub ready_same : (keys : List (Option ℕ)) → ((k : ℕ) → 1 ≤ times k (keys_in keys) → at w.geos k ≡ at v.geos k) → All (λ input. IfSome input (IsReadyAt v)) keys → All (λ input. IfSome input (IsReadyAt w)) keys
  ready_same keys same ready = λ i d l. one (get_or keys i d) (λ key is. same key (there keys i d key l is)) (ready i d l)
    where
      one : (o : Option ℕ) → ((key : ℕ) → o ≡ Some key → at w.geos key ≡ at v.geos key) → IfSome o (IsReadyAt v) → IfSome o (IsReadyAt w)
      one None same r = tt
      one (Some key) same r = subst (λ (o : Option Geo). IsSomeAnd o IsReady) (sym (same key refl)) r

      there : (keys : List (Option ℕ)) (i : ℕ) (d : Option ℕ) (key : ℕ) → i < length keys → get_or keys i d ≡ Some key → 1 ≤ times key (keys_in keys)
      there keys i d key l is = key_in keys i key (slice_get-get_or keys i d l ∙ ap Some is)

-- WHAT IS KEPT

key_there : {X : Type 0} (xs : List (Option X)) (x y : ℕ) (v : Option X) (g : X) → slice_get (set xs x v) y ≡ Some (Some g) → ((y ≡ x) × (v ≡ Some g)) ⊎ (slice_get xs y ≡ Some (Some g))
key_there [] x y v g h = inr h
key_there (a ∷ xs) zero zero v g h = inl (refl, let same : Some v ≡ Some (Some g) = h in cc)
key_there (a ∷ xs) zero (suc y) v g h = inr h
key_there (a ∷ xs) (suc x) zero v g h = inr h
key_there (a ∷ xs) (suc x) (suc y) v g h = elim (key_there xs x y v g h) [ inl p ↦ inl (ap suc p.0, p.1) | inr p ↦ inr p ]

abbrev Gives : VaultMap → (ℕ → Outcome) → ℕ → ℕ → Type 0
Gives v cook x key = IsSomeAnd (at v.geos key) (λ g. (cook x ≡ Ok g) × IsReady g)

module _ (v : VaultMap) (cook : ℕ → Outcome) (nodes : List Node) (kept now : Kept) (h : IsKept v cook nodes kept) where
  kept_set : (x place : ℕ) (o : Option ℕ) → place_of nodes x ≡ Some place → length now.uses.items ≡ length kept.uses.items → now.keys.items ≡ set kept.keys.items place o → ((key : ℕ) → o ≡ Some key → Gives v cook x key) → IsKept v cook nodes now
  kept_set x place o at_x uses keys told = record {
    uses = uses ∙ h.uses;
    places = ap (λ (ks : List (Option ℕ)). length ks) keys ∙ length-set kept.keys.items place o ∙ h.places;
    geos = λ y other key there_at there.
        elim (key_there kept.keys.items place other o key (ap (λ ks. slice_get ks other) (sym keys) ∙ there))
        [ inl p ↦ subst (λ n. Gives v cook n key) (same_number nodes x y place at_x (there_at ∙ ap Some p.0)) (told key p.1) | inr p ↦ h.geos y other key there_at p ];
  }

  -- what is kept where a key was taken
  pub kept_taken : (x place : ℕ) → place_of nodes x ≡ Some place → length now.uses.items ≡ length kept.uses.items → now.keys.items ≡ slice_set kept.keys.items place None → IsKept v cook nodes now
  kept_taken x place at_x uses keys = kept_set x place None at_x uses keys (λ key e. let no : ⊥ = cc in absurd no)

  -- what is kept where a share may have been added
  pub kept_put : (x place : ℕ) (g : Option Geo) → place_of nodes x ≡ Some place → now.uses.items ≡ kept.uses.items → (now.keys.items ≡ kept.keys.items) ⊎ IsShareKept v kept.keys.items place g now.keys.items → IsSomeAnd g (λ a. (cook x ≡ Ok a) × IsReady a)
      → IsKept v cook nodes now
  kept_put x place g at_x uses (inl same) told = record {
    uses = ap (λ (us : List ℕ). length us) uses ∙ h.uses;
    places = ap (λ (ks : List (Option ℕ)). length ks) same ∙ h.places;
    geos = λ y other key there_at there. h.geos y other key there_at (ap (λ ks. slice_get ks other) (sym same) ∙ there);
  }
  kept_put x place g at_x uses (inr put) told =
      kept_set x place (Some put.key) at_x (ap (λ (us : List ℕ). length us) uses) put.now
      (λ key e. let same : put.key ≡ key = cc in subst (λ k. Gives v cook x k) same (subst (λ (o : Option Geo). IsSomeAnd o (λ a. (cook x ≡ Ok a) × IsReady a)) (sym put.here) told))

-- what is kept stays while what stands at its keys stays
pub kept_stays : (v w : VaultMap) (cook : ℕ → Outcome) (nodes : List Node) (kept : Kept) → IsKept v cook nodes kept → ((k : ℕ) → 1 ≤ times k (keys_in kept.keys.items) → at w.geos k ≡ at v.geos k) → IsKept w cook nodes kept
kept_stays v w cook nodes kept h same = record {
  uses = h.uses;
  places = h.places;
  geos = λ x place key at_x there. subst (λ (o : Option Geo). IsSomeAnd o (λ g. (cook x ≡ Ok g) × IsReady g)) (sym (same key (key_in kept.keys.items place key there))) (h.geos x place key at_x there);
}

none_pushed : (keys : List (Option ℕ)) → ((x key : ℕ) → slice_get keys x ≡ Some (Some key) → ⊥) → (x key : ℕ) → slice_get (keys ++ None ∷ []) x ≡ Some (Some key) → ⊥
none_pushed [] h zero key e = cc
none_pushed [] h (suc x) key e = cc
none_pushed (a ∷ keys) h zero key e = h zero key e
none_pushed (a ∷ keys) h (suc x) key e = none_pushed keys (λ y other p. h (suc y) other p) x key e

pub AreNone-nil : AreNone 0 []
AreNone-nil = record { places = refl; none = λ x key e. cc }

pub AreNone-push : (n : ℕ) (keys now : List (Option ℕ)) → AreNone n keys → now ≡ keys ++ None ∷ [] → AreNone (n + 1) now
AreNone-push n keys now h is = record {
  places = ap (λ (ks : List (Option ℕ)). length ks) is ∙ length-append keys (None ∷ []) ∙ ap (λ k. k + 1) h.places;
  none = λ x key e. none_pushed keys h.none x key (ap (λ ks. slice_get ks x) (sym is) ∙ e);
}

-- what is kept before any node was cooked
pub kept_none : (v : VaultMap) (cook : ℕ → Outcome) (nodes : List Node) (kept : Kept) → length kept.uses.items ≡ length nodes → AreNone (length nodes) kept.keys.items → IsKept v cook nodes kept
kept_none v cook nodes kept uses none = record { uses = uses; places = none.places; geos = λ x place key at_x there. absurd (none.none place key there) }

-- CALLS OF THE VAULT

-- the first of the keys is live
pub first_live : (u : VaultMap) (key : ℕ) (keys : List ℕ) → Owns u (key ∷ keys) → IsLive u.geos key
first_live u key keys own = own.live key (let a = times-append key (key ∷ []) keys in let b = times_here key key refl in omega arith)

live_same : (u v : VaultMap) (key new : ℕ) → IsLive u.geos key → at v.geos new ≡ at u.geos key → IsLive v.geos new
live_same u v key new live same = subst (λ (o : Option Geo). IsSome o) (sym same) live

-- what stood at a key stays where another key came
pub added_stays : (u v : VaultMap) (key : ℕ) (g : Option Geo) → Added u v key g → (k : ℕ) → IsLive u.geos k → at v.geos k ≡ at u.geos k
added_stays u v key g added k live = added.geos.others k (λ same. none (at u.geos key) added.geos.was_free (subst (λ (i : ℕ). IsLive u.geos i) same live))
  where
    none : (o : Option Geo) → o ≡ None → IsSome o → ⊥
    none None e l = cc
    none (Some a) e l = cc

-- a share is kept where nothing was
module _ (u v : VaultMap) (keys : List (Option ℕ)) (place key new : ℕ) (own : Owns u (keys_in keys)) (live : IsLive u.geos key) (added : Added u v new (at u.geos key)) (free : slice_get keys place ≡ Some None) where
  same_keys : (k : ℕ) → times k (keys_in (slice_set keys place (Some new))) ≡ times k ((new ∷ []) ++ keys_in keys)
  same_keys k = keys_set k keys place new free ∙ sym (times-append k (new ∷ []) (keys_in keys))

  pub share_passes : Passes u (keys_in keys) v (keys_in (slice_set keys place (Some new)))
  share_passes = passes_as u v (keys_in keys) ((new ∷ []) ++ keys_in keys) (keys_in keys) (keys_in (slice_set keys place (Some new))) (λ k. refl) same_keys (passes_beside u v [] (new ∷ []) (keys_in keys) own (passes_added u v new (at u.geos key) added))

  pub share_owns : Owns v (keys_in (slice_set keys place (Some new)))
  share_owns =
      owns_as v ((new ∷ []) ++ keys_in keys) (keys_in (slice_set keys place (Some new))) same_keys
      (owns_beside u v [] (new ∷ []) (keys_in keys) own (passes_added u v new (at u.geos key) added) (owns_one v new (live_same u v key new live added.geos.here)))

-- keys that go, one after the other: those that are left
pub record Left (u v : VaultMap) (all left : List (Option ℕ)) : Type 0 where
  pub passes : Passes u (keys_in all) v (keys_in left)
  pub owns : Owns v (keys_in left)

pub left_all : (u : VaultMap) (all : List (Option ℕ)) → Owns u (keys_in all) → Left u u all all
left_all u all own = record { passes = passes_none u (keys_in all); owns = own }

pub left_next : (u v w : VaultMap) (all : List (Option ℕ)) (i key : ℕ) (o d : Option ℕ) → i < length all → get_or all i d ≡ o → o ≡ Some key → Changed v w key None → Left u v all (drop i all) → Left u w all (drop (i + 1) all)
left_next u v w all i key o d lt here is gone left =
    let rest = drop (i + 1) all in
    let split = drop_more all i d lt ∙ ap (λ (p : Option ℕ). p ∷ rest) (here ∙ is) in
    let own = subst (λ (ks : List (Option ℕ)). Owns v (keys_in ks)) split left.owns in
    let goes = passes_gone v w key gone in
    record {
      passes = passes_then u v w (keys_in all) ((key ∷ []) ++ keys_in rest) (keys_in rest) (subst (λ (ks : List (Option ℕ)). Passes u (keys_in all) v (keys_in ks)) split left.passes) (passes_beside v w (key ∷ []) [] (keys_in rest) own goes);
      owns = owns_beside v w (key ∷ []) [] (keys_in rest) own goes (owns_none w);
    }

pub left_over : (u v : VaultMap) (all : List (Option ℕ)) (i : ℕ) (o d : Option ℕ) → i < length all → get_or all i d ≡ o → o ≡ None → Left u v all (drop i all) → Left u v all (drop (i + 1) all)
left_over u v all i o d lt here is left = by (drop_more all i d lt ∙ ap (λ (p : Option ℕ). p ∷ drop (i + 1) all) (here ∙ is))
  where
    by : drop i all ≡ None ∷ drop (i + 1) all → Left u v all (drop (i + 1) all)
    by split = record {
      passes = subst (λ (ks : List (Option ℕ)). Passes u (keys_in all) v (keys_in ks)) split left.passes;
      owns = subst (λ (ks : List (Option ℕ)). Owns v (keys_in ks)) split left.owns;
    }

pub left_live : (u v : VaultMap) (all : List (Option ℕ)) (i key : ℕ) (o d : Option ℕ) → i < length all → get_or all i d ≡ o → o ≡ Some key → Left u v all (drop i all) → IsLive v.geos key
left_live u v all i key o d lt here is left =
    let split = drop_more all i d lt ∙ ap (λ (p : Option ℕ). p ∷ drop (i + 1) all) (here ∙ is) in
    left.owns.live key (let a = ap (λ (ks : List (Option ℕ)). times key (keys_in ks)) split in let b = times-append key (key ∷ []) (keys_in (drop (i + 1) all)) in let c = times_here key key refl in omega arith)

pub left_none : (u v : VaultMap) (all : List (Option ℕ)) (i : ℕ) → length all ≤ i → Left u v all (drop i all) → Passes u (keys_in all) v []
left_none u v all i done left = subst (λ (ks : List (Option ℕ)). Passes u (keys_in all) v (keys_in ks)) (drop_all i all done) left.passes
