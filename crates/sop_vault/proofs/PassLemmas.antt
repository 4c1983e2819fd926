-- Runs of calls, one after the other and beside keys that aren't theirs.
use Rattle.std.proofs.Common.{◌≡◌, ◌≢◌, ℕ, zero, ◌≤◌, List, [], ◌∷◌, ◌++◌, refl, ap, sym, ◌∙◌, subst, arith, inl, inr}
use Rattle.std.specs.Prelude.{◌⊎◌, Option, Some, None, IsSome, option_map}
use Rattle.sop_model.specs.declared.geo.Geo.{Geo}
use Rattle.sop_pages.specs.Moves.{times}
use Rattle.sop_pages.proofs.MoveLemmas.{same_or, times-append, times_here, times_else}
use Rattle.std.proofs.lemmas.Bool.Decides.{nat_tests}
use Rattle.sop_columns.proofs.NameLemmas.{grows_none, grows_then}
use Rattle.std.proofs.Math.ListN.{get_or-map}
use Rattle.sop_model.specs.Geometry.{IsReadable, AreValuesWithin}
use Rattle.sop_sheets.specs.Sheets.{SheetLists, geo_of, IsSheet}
use Rattle.sop_sheets.proofs.ViewLemmas.{sound_in, within_in, values_in}
use Rattle.sop_vault.specs.Counted.{IsSlot}
use Rattle.sop_vault.specs.Keyed.{at, IsLive, AreSame}
use Rattle.sop_vault.specs.Vaults.{VaultMap, Changed, Added, IsAsBefore, HoldsAsBefore, IsVault}
use Rattle.sop_vault.specs.Passing.{Passes, Owns}
use Rattle.sop_vault.proofs.PageLemmas.{held_alike, same_pages}

-- there or not
none_or_more : (n : ℕ) → (n ≡ 0) ⊎ (1 ≤ n)
none_or_more zero = inl refl
none_or_more n = inr (omega arith)

-- nothing stands where nothing stood
not_live : (v : VaultMap) (k : ℕ) → at v.geos k ≡ None → IsLive v.geos k → ⊥
not_live v k none live = no (at v.geos k) none live
  where
    no : (o : Option Geo) → o ≡ None → IsSome o → ⊥
    no None e s = cc
    no (Some g) e s = cc

live_by : (u v : VaultMap) (k : ℕ) → at v.geos k ≡ at u.geos k → IsLive u.geos k → IsLive v.geos k
live_by u v k same live = subst (λ (o : Option Geo). IsSome o) (sym same) live

-- nothing is done
pub passes_none : (v : VaultMap) (keys : List ℕ) → Passes v keys v keys
passes_none v keys = record {
  others = λ k a b. refl;
  held = λ k a b live. refl;
  came = λ k a b. absurd (omega arith);
  went = λ k a b. absurd (omega arith);
  names = grows_none v.names;
}

-- one run after the other
module _ (u v w : VaultMap) (a b c : List ℕ) (first : Passes u a v b) (then : Passes v b w c) where
  others_then : (k : ℕ) → times k a ≡ 0 → times k c ≡ 0 → (times k b ≡ 0) ⊎ (1 ≤ times k b) → at w.geos k ≡ at u.geos k
  others_then k p q (inl none) = then.others k none q ∙ first.others k p none
  others_then k p q (inr more) = then.went k more q ∙ sym (first.came k p more)

  held_then : (k : ℕ) → times k a ≡ 0 → times k c ≡ 0 → IsLive u.geos k → (times k b ≡ 0) ⊎ (1 ≤ times k b) → at w.held k ≡ at u.held k
  held_then k p q live (inl none) = then.held k none q (live_by u v k (first.others k p none) live) ∙ first.held k p none live
  held_then k p q live (inr more) = absurd (not_live u k (first.came k p more) live)

  came_then : (k : ℕ) → times k a ≡ 0 → 1 ≤ times k c → (times k b ≡ 0) ⊎ (1 ≤ times k b) → at u.geos k ≡ None
  came_then k p q (inl none) = sym (first.others k p none) ∙ then.came k none q
  came_then k p q (inr more) = first.came k p more

  went_then : (k : ℕ) → 1 ≤ times k a → times k c ≡ 0 → (times k b ≡ 0) ⊎ (1 ≤ times k b) → at w.geos k ≡ None
  went_then k p q (inl none) = then.others k none q ∙ first.went k p none
  went_then k p q (inr more) = then.went k more q

  pub passes_then : Passes u a w c
  passes_then = record {
    others = λ k p q. others_then k p q (none_or_more (times k b));
    held = λ k p q live. held_then k p q live (none_or_more (times k b));
    came = λ k p q. came_then k p q (none_or_more (times k b));
    went = λ k p q. went_then k p q (none_or_more (times k b));
    names = grows_then u.names v.names w.names first.names then.names;
  }

-- the same keys in another order
pub passes_as : (u v : VaultMap) (a b a' b' : List ℕ) → ((k : ℕ) → times k a' ≡ times k a) → ((k : ℕ) → times k b' ≡ times k b) → Passes u a v b → Passes u a' v b'
passes_as u v a b a' b' same now p = record {
  others = λ k x y. p.others k (sym (same k) ∙ x) (sym (now k) ∙ y);
  held = λ k x y. p.held k (sym (same k) ∙ x) (sym (now k) ∙ y);
  came = λ k x y. p.came k (sym (same k) ∙ x) (let e = now k in omega arith);
  went = λ k x y. p.went k (let e = same k in omega arith) (sym (now k) ∙ y);
  names = p.names;
}

pub owns_as : (v : VaultMap) (a b : List ℕ) → ((k : ℕ) → times k b ≡ times k a) → Owns v a → Owns v b
owns_as v a b same o = record { once = λ k. let e = same k in let l = o.once k in omega arith; live = λ k l. o.live k (let e = same k in omega arith) }

-- some of the keys
pub owns_back : (v : VaultMap) (a b : List ℕ) → Owns v (a ++ b) → Owns v b
owns_back v a b o = record { once = λ k. let e = times-append k a b in let l = o.once k in omega arith; live = λ k l. o.live k (let e = times-append k a b in omega arith) }

pub owns_front : (v : VaultMap) (a b : List ℕ) → Owns v (a ++ b) → Owns v a
owns_front v a b o = record { once = λ k. let e = times-append k a b in let l = o.once k in omega arith; live = λ k l. o.live k (let e = times-append k a b in omega arith) }

-- a key that isn't the run's own keeps its geometry
pub stays_at : (u v : VaultMap) (a b : List ℕ) → Passes u a v b → (k : ℕ) → times k a ≡ 0 → IsLive u.geos k → (times k b ≡ 0) × (at v.geos k ≡ at u.geos k)
stays_at u v a b p k apart live = by (none_or_more (times k b))
  where
    by : (times k b ≡ 0) ⊎ (1 ≤ times k b) → (times k b ≡ 0) × (at v.geos k ≡ at u.geos k)
    by (inl none) = (none, p.others k apart none)
    by (inr more) = absurd (not_live u k (p.came k apart more) live)

-- beside other keys
module _ (u v : VaultMap) (a b f : List ℕ) (own : Owns u (a ++ f)) (p : Passes u a v b) where
  apart : (k : ℕ) → 1 ≤ times k f → times k a ≡ 0
  apart k l = let o = own.once k in let e = times-append k a f in omega arith

  still : (k : ℕ) → 1 ≤ times k f → (times k b ≡ 0) × (at v.geos k ≡ at u.geos k)
  still k l = stays_at u v a b p k (apart k l) (own.live k (let e = times-append k a f in omega arith))

  pub passes_beside : Passes u (a ++ f) v (b ++ f)
  passes_beside = record {
    others = λ k x y. p.others k (let e = times-append k a f in omega arith) (let e = times-append k b f in omega arith);
    held = λ k x y. p.held k (let e = times-append k a f in omega arith) (let e = times-append k b f in omega arith);
    came = λ k x y. p.came k (let e = times-append k a f in omega arith) (let e = times-append k a f in let g = times-append k b f in omega arith);
    went = λ k x y. p.went k (let e = times-append k a f in let g = times-append k b f in omega arith) (let e = times-append k b f in omega arith);
    names = p.names;
  }

  once_beside : Owns v b → (k : ℕ) → (times k f ≡ 0) ⊎ (1 ≤ times k f) → times k (b ++ f) ≤ 1
  once_beside o k (inl none) = let e = times-append k b f in let l = o.once k in omega arith
  once_beside o k (inr more) = let e = times-append k b f in let l = own.once k in let g = times-append k a f in let s = (still k more).0 in omega arith

  live_beside : Owns v b → (k : ℕ) → 1 ≤ times k (b ++ f) → (times k f ≡ 0) ⊎ (1 ≤ times k f) → IsLive v.geos k
  live_beside o k l (inl none) = o.live k (let e = times-append k b f in omega arith)
  live_beside o k l (inr more) = live_by u v k (still k more).1 (own.live k (let e = times-append k a f in omega arith))

  -- what stands at them stays
  pub beside_stay : (k : ℕ) → 1 ≤ times k f → at v.geos k ≡ at u.geos k
  beside_stay k l = (still k l).1

  pub owns_beside : Owns v b → Owns v (b ++ f)
  owns_beside o = record { once = λ k. once_beside o k (none_or_more (times k f)); live = λ k l. live_beside o k l (none_or_more (times k f)) }

-- behind other keys
module _ (u v : VaultMap) (a b f : List ℕ) (own : Owns u (f ++ a)) (p : Passes u a v b) where
  turned : (x y : List ℕ) (k : ℕ) → times k (y ++ x) ≡ times k (x ++ y)
  turned x y k = let e = times-append k x y in let g = times-append k y x in omega arith

  before : Owns u (a ++ f)
  before = owns_as u (f ++ a) (a ++ f) (turned f a) own

  pub passes_behind : Passes u (f ++ a) v (f ++ b)
  passes_behind = passes_as u v (a ++ f) (b ++ f) (f ++ a) (f ++ b) (turned a f) (turned b f) (passes_beside u v a b f before p)

  pub owns_behind : Owns v b → Owns v (f ++ b)
  owns_behind o = owns_as v (b ++ f) (f ++ b) (turned b f) (owns_beside u v a b f before p o)

  pub behind_stay : (k : ℕ) → 1 ≤ times k f → at v.geos k ≡ at u.geos k
  behind_stay k l = beside_stay u v a b f before p k l

-- CALLS

alone : (k key : ℕ) → times k (key ∷ []) ≡ 0 → k ≢ key
alone k key none same = let a = times_here k key same in omega arith

only : (k key : ℕ) → 1 ≤ times k (key ∷ []) → k ≡ key
only k key l = by (same_or k key)
  where
    by : (k ≡ key) ⊎ (k ≢ key) → k ≡ key
    by (inl same) = same
    by (inr ne) = absurd (let a = times_else k key ne in omega arith)

-- a new key
pub passes_added : (u v : VaultMap) (key : ℕ) (g : Option Geo) → Added u v key g → Passes u [] v (key ∷ [])
passes_added u v key g added = record {
  others = λ k x y. added.geos.others k (alone k key y);
  held = λ k x y live. added.held k (alone k key y);
  came = λ k x y. ap (at u.geos) (only k key y) ∙ added.geos.was_free;
  went = λ k x y. absurd (omega arith);
  names = added.names;
}

once_one : (k key : ℕ) → times k (key ∷ []) ≤ 1
once_one k key = grind (arith, nat_tests)

pub owns_one : (v : VaultMap) (key : ℕ) → IsLive v.geos key → Owns v (key ∷ [])
owns_one v key live = record { once = λ k. once_one k key; live = λ k l. subst (λ (i : ℕ). IsLive v.geos i) (sym (only k key l)) live }

pub owns_none : (v : VaultMap) → Owns v []
owns_none v = record { once = λ k. omega arith; live = λ k l. absurd (omega arith) }

-- a key goes
pub passes_gone : (u v : VaultMap) (key : ℕ) → Changed u v key None → Passes u (key ∷ []) v []
passes_gone u v key gone = record {
  others = λ k x y. gone.geos.others k (alone k key x);
  held = λ k x y live. gone.held k (alone k key x);
  came = λ k x y. absurd (omega arith);
  went = λ k x y. ap (at v.geos) (only k key x) ∙ gone.geos.here;
  names = gone.names;
}

-- a key changes
pub passes_changed : (u v : VaultMap) (key : ℕ) (g : Option Geo) → Changed u v key g → Passes u (key ∷ []) v (key ∷ [])
passes_changed u v key g changed = record {
  others = λ k x y. changed.geos.others k (alone k key x);
  held = λ k x y live. changed.held k (alone k key x);
  came = λ k x y. absurd (omega arith);
  went = λ k x y. absurd (omega arith);
  names = changed.names;
}

-- a refused call
pub passes_before : (u v : VaultMap) (keys : List ℕ) → IsAsBefore u v → Passes u keys v keys
passes_before u v keys same = record {
  others = λ k x y. same.geos k;
  held = λ k x y live. same.held k;
  came = λ k x y. absurd (omega arith);
  went = λ k x y. absurd (omega arith);
  names = same.names;
}

pub owns_before : (u v : VaultMap) (keys : List ℕ) → IsAsBefore u v → Owns u keys → Owns v keys
owns_before u v keys same o = record { once = o.once; live = λ k l. live_by u v k (same.geos k) (o.live k l) }

-- WHOLE RUNS

-- it has no keys before, and one after
pub added_from : (u v : VaultMap) (key : ℕ) → IsVault u → IsVault v → Passes u [] v (key ∷ []) → Added u v key (at v.geos key)
added_from u v key is now p = record {
  geos = record { was_free = p.came key refl (let a = times_here key key refl in omega arith); here = refl; others = λ k ne. p.others k refl (times_else k key ne) };
  held = λ k ne. let none = times_else k key ne in held_alike u v is now k (p.others k refl none) (p.held k refl none);
  names = p.names;
}

-- it has none after either
pub before_from : (u v : VaultMap) → IsVault u → IsVault v → Passes u [] v [] → HoldsAsBefore u v
before_from u v is now p =
    let geos : AreSame u.geos v.geos = λ k. p.others k refl refl in
    record { geos = geos; held = λ k. held_alike u v is now k (geos k) (p.held k refl refl); pages = same_pages u v is now geos (λ k live. p.held k refl refl live); names = p.names }

-- WHAT STANDS AT A KEY

-- it may be read
pub readable_at : (v : VaultMap) → IsVault v → (k : ℕ) (g : Geo) → at v.geos k ≡ Some g → IsReadable g × AreValuesWithin g
readable_at v is k g here = by (at is.sheets k) (is.counted.sheets k) (sym (get_or-map (option_map (geo_of is.shelf is.names)) is.sheets k None) ∙ ap (λ (w : VaultMap). at w.geos k) is.is ∙ here)
  where
    by : (o : Option SheetLists) → IsSlot IsSheet is.shelf is.names o → option_map (geo_of is.shelf is.names) o ≡ Some g → IsReadable g × AreValuesWithin g
    by None slot same = cc
    by (Some sheet) slot same =
        let e : geo_of is.shelf is.names sheet ≡ g = cc in
        (record { sound = sound_in is.shelf is.names sheet slot g e; within = within_in is.shelf is.names sheet slot g e }, values_in is.shelf is.names sheet slot g e)
