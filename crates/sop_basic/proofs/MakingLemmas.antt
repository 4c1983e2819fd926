-- Steps at a key, one after the other.
use Rattle.std.proofs.Common.{◌≡◌, ◌≢◌, ◌⊎◌, inl, inr, ℕ, ◌<◌, ◌≤◌, Bool, true, false, arith, refl, sym, ap, ◌∙◌, subst}
use Rattle.std.specs.Prelude.{Option, Some, None, Result, Ok, Err, IfSome, IsSome, IsSomeAnd, IsErrAnd, is_some, if◌then◌else◌}
use Rattle.std.proofs.lemmas.Result.{err_from_is_err_and}
use Rattle.std.proofs.lemmas.Bool.{false≢true}
use Rattle.sop_model.specs.declared.geo.Geo.{Geo}
use Rattle.sop_model.specs.declared.fault.Fault.TheVariants as fault
use Rattle.sop_model.specs.Limits.{most_weight}
use Rattle.sop_model.specs.Geometry.{geo_weight, fits, IsWithin}
use Rattle.sop_model.proofs.LimitsLemmas.{fits-true, fits_weight, Fits-from, Fits-from_fits}
use Rattle.sop_pages.proofs.MoveLemmas.{same_or}
use Rattle.sop_model.specs.declared.fault.CookStop.{CookStop}
use Rattle.sop_model.specs.declared.fault.CookStop.TheVariants as stop
use Rattle.sop_columns.proofs.NameLemmas.{grows_none, grows_then}
use Rattle.sop_vault.specs.Keyed.{at, IsLive}
use Rattle.sop_vault.specs.Vaults.{VaultMap, Changed, Added, IsAsBefore}
use Rattle.sop_basic.specs.Outcomes.{Outcome, then_with, limited, within_limits}
use Rattle.sop_basic.specs.Making.{Touched, Makes, Prepares, IsKept, Gives, Judges}

-- what is said of the geometry that stands there
pub if_there : (o : Option Geo) (P : Geo → Type 0) (g : Geo) → o ≡ Some g → IfSome o P → P g
if_there o P g there is = subst (λ o. IfSome o P) there is

pub there_is : (o : Option Geo) → IsSome o → (g : Geo) × (o ≡ Some g)
there_is None live = absurd (cc)
there_is (Some g) live = (g, refl)

pub there_and : (o : Option Geo) (P : Geo → Type 0) → IsSome o → ((g : Geo) → o ≡ Some g → P g) → IsSomeAnd o P
there_and None P live is = absurd (cc)
there_and (Some g) P live is = is g refl

pub live_of : (v : VaultMap) (key : ℕ) (g : Geo) → at v.geos key ≡ Some g → IsLive v.geos key
live_of v key g there = subst IsSome (sym there) refl

-- the geometry at a key is one
pub same_there : (o : Option Geo) (g h : Geo) → o ≡ Some g → o ≡ Some h → g ≡ h
same_there o g h a b = let e : Some g ≡ Some h = sym a ∙ b in cc

pub untouched : (v : VaultMap) (key : ℕ) (g : Geo) → at v.geos key ≡ Some g → Touched v v key
untouched v key g there = record { live = live_of v key g there; geos = λ other apart. refl; held = λ other apart. refl; names = grows_none v.names }

pub changed_then : (a b c : VaultMap) (key : ℕ) (x y : Option Geo) → Changed a b key x → Changed b c key y → Changed a c key y
changed_then a b c key x y first second = record {
  geos = record { here = second.geos.here; others = λ other apart. second.geos.others other apart ∙ first.geos.others other apart };
  held = λ other apart. second.held other apart ∙ first.held other apart;
  names = grows_then a.names b.names c.names first.names second.names;
}

pub touched_changed : (a b : VaultMap) (key : ℕ) (g : Geo) → Changed a b key (Some g) → Touched a b key
touched_changed a b key g ch = record { live = live_of b key g ch.geos.here; geos = ch.geos.others; held = ch.held; names = ch.names }

pub touched_before : (a b : VaultMap) (key : ℕ) → IsLive a.geos key → IsAsBefore a b → Touched a b key
touched_before a b key live same = record {
  live = subst IsSome (sym (same.geos key)) live;
  geos = λ other apart. same.geos other;
  held = λ other apart. same.held other;
  names = same.names;
}

pub touched_then : (a b c : VaultMap) (key : ℕ) → Touched a b key → Touched b c key → Touched a c key
touched_then a b c key first second = record {
  live = second.live;
  geos = λ other apart. second.geos other apart ∙ first.geos other apart;
  held = λ other apart. second.held other apart ∙ first.held other apart;
  names = grows_then a.names b.names c.names first.names second.names;
}

-- a step and what follows it
pub makes_then : (a b c : VaultMap) (key : ℕ) (outcome : Outcome) (next : Geo → Outcome) (g : Geo) (r : Result (Unit {0}) CookStop)
    → outcome ≡ Ok g → Changed a b key (Some g) → Makes b c key (next g) r → Makes a c key (then_with outcome next) r
makes_then a b c key outcome next g (Ok done) is ch (h, made, ended) = (h, ap (λ o. then_with o next) is ∙ made, changed_then a b c key (Some g) (Some h) ch ended)
makes_then a b c key outcome next g (Err (stop.Fault f)) is ch (made, ended) = (ap (λ o. then_with o next) is ∙ made, touched_then a b c key (touched_changed a b key g ch) ended)
makes_then a b c key outcome next g (Err stop.Memory) is ch ended = touched_then a b c key (touched_changed a b key g ch) ended

pub makes_stopped : (a b : VaultMap) (key : ℕ) (outcome : Outcome) (next : Geo → Outcome) (s : CookStop)
    → Makes a b key outcome (Err s) → Makes a b key (then_with outcome next) (Err s)
makes_stopped a b key outcome next (stop.Fault f) (made, ended) = (ap (λ o. then_with o next) made, ended)
makes_stopped a b key outcome next stop.Memory ended = ended

-- an outcome that is the same
pub makes_as : (a b : VaultMap) (key : ℕ) (outcome other : Outcome) (r : Result (Unit {0}) CookStop) → outcome ≡ other → Makes a b key outcome r → Makes a b key other r
makes_as a b key outcome other r same made = subst (λ o. Makes a b key o r) same made

-- a fault that goes up by `?` is itself
pub ended_as : (r : Result (Unit {0}) CookStop) (s : CookStop) (P : Result (Unit {0}) CookStop → Type 0) → IsErrAnd r (λ e. e ≡ s) → P (Err s) → P r
ended_as r s P ended at =
    let (y, is, same) = err_from_is_err_and r ended in
    subst P (sym is) (subst (λ (e : CookStop). P (Err e)) (sym same) at)

-- ---- the limits of what was made
pub judges_by : (g : Geo) (weight : ℕ) → IsWithin g → weight ≡ geo_weight g → weight ≤ most_weight → within_limits g ≡ Ok g
judges_by g weight within is light = ap (λ b. if b then Ok g else Err fault.Limit) (fits-true g (Fits-from g within (omega (arith, is, light))))

pub judges_not : (g : Geo) (weight : ℕ) → weight ≡ geo_weight g → most_weight < weight → within_limits g ≡ Err fault.Limit
judges_not g weight is heavy = ap (λ b. if b then Ok g else Err fault.Limit) (not_fitting (fits g) refl)
  where
    not_fitting : (b : Bool) → fits g ≡ b → b ≡ false
    not_fitting false e = refl
    not_fitting true e = absurd (omega (arith, is, heavy, fits_weight (Fits-from_fits g e)))

pub judged_ok : (opened now : VaultMap) (key : ℕ) (outcome : Outcome) (r : Result (Unit {0}) CookStop) → ((g : Geo) → at now.geos key ≡ Some g → Judges g r) → Makes opened now key outcome (Ok tt) → Makes opened now key (limited outcome) r
judged_ok opened now key outcome (Ok done) judge (g, is, ch) = (g, ap limited is ∙ judge g ch.geos.here, ch)
judged_ok opened now key outcome (Err (stop.Fault f)) judge (g, is, ch) = (ap limited is ∙ judge g ch.geos.here, touched_changed opened now key g ch)
judged_ok opened now key outcome (Err stop.Memory) judge (g, is, ch) = absurd (judge g ch.geos.here)

-- ---- the whole node
added_then : (a b c : VaultMap) (key : ℕ) (x y : Option Geo) → Added a b key x → Changed b c key y → Added a c key y
added_then a b c key x y first second = record {
  geos = record { was_free = first.geos.was_free; here = second.geos.here; others = λ other apart. second.geos.others other apart ∙ first.geos.others other apart };
  held = λ other apart. second.held other apart ∙ first.held other apart;
  names = grows_then a.names b.names c.names first.names second.names;
}

module _ (first opened now new : VaultMap) (key : ℕ) (g : Geo) (add : Added first opened key (Some g)) where
  -- what was made stays
  pub gives_made : (outcome : Outcome) → Makes opened now key outcome (Ok tt) → Gives first now outcome (Ok key)
  gives_made outcome (h, is, ch) = (h, is, added_then first opened now key (Some g) (Some h) add ch)

  geo_back : Touched opened now key → Changed now new key None → (k : ℕ) → (k ≡ key) ⊎ (k ≢ key) → at new.geos k ≡ at first.geos k
  geo_back touched gone k (inl same) = ap (at new.geos) same ∙ gone.geos.here ∙ sym add.geos.was_free ∙ sym (ap (at first.geos) same)
  geo_back touched gone k (inr apart) = gone.geos.others k apart ∙ touched.geos k apart ∙ add.geos.others k apart

  held_back : Touched opened now key → Changed now new key None → (k : ℕ) → IsLive first.geos k → (k ≡ key) ⊎ (k ≢ key) → at new.held k ≡ at first.held k
  held_back touched gone k live (inl same) = absurd (let no : is_some (at first.geos k) ≡ false = ap (λ k. is_some (at first.geos k)) same ∙ ap is_some add.geos.was_free in false≢true (sym no ∙ live))
  held_back touched gone k live (inr apart) = gone.held k apart ∙ touched.held k apart ∙ add.held k apart

  kept_back : Touched opened now key → Changed now new key None → IsKept first new
  kept_back touched gone = record {
    geos = λ k. geo_back touched gone k (same_or k key);
    held = λ k live. held_back touched gone k live (same_or k key);
    names = grows_then first.names opened.names new.names add.names (grows_then opened.names now.names new.names touched.names gone.names);
  }

  -- what stopped is gone
  pub gives_stopped : (outcome : Outcome) (s : CookStop) → Makes opened now key outcome (Err s) → Changed now new key None → Gives first new outcome (Err s)
  gives_stopped outcome (stop.Fault f) (is, touched) gone = (is, kept_back touched gone)
  gives_stopped outcome stop.Memory touched gone = kept_back touched gone

-- a call of a vault that gave no key
pub gives_none : (old new : VaultMap) (outcome : Outcome) → IsAsBefore old new → Gives old new outcome (Err stop.Memory)
gives_none old new outcome same = record { geos = same.geos; held = λ key live. same.held key; names = same.names }

-- a key that was added stands for what it was added for
pub made_at_once : (v : VaultMap) (key : ℕ) (g : Geo) → at v.geos key ≡ Some g → Makes v v key (Ok g) (Ok tt)
made_at_once v key g there = (g, refl, record { geos = record { here = there; others = λ other apart. refl }; held = λ other apart. refl; names = grows_none v.names })

-- what is made needs no more than to be judged
pub prepares_of : (a b : VaultMap) (key : ℕ) (outcome : Outcome) (r : Result (Unit {0}) CookStop) → Makes a b key outcome r → Prepares a b key outcome r
prepares_of a b key outcome (Ok done) made = made
prepares_of a b key outcome (Err (stop.Fault f)) (is, touched) = (ap limited is, touched)
prepares_of a b key outcome (Err stop.Memory) touched = touched

pub judged_err : (opened now : VaultMap) (key : ℕ) (outcome : Outcome) (s : CookStop) → Prepares opened now key outcome (Err s) → Makes opened now key (limited outcome) (Err s)
judged_err opened now key outcome (stop.Fault f) ended = ended
judged_err opened now key outcome stop.Memory ended = ended

pub prepares_live : (a b : VaultMap) (key : ℕ) (outcome : Outcome) (r : Result (Unit {0}) CookStop) → Prepares a b key outcome r → IsLive b.geos key
prepares_live a b key outcome (Ok done) (g, is, ch) = live_of b key g ch.geos.here
prepares_live a b key outcome (Err (stop.Fault f)) (is, touched) = touched.live
prepares_live a b key outcome (Err stop.Memory) touched = touched.live

pub kept_same : (v : VaultMap) → IsKept v v
kept_same v = record { geos = λ k. refl; held = λ k live. refl; names = grows_none v.names }
