-- Geometries put one behind the other: one more, the last, and a stop.
use Rattle.std.proofs.Common.{◌≡◌, ◌≢◌, ℕ, ◌+◌, ◌<◌, Bool, true, false, List, [], ◌∷◌, ◌++◌, length, take, drop, get_or, refl, sym, ap, ◌∙◌, subst, arith, length-append}
use Rattle.std.specs.Prelude.{All, Option, Some, None, Result, Ok, Err, IfSome, IsSome, IsSomeAnd, is_some, fold, if◌then◌else◌}
use Rattle.std.specs.Option.{option_and_then}
use Rattle.std.proofs.lemmas.Bool.{false≢true}
use Rattle.std.proofs.lemmas.List.{length-map, map-append, take_more, take-append-drop, drop_more}
use Rattle.std.proofs.lemmas.List.Elements.{All-nil, All-cons, All-head, All-tail}
use Rattle.sop_model.specs.declared.geo.Geo.{Geo}
use Rattle.sop_model.specs.declared.fault.CookStop.{CookStop}
use Rattle.sop_model.specs.declared.fault.CookStop.TheVariants as stop
use Rattle.sop_model.specs.declared.fault.Fault.TheVariants as fault
use Rattle.sop_model.specs.Vertices.{corners_of}
use Rattle.sop_model.specs.Geometry.{heads_of, empty_geo, fits, IsSound, IsWithin}
use Rattle.sop_model.specs.Merge.{merged}
use Rattle.sop_model.specs.Appending.{appended}
use Rattle.sop_model.proofs.PlainLemmas.{IsSound-empty_geo}
use Rattle.sop_model.proofs.LimitsLemmas.{fits_within, Fits-from_fits, IsWithin-from}
use Rattle.sop_rows.specs.Both.{more_heads, more_groups}
use Rattle.sop_rows.proofs.LawLemmas.{merges_in_turn, leave_sound, leave_within}
use Rattle.sop_columns.proofs.NameLemmas.{grows_none}
use Rattle.sop_vault.specs.declared.vault_end.VaultEnd.{VaultEnd}
use Rattle.sop_vault.specs.declared.vault_end.VaultEnd.TheVariants as end
use Rattle.sop_vault.specs.Keyed.{at, IsLive}
use Rattle.sop_vault.specs.Vaults.{VaultMap, Changed, Added, IsAsBefore, IsVault}
use Rattle.sop_vault.specs.Refusals.{append_refused}
use Rattle.sop_vault.proofs.PassLemmas.{readable_at}
use Rattle.sop_basic.specs.Making.{Prepares, stop_of}
use Rattle.sop_basic.specs.Additions.{Extends}
use Rattle.sop_basic.specs.Cook.{inputs_seen, AreLive}
use Rattle.sop_basic.proofs.MakingLemmas.{there_is, live_of, changed_then, touched_changed, touched_before, touched_then}
use Rattle.sop_combine.specs.Combine.{wired}
use Rattle.sop_combine.specs.Steps.{behind, IsInput}

-- ---- one geometry behind another
pub append_stops : (old new : VaultMap) (key : ℕ) (a b : Geo) (e : VaultEnd) → at old.geos key ≡ Some a → append_refused a b e → IsAsBefore old new → Extends old new key (appended a b) (Err (stop_of e))
append_stops old new key a b end.Limit there passes same = (refl, passes, touched_before old new key (live_of old key a there) same)
append_stops old new key a b end.Memory there refused same = touched_before old new key (live_of old key a there) same
append_stops old new key a b end.Exists there refused same = absurd refused
append_stops old new key a b end.NoAttr there refused same = absurd refused
append_stops old new key a b end.NoPoint there refused same = absurd refused

-- where both together keep the limits, the first does
first_within : (a b : Geo) → IsSound a → IsSound b → IsWithin (appended a b) → IsWithin a
first_within a b one two within =
    let both = (leave_within.append a b one two).0 within in
    IsWithin-from a
    (let w = both.points in omega (arith, w))
    (let w = both.prims in let e = length-map a.prims (λ p. p.row) in omega (arith, w, e))
    (let w = both.vertices in let e = length-map (corners_of a.prims) (λ c. c.row) in omega (arith, w, e))
    (λ class. let w = both.heads class in let e = length-append (heads_of a class).heads (more_heads (heads_of a class) (heads_of b class)) in omega (arith, w, e))
    (λ class. let w = both.groups class in let e = length-append (heads_of a class).groups (more_groups (heads_of a class) (heads_of b class)) in omega (arith, w, e))

-- and so where any number of them follow
pub start_within : (a : Geo) (gs : List Geo) → IsSound a → All IsSound gs → IsWithin (fold appended a gs) → IsWithin a
start_within a [] one all within = within
start_within a (g ∷ gs) one all within =
    let two = All-head IsSound g gs all in
    first_within a g one two (start_within (appended a g) gs (leave_sound.append a g one two) (All-tail IsSound g gs all) within)

-- ---- the inputs so far, one more and the rest
split_fold : (a : Geo) (gs : List (Option Geo)) (o : Option Geo) (rest : List (Option Geo)) → fold appended a (wired (gs ++ o ∷ rest)) ≡ fold appended (behind (fold appended a (wired gs)) o) (wired rest)
split_fold a [] None rest = refl
split_fold a [] (Some b) rest = refl
split_fold a (None ∷ gs) o rest = split_fold a gs o rest
split_fold a (Some g ∷ gs) o rest = split_fold (appended a g) gs o rest

pub one_more : {X : Type 0} (xs : List X) (i : ℕ) (x : X) → i < length xs → x ≡ get_or xs i x → take (i + 1) xs ≡ take i xs ++ x ∷ []
one_more xs i x lt here = take_more xs i x lt ∙ ap (λ y. take i xs ++ y ∷ []) (sym here)

pub split_there : {X : Type 0} (xs : List X) (i : ℕ) (x : X) → i < length xs → x ≡ get_or xs i x → xs ≡ take i xs ++ x ∷ drop (i + 1) xs
split_there xs i x lt here = sym (take-append-drop i xs) ∙ ap (λ l. take i xs ++ l) (drop_more xs i x lt) ∙ ap (λ y. take i xs ++ y ∷ drop (i + 1) xs) (sym here)

pub input_there : (v : VaultMap) (key : ℕ) (inputs : List (Option ℕ)) (i : ℕ) (input : Option ℕ) → All (IsInput v key) inputs → i < length inputs → input ≡ get_or inputs i input → IsInput v key input
input_there v key inputs i input all lt here = subst (IsInput v key) (sym here) (all i input lt)

some_of : (o : Option Geo) (P : Geo → Type 0) → IsSomeAnd o P → IsSome o
some_of None P is = absurd is
some_of (Some g) P is = refl

-- the geometry of an input is well made
input_sound : (v : VaultMap) (key : ℕ) (input : Option ℕ) → IsInput v key input → (b : Geo) → option_and_then (at v.geos) input ≡ Some b → IsSound b
input_sound v key None is b there = absurd (cc)
input_sound v key (Some from) is b there = subst (λ o. IsSomeAnd o IsSound) there is.1

wired_sound : (v : VaultMap) (key : ℕ) (inputs : List (Option ℕ)) → All (IsInput v key) inputs → All IsSound (wired (inputs_seen v inputs))
wired_sound v key [] all = All-nil IsSound
wired_sound v key (input ∷ inputs) all = by (option_and_then (at v.geos) input) (input_sound v key input (All-head (IsInput v key) input inputs all)) (wired_sound v key inputs (All-tail (IsInput v key) input inputs all))
  where
    by : (o : Option Geo) → ((b : Geo) → o ≡ Some b → IsSound b) → All IsSound (wired (inputs_seen v inputs)) → All IsSound (wired (o ∷ inputs_seen v inputs))
    by None sound rest = rest
    by (Some b) sound rest = All-cons IsSound b (wired (inputs_seen v inputs)) (sound b refl) rest

behind_sound : (a : Geo) (o : Option Geo) → IsSound a → ((b : Geo) → o ≡ Some b → IsSound b) → IsSound (behind a o)
behind_sound a None one two = one
behind_sound a (Some b) one two = leave_sound.append a b one (two b refl)

-- ---- so many inputs were put behind the empty geometry
pub record IsMerging (old now : VaultMap) (key : ℕ) (done : List (Option ℕ)) : Type 0 where
  pub geo : Geo
  pub is : geo ≡ fold appended empty_geo (wired (inputs_seen old done))
  pub sound : IsSound geo
  pub state : Changed old now key (Some geo)

pub merging_none : (v : VaultMap) (key : ℕ) → at v.geos key ≡ Some empty_geo → IsMerging v v key []
merging_none v key there = record { geo = empty_geo; is = refl; sound = IsSound-empty_geo; state = record { geos = record { here = there; others = λ other apart. refl }; held = λ other apart. refl; names = grows_none v.names } }

module _ (old now : VaultMap) (key : ℕ) (done : List (Option ℕ)) (m : IsMerging old now key done) where
  pub merging_live : IsLive now.geos key
  merging_live = live_of now key m.geo m.state.geos.here

  input_same : (input : Option ℕ) → IsInput old key input → option_and_then (at now.geos) input ≡ option_and_then (at old.geos) input
  input_same None is = refl
  input_same (Some from) is = m.state.geos.others from is.0

  pub input_live : (input : Option ℕ) → IsInput old key input → IfSome input (IsLive now.geos)
  input_live None is = tt
  input_live (Some from) is = subst IsSome (sym (m.state.geos.others from is.0)) (some_of (at old.geos from) IsSound is.1)

  module _ (new : VaultMap) (input : Option ℕ) (is : IsInput old key input) where
    abbrev seen_now : Option Geo
    seen_now = option_and_then (at old.geos) input

    step_as : (r : Result (Unit {0}) CookStop) → Extends now new key (behind m.geo (option_and_then (at now.geos) input)) r → Extends now new key (behind m.geo seen_now) r
    step_as r step = subst (λ o. Extends now new key (behind m.geo o) r) (input_same input is) step

    next_sound : IsSound (behind m.geo seen_now)
    next_sound = behind_sound m.geo seen_now m.sound (input_sound old key input is)

    -- one input more
    pub merging_more : Extends now new key (behind m.geo (option_and_then (at now.geos) input)) (Ok tt) → IsMerging old new key (done ++ input ∷ [])
    merging_more step = record {
      geo = behind m.geo seen_now;
      is = ap (λ g. behind g seen_now) m.is ∙ sym (split_fold empty_geo (inputs_seen old done) seen_now []) ∙ sym (ap (λ gs. fold appended empty_geo (wired gs)) (map-append (option_and_then (at old.geos)) done (input ∷ [])));
      sound = next_sound;
      state = changed_then old now new key (Some m.geo) (Some (behind m.geo seen_now)) m.state (step_as (Ok tt) step);
    }

    module _ (rest : List (Option ℕ)) (all : All (IsInput old key) (done ++ input ∷ rest)) (others : All (IsInput old key) rest) where
      abbrev whole : Geo
      whole = merged (wired (inputs_seen old (done ++ input ∷ rest)))

      whole_is : whole ≡ fold appended (behind m.geo seen_now) (wired (inputs_seen old rest))
      whole_is =
          merges_in_turn (wired (inputs_seen old (done ++ input ∷ rest))) (wired_sound old key (done ++ input ∷ rest) all)
          ∙ ap (λ gs. fold appended empty_geo (wired gs)) (map-append (option_and_then (at old.geos)) done (input ∷ rest))
          ∙ split_fold empty_geo (inputs_seen old done) seen_now (inputs_seen old rest)
          ∙ sym (ap (λ g. fold appended (behind g seen_now) (wired (inputs_seen old rest))) m.is)

      over : (IsWithin (behind m.geo seen_now) → ⊥) → (b : Bool) → fits whole ≡ b → b ≡ false
      over passes false e = refl
      over passes true e = absurd (passes (start_within (behind m.geo seen_now) (wired (inputs_seen old rest)) next_sound (wired_sound old key rest others) (subst IsWithin whole_is (fits_within (Fits-from_fits whole e)))))

      -- an input that is refused: all together pass a limit
      pub merging_stopped : (s : CookStop) → Extends now new key (behind m.geo (option_and_then (at now.geos) input)) (Err s) → Prepares old new key (Ok whole) (Err s)
      merging_stopped (stop.Fault f) step =
          let (limit, passes, touched) = step_as (Err (stop.Fault f)) step in
          (ap (λ b. if b then Ok whole else Err fault.Limit) (over passes (fits whole) refl) ∙ ap Err (sym limit), touched_then old now new key (touched_changed old now key m.geo m.state) touched)
      merging_stopped stop.Memory step = touched_then old now new key (touched_changed old now key m.geo m.state) (step_as (Err stop.Memory) step)

pub merging_done : (old now : VaultMap) (key : ℕ) (inputs : List (Option ℕ)) → IsMerging old now key inputs → All (IsInput old key) inputs → Prepares old now key (Ok (merged (wired (inputs_seen old inputs)))) (Ok tt)
merging_done old now key inputs m all = (m.geo, ap Ok (merges_in_turn (wired (inputs_seen old inputs)) (wired_sound old key inputs all) ∙ sym m.is), m.state)

-- ---- the inputs beside a new key
module _ (old opened : VaultMap) (key : ℕ) (g : Geo) (vault : IsVault old) (add : Added old opened key (Some g)) where
  apart : (from : ℕ) → IsLive old.geos from → from ≢ key
  apart from live same = let none : at old.geos from ≡ None = ap (at old.geos) same ∙ add.geos.was_free in let no : is_some (at old.geos from) ≡ false = ap is_some none in absurd (false≢true (sym no ∙ live))

  input_is : (input : Option ℕ) → IfSome input (IsLive old.geos) → IsInput opened key input
  input_is None live = tt
  input_is (Some from) live =
      let (b, there) = there_is (at old.geos from) live in
      (apart from live, subst (λ o. IsSomeAnd o IsSound) (sym (add.geos.others from (apart from live) ∙ there)) (readable_at old vault from b there).0.sound)

  pub inputs_are : (inputs : List (Option ℕ)) → AreLive old inputs → All (IsInput opened key) inputs
  inputs_are [] live = All-nil (IsInput opened key)
  inputs_are (input ∷ inputs) live =
      All-cons (IsInput opened key) input inputs (input_is input (All-head (λ input. IfSome input (IsLive old.geos)) input inputs live)) (inputs_are inputs (All-tail (λ input. IfSome input (IsLive old.geos)) input inputs live))

  one_same : (input : Option ℕ) → IfSome input (IsLive old.geos) → option_and_then (at opened.geos) input ≡ option_and_then (at old.geos) input
  one_same None live = refl
  one_same (Some from) live = add.geos.others from (apart from live)

  pub inputs_same : (inputs : List (Option ℕ)) → AreLive old inputs → inputs_seen opened inputs ≡ inputs_seen old inputs
  inputs_same [] live = refl
  inputs_same (input ∷ inputs) live =
      ap (λ o. o ∷ inputs_seen opened inputs) (one_same input (All-head (λ input. IfSome input (IsLive old.geos)) input inputs live))
      ∙ ap (λ os. option_and_then (at old.geos) input ∷ os) (inputs_same inputs (All-tail (λ input. IfSome input (IsLive old.geos)) input inputs live))
