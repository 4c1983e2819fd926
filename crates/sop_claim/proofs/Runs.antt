-- Each step is an event of the claims, or none.
use Rattle.std.proofs.Common.{◌≡◌, ℕ, zero, suc, ◌+◌, ◌<◌, ◌≤◌, Bool, true, false, List, [], ◌∷◌, ◌≢◌, ◌⊎◌, inl, inr, ⊎_elim, ◌++◌, length, length-append, length-set, set, min, refl, sym, ap, ◌∙◌, subst, arith}
use Rattle.std.specs.Prelude.{Option, Some, None, slice_get, slice_set, nat_lt, ◌==◌, option_and_then}
use Rattle.std.proofs.lemmas.Bool.Decides.{nat_tests}
use mathlib.Core.Option.{some, some-ne-none}
use mathlib.Core.Logic.{dite}
use native.Mathlib.Decide.{dec_le, ℕ_discrete}
use Rattle.atomic_table.proofs.Lists.{at_set, at_snoc, set_else}
use lib.ListN.{get_elem?}
use Rattle.sop_claim.specs.declared.machine.Event.{Event}
use Rattle.sop_claim.specs.declared.machine.Event.TheVariants as on
use Rattle.sop_claim.specs.declared.machine.Standing.{Standing}
use Rattle.sop_claim.specs.declared.machine.Standing.TheVariants.{Held, Done, Faulty, Skipped}
use Rattle.sop_claim.specs.declared.rule.View.{View}
use Rattle.sop_claim.specs.Claims.{Claims, start, step, after, is_held_by, is_faulty}
use Rattle.sop_claim.specs.Views.{times, settled, IsHeld, share, newcomer, with_drawn, with_faulty, with_done, with_skipped, with_less_room, joined}
use Rattle.sop_claim.specs.BoardRule.{total, IsKept, IsReached, IsHeldFor, Lists, one_if, is_done, is_skipped, spent_view}
use Rattle.sop_claim.specs.StepEvents.{IsLedTo, handed}
use Rattle.sop_claim.proofs.Rests.{set_here, set_there, snoc_there}
use Rattle.sop_claim.proofs.Sums.{total_set, total_split, total_both, total_at, times-append, times_here, times_else, times_snoc}
use Rattle.sop_claim.proofs.Keeps.{drawn_below}

-- one event more
after_snoc : (s t : Claims) (es : List Event) (e : Event) → after s es ≡ Some t → after s (es ++ e ∷ []) ≡ step t e
after_snoc s t [] e is = let same : s ≡ t = cc in subst (λ (u : Claims). option_and_then (λ v. Some v) (step s e) ≡ step u e) same (whole (step s e))
  where
    whole : (o : Option Claims) → option_and_then (λ v. Some v) o ≡ o
    whole None = refl
    whole (Some v) = refl
after_snoc s t (d ∷ es) e is = at (λ u h. after_snoc u t es e h) (step s d) is
  where
    at : ((u : Claims) → after u es ≡ Some t → after u (es ++ e ∷ []) ≡ step t e) → (o : Option Claims) → option_and_then (λ u. after u es) o ≡ Some t → option_and_then (λ u. after u (es ++ e ∷ [])) o ≡ step t e
    at more None h = absurd (cc)
    at more (Some u) h = more u h

pub id_within : (views : List View) (id : ℕ) (v : View) → get_elem? views id ≡ some v → id < length views
id_within [] id v e = absurd (some-ne-none v (sym e))
id_within (x ∷ xs) zero v e = omega arith
id_within (x ∷ xs) (suc id) v e = let h = id_within xs id v e in omega arith

-- a held ticket more changes no count of others
snoc_same : (is : Option Standing → Bool) (w : ℕ) → is (Some (Held w)) ≡ false → is None ≡ false → (tickets : List Standing) (x : ℕ) → one_if (is (slice_get (tickets ++ Held w ∷ []) x)) ≡ one_if (is (slice_get tickets x))
snoc_same is w held none [] zero = ap one_if (held ∙ sym none)
snoc_same is w held none [] (suc x) = refl
snoc_same is w held none (t ∷ ts) zero = refl
snoc_same is w held none (t ∷ ts) (suc x) = snoc_same is w held none ts x

-- the count of a standing once a held ticket stands otherwise
set_same : (is : Option Standing → Bool) (tickets : List Standing) (k w : ℕ) (how : Standing) → slice_get tickets k ≡ Some (Held w) → is (Some (Held w)) ≡ false → is (Some how) ≡ false → (x : ℕ) → one_if (is (slice_get (slice_set tickets k how) x)) ≡ one_if (is (slice_get tickets x))
set_same is tickets k w how at held not_so x = dite (ℕ_discrete x k)
    (λ here. subst (λ (y : ℕ). one_if (is (slice_get (slice_set tickets k how) y)) ≡ one_if (is (slice_get tickets y))) (sym here)
    (ap (λ o. one_if (is o)) (set_here tickets k how (Held w) at) ∙ ap one_if (not_so ∙ sym held) ∙ ap (λ o. one_if (is o)) (sym at)))
    (λ there. ap (λ o. one_if (is o)) (set_there tickets k x how there))

set_more : (is : Option Standing → Bool) (tickets : List Standing) (k w : ℕ) (how : Standing) → slice_get tickets k ≡ Some (Held w) → is (Some (Held w)) ≡ false → is (Some how) ≡ true → (x : ℕ) → one_if (is (slice_get (slice_set tickets k how) x)) ≡ one_if (is (slice_get tickets x)) + times x (k ∷ [])
set_more is tickets k w how at held so x = dite (ℕ_discrete x k)
    (λ here. subst (λ (y : ℕ). one_if (is (slice_get (slice_set tickets k how) y)) ≡ one_if (is (slice_get tickets y)) + times y (k ∷ [])) (sym here)
    (let now : one_if (is (slice_get (slice_set tickets k how) k)) ≡ 1 = ap (λ o. one_if (is o)) (set_here tickets k how (Held w) at) ∙ ap one_if so in
    let was : one_if (is (slice_get tickets k)) ≡ 0 = ap (λ o. one_if (is o)) at ∙ ap one_if held in
    let one = times_here k k refl in omega arith))
    (λ there. let e = ap (λ o. one_if (is o)) (set_there tickets k x how there) in let none = times_else x k there in omega arith)

-- what the rule says of lists that a step leaves, and of one that it makes longer
module _ (views : List View) (id : ℕ) (v w : View) (at : get_elem? views id ≡ some v) (old now : List Standing) where
  list_same : (list : View → List ℕ) (is : Option Standing → Bool) → list w ≡ list v → ((x : ℕ) → one_if (is (slice_get now x)) ≡ one_if (is (slice_get old x))) → Lists list is old views → Lists list is now (set views id w)
  list_same list is same counts lists x =
      let t = total_set (λ u. times x (list u)) views id v w at in let e = ap (times x) same in let o = lists x in let c = counts x in omega arith

  list_more : (list : View → List ℕ) (is : Option Standing → Bool) (k : ℕ) → list w ≡ list v ++ k ∷ [] → ((x : ℕ) → one_if (is (slice_get now x)) ≡ one_if (is (slice_get old x)) + times x (k ∷ [])) → Lists list is old views → Lists list is now (set views id w)
  list_more list is k more counts lists x =
      let t = total_set (λ u. times x (list u)) views id v w at in let e = ap (times x) more ∙ times-append x (list v) (k ∷ []) in let o = lists x in let c = counts x in omega arith

handed_here : (keeper : ℕ → ℕ) (from to w : ℕ) → keeper w ≡ from → handed keeper from to w ≡ to
handed_here keeper from to w e = let t : keeper w == from ≡ true = grind (arith, nat_tests) in rw t refl

handed_else : (keeper : ℕ → ℕ) (from to w : ℕ) → keeper w ≢ from → handed keeper from to w ≡ keeper w
handed_else keeper from to w n = let t : keeper w == from ≡ false = grind (arith, nat_tests) in rw t refl

-- what stands before the end of a longer list
before : {A : Type 0} (l : List A) (a b : A) (i : ℕ) → i < length l → get_elem? (l ++ a ∷ []) i ≡ some b → get_elem? l i ≡ some b
before [] a b i lt e = absurd (omega arith)
before (x ∷ xs) a b zero lt e = e
before (x ∷ xs) a b (suc i) lt e = before xs a b i (omega arith) e

snoc_here : (tickets : List Standing) (how : Standing) (k : ℕ) → k ≡ length tickets → slice_get (tickets ++ how ∷ []) k ≡ Some how
snoc_here [] how zero e = refl
snoc_here [] how (suc k) e = absurd (omega arith)
snoc_here (t ∷ ts) how zero e = absurd (omega arith)
snoc_here (t ∷ ts) how (suc k) e = snoc_here ts how k (omega arith)

same_length : (views : List View) (id : ℕ) (w : View) (workers : ℕ) → length (set views id w) ≤ workers → length views ≤ workers
same_length views id w workers le = let e = length-set views id w in omega arith

same_holder : (v w : ℕ) → Some (Held v) ≡ Some (Held w) → v ≡ w
same_holder v w e = (cc)

-- a held ticket stays held where its standing stays
held_still : (old now : List Standing) (keeper : ℕ → ℕ) (i k : ℕ) → ((w : ℕ) → slice_get old k ≡ Some (Held w) → slice_get now k ≡ Some (Held w)) → IsHeldFor old keeper i k → IsHeldFor now keeper i k
held_still old now keeper i k still (w, is, kept) = (w, still w is, kept)

-- which pass has a view, once pass `other` was joined into pass `id`
data WhichOf (views : List View) (id : ℕ) (v : View) (other : ℕ) (w : View) (i : ℕ) (u : View) : Type 0 where
  spent : spent_view ≡ u → WhichOf views id v other w i u
  first : i ≡ id → joined v w ≡ u → WhichOf views id v other w i u
  third : i ≢ other → i ≢ id → get_elem? views i ≡ some u → WhichOf views id v other w i u

module _ (n next least : ℕ) (views : List View) (id : ℕ) (v : View) (r : IsKept n next least views) (h : IsReached n next least views) (at : get_elem? views id ≡ some v) where
  -- where the view of the pass has become another with the same share
  own_set : (w : View) → share w ≡ share v → (i : ℕ) (u : View) → get_elem? (set views id w) i ≡ some u → 1 ≤ share u → h.keeper i ≡ i
  own_set w same i u e some_share = ⊎_elim
      (λ (t : (i ≡ id) × (w ≡ u)). let some_of_v : 1 ≤ share v = (let a = ap share t.1 in omega arith) in subst (λ (j : ℕ). h.keeper j ≡ j) (sym t.0) (h.own id v at some_of_v))
      (λ (t : (i ≢ id) × (get_elem? views i ≡ some u)). h.own i u t.1 some_share)
      (at_set views id i w u e)

  later_set : (w : View) (i : ℕ) → length (set views id w) ≤ i → h.keeper i ≡ i
  later_set w i le = h.later i (same_length views id w i le)

  held_set : (w : View) (now : List Standing) → ((k : ℕ) → IsHeld w k → IsHeldFor now h.keeper id k) → ((j k : ℕ) (u : View) → j ≢ id → get_elem? views j ≡ some u → IsHeld u k → IsHeldFor now h.keeper j k) → (i k : ℕ) (u : View) → get_elem? (set views id w) i ≡ some u → IsHeld u k → IsHeldFor now h.keeper i k
  held_set w now mine others i k u e is = ⊎_elim
      (λ (t : (i ≡ id) × (w ≡ u)). subst (λ (j : ℕ). IsHeldFor now h.keeper j k) (sym t.0) (mine k (subst (λ (z : View). IsHeld z k) (sym t.1) is)))
      (λ (t : (i ≢ id) × (get_elem? views i ≡ some u)). others i k u t.0 t.1 is)
      (at_set views id i w u e)

  -- a step that is no event
  pub unmoved : (w : View) → w.drawn ≡ v.drawn → w.done ≡ v.done → w.faulty ≡ v.faulty → w.skipped ≡ v.skipped → share w ≡ share v → (later : ℕ) → min later n ≡ min next n → IsLedTo n later least (set views id w) h.keeper h.events
  unmoved w drawn done faulty skipped shares later same = (
    record {
      events = h.events;
      tickets = h.tickets;
      keeper = h.keeper;
      run = λ workers le. h.run workers (same_length views id w workers le);
      drawn = h.drawn ∙ sym same;
      stand = record {
        done = list_same views id v w at h.tickets h.tickets (λ u. u.done) is_done done (λ x. refl) h.stand.done;
        faulty = list_same views id v w at h.tickets h.tickets (λ u. u.faulty) is_faulty faulty (λ x. refl) h.stand.faulty;
        skipped = list_same views id v w at h.tickets h.tickets (λ u. u.skipped) is_skipped skipped (λ x. refl) h.stand.skipped;
      };
      own = own_set w shares;
      later = later_set w;
      held = held_set w h.tickets
          (λ k is. h.held id k v at (let a = ap (times k) drawn in let b = ap (times k) done in let c = ap (times k) faulty in let d = ap (times k) skipped in let e = is.0 in let f = is.1 in (omega arith, omega arith)))
          (λ j k u apart e is. h.held j k u e is);
    },
    refl,
    refl,
  )

  -- a draw below n is the event Draw of the pass
  pub draws_run : next < n → 1 ≤ share v → IsLedTo n (next + 1) least (set views id (with_drawn v next)) h.keeper (h.events ++ on.Draw id ∷ [])
  draws_run hit some_share =
      let w = with_drawn v next in
      let tickets : List Standing = h.tickets ++ Held id ∷ [] in
      let still : (k x : ℕ) → slice_get h.tickets k ≡ Some (Held x) → slice_get tickets k ≡ Some (Held x) = λ k x is. snoc_there h.tickets (Held id) (Held x) k is in (
        record {
          events = h.events ++ on.Draw id ∷ [];
          tickets = tickets;
          keeper = h.keeper;
          run = λ workers le.
              let enough = same_length views id w workers le in
              let within : nat_lt id workers ≡ true = (let a = id_within views id v at in grind (arith, nat_tests)) in
              let left : nat_lt (length h.tickets) n ≡ true = (let a = h.drawn in grind (arith, nat_tests)) in
              after_snoc (start workers n) record { workers = workers; n = n; least = least; tickets = h.tickets } h.events (on.Draw id) (h.run workers enough) ∙ rw (within, left) refl;
          drawn = let a = length-append h.tickets (Held id ∷ []) in let b = h.drawn in omega arith;
          stand = record {
            done = list_same views id v w at h.tickets tickets (λ u. u.done) is_done refl (snoc_same is_done id refl refl h.tickets) h.stand.done;
            faulty = list_same views id v w at h.tickets tickets (λ u. u.faulty) is_faulty refl (snoc_same is_faulty id refl refl h.tickets) h.stand.faulty;
            skipped = list_same views id v w at h.tickets tickets (λ u. u.skipped) is_skipped refl (snoc_same is_skipped id refl refl h.tickets) h.stand.skipped;
          };
          own = own_set w refl;
          later = later_set w;
          held = held_set w tickets
              (λ k is. ⊎_elim
              (λ (old : 1 ≤ times k v.drawn). held_still h.tickets tickets h.keeper id k (still k) (h.held id k v at (old, is.1)))
              (λ (new : k ≡ next). (id, snoc_here h.tickets (Held id) k (let a = h.drawn in omega arith), h.own id v at some_share))
              (times_snoc k next v.drawn is.0))
              (λ j k u apart e is. held_still h.tickets tickets h.keeper j k (still k) (h.held j k u e is));
        },
        refl,
        refl,
      )

  module _ (k : ℕ) (held : IsHeld v k) where
    -- the worker that drew the ticket, which holds it
    pub holder : IsHeldFor h.tickets h.keeper id k
    holder = h.held id k v at held

    is_holder : is_held_by holder.0 (slice_get h.tickets k) ≡ true
    is_holder = rw (holder.1) (let w = holder.0 in let e : w == w ≡ true = grind (arith, nat_tests) in e)

    -- no other pass holds it
    apart_from : (j x : ℕ) (u : View) → j ≢ id → get_elem? views j ≡ some u → IsHeld u x → x ≢ k
    apart_from j x u apart e is same =
        let theirs = h.held j x u e is in
        let at_k : slice_get h.tickets k ≡ Some (Held theirs.0) = subst (λ (y : ℕ). slice_get h.tickets y ≡ Some (Held theirs.0)) same theirs.1 in
        apart (sym theirs.2 ∙ ap h.keeper (same_holder theirs.0 holder.0 (sym at_k ∙ holder.1)) ∙ holder.2)

    -- the ticket stands otherwise from now on, and the pass has settled it
    held_after : (w : View) (how : Standing) → ((x : ℕ) → IsHeld w x → (x ≢ k) × IsHeld v x) → (i x : ℕ) (u : View) → get_elem? (set views id w) i ≡ some u → IsHeld u x → IsHeldFor (slice_set h.tickets k how) h.keeper i x
    held_after w how mine =
        let now : List Standing = slice_set h.tickets k how in
        let still : (x y : ℕ) → x ≢ k → slice_get h.tickets x ≡ Some (Held y) → slice_get now x ≡ Some (Held y) = λ x y n is. set_there h.tickets k x how n ∙ is in
        held_set w now
        (λ x is. let m = mine x is in held_still h.tickets now h.keeper id x (λ y. still x y m.0) (h.held id x v at m.1))
        (λ j x u apart e is. held_still h.tickets now h.keeper j x (λ y. still x y (apart_from j x u apart e is)) (h.held j x u e is))

    -- a ticket that is held still, where this one was settled, is another
    other_than : (x : ℕ) (drawn : 1 ≤ times x v.drawn) → settled x v + times x (k ∷ []) ≡ 0 → (x ≢ k) × IsHeld v x
    other_than x drawn none = ((λ same. let a = times_here x k same in omega arith), (drawn, omega arith))

    pub done_run : IsLedTo n next least (set views id (with_done v k)) h.keeper (h.events ++ on.Done holder.0 k ∷ [])
    done_run =
        let w = with_done v k in
        let tickets : List Standing = slice_set h.tickets k Done in
        let by = holder in (
          record {
            events = h.events ++ on.Done by.0 k ∷ [];
            tickets = tickets;
            keeper = h.keeper;
            run = λ workers le.
                after_snoc (start workers n) record { workers = workers; n = n; least = least; tickets = h.tickets } h.events (on.Done by.0 k) (h.run workers (same_length views id w workers le)) ∙ rw is_holder refl;
            drawn = length-set h.tickets k Done ∙ h.drawn;
            stand = record {
              done = list_more views id v w at h.tickets tickets (λ u. u.done) is_done k refl (set_more is_done h.tickets k by.0 Done by.1 refl refl) h.stand.done;
              faulty = list_same views id v w at h.tickets tickets (λ u. u.faulty) is_faulty refl (set_same is_faulty h.tickets k by.0 Done by.1 refl refl) h.stand.faulty;
              skipped = list_same views id v w at h.tickets tickets (λ u. u.skipped) is_skipped refl (set_same is_skipped h.tickets k by.0 Done by.1 refl refl) h.stand.skipped;
            };
            own = own_set w refl;
            later = later_set w;
            held = held_after w Done (λ x is. other_than x is.0 (let a = times-append x v.done (k ∷ []) in let b = is.1 in omega arith));
          },
          refl,
          refl,
        )

    pub faulty_run : IsLedTo n next (min least k) (set views id (with_faulty v k)) h.keeper (h.events ++ on.Fault holder.0 k ∷ [])
    faulty_run =
        let w = with_faulty v k in
        let tickets : List Standing = slice_set h.tickets k Faulty in
        let by = holder in (
          record {
            events = h.events ++ on.Fault by.0 k ∷ [];
            tickets = tickets;
            keeper = h.keeper;
            run = λ workers le.
                after_snoc (start workers n) record { workers = workers; n = n; least = least; tickets = h.tickets } h.events (on.Fault by.0 k) (h.run workers (same_length views id w workers le)) ∙ rw is_holder refl;
            drawn = length-set h.tickets k Faulty ∙ h.drawn;
            stand = record {
              done = list_same views id v w at h.tickets tickets (λ u. u.done) is_done refl (set_same is_done h.tickets k by.0 Faulty by.1 refl refl) h.stand.done;
              faulty = list_more views id v w at h.tickets tickets (λ u. u.faulty) is_faulty k refl (set_more is_faulty h.tickets k by.0 Faulty by.1 refl refl) h.stand.faulty;
              skipped = list_same views id v w at h.tickets tickets (λ u. u.skipped) is_skipped refl (set_same is_skipped h.tickets k by.0 Faulty by.1 refl refl) h.stand.skipped;
            };
            own = own_set w refl;
            later = later_set w;
            held = held_after w Faulty (λ x is. other_than x is.0 (let a = times-append x v.faulty (k ∷ []) in let b = is.1 in omega arith));
          },
          refl,
          refl,
        )

    pub skipped_run : (seen : ℕ) → seen < k → 1 ≤ times seen v.loaded → IsLedTo n next least (set views id (with_skipped v k)) h.keeper (h.events ++ on.Skip holder.0 k seen ∷ [])
    skipped_run seen below loaded =
        let w = with_skipped v k in
        let tickets : List Standing = slice_set h.tickets k Skipped in
        let by = holder in
        let in_n = drawn_below n next least views id v k r at held.0 in
        let reported = (r.loaded seen (let a = total_at (λ u. times seen u.loaded) views id v at in omega arith)).2 (omega arith) in
        let faulty : is_faulty (slice_get h.tickets seen) ≡ true = so (is_faulty (slice_get h.tickets seen)) (let e = h.stand.faulty seen in omega arith) in
        let less : nat_lt seen k ≡ true = grind (arith, nat_tests) in (
          record {
            events = h.events ++ on.Skip by.0 k seen ∷ [];
            tickets = tickets;
            keeper = h.keeper;
            run = λ workers le.
                after_snoc (start workers n) record { workers = workers; n = n; least = least; tickets = h.tickets } h.events (on.Skip by.0 k seen) (h.run workers (same_length views id w workers le)) ∙ rw (is_holder, less, faulty) refl;
            drawn = length-set h.tickets k Skipped ∙ h.drawn;
            stand = record {
              done = list_same views id v w at h.tickets tickets (λ u. u.done) is_done refl (set_same is_done h.tickets k by.0 Skipped by.1 refl refl) h.stand.done;
              faulty = list_same views id v w at h.tickets tickets (λ u. u.faulty) is_faulty refl (set_same is_faulty h.tickets k by.0 Skipped by.1 refl refl) h.stand.faulty;
              skipped = list_more views id v w at h.tickets tickets (λ u. u.skipped) is_skipped k refl (set_more is_skipped h.tickets k by.0 Skipped by.1 refl refl) h.stand.skipped;
            };
            own = own_set w refl;
            later = later_set w;
            held = held_after w Skipped (λ x is. other_than x is.0 (let a = times-append x v.skipped (k ∷ []) in let b = is.1 in omega arith));
          },
          refl,
          refl,
        )
      where
        so : (b : Bool) → 1 ≤ one_if b → b ≡ true
        so true h = refl
        so false h = absurd (omega arith)

  -- a pass is split off this one
  pub split_run : 2 ≤ v.room → IsLedTo n next least (set views id (with_less_room v) ++ newcomer v.n 1 ∷ []) h.keeper h.events
  split_run room =
      let left = with_less_room v in let right = newcomer v.n 1 in
      let final : List View = set views id left ++ right ∷ [] in
      let longer : length final ≡ length views + 1 = (let a = length-set views id left in let b = length-append (set views id left) (right ∷ []) in omega arith) in
      let sum : (f : View → ℕ) → total f final + f v ≡ total f views + f left + f right = λ f. total_split f views id v left right at in (
        record {
          events = h.events;
          tickets = h.tickets;
          keeper = h.keeper;
          run = λ workers le. h.run workers (omega arith);
          drawn = h.drawn;
          stand = record {
            done = λ x. let t = sum (λ u. times x u.done) in let o = h.stand.done x in omega arith;
            faulty = λ x. let t = sum (λ u. times x u.faulty) in let o = h.stand.faulty x in omega arith;
            skipped = λ x. let t = sum (λ u. times x u.skipped) in let o = h.stand.skipped x in omega arith;
          };
          own = λ i u e some_share. dite (dec_le (length views) i)
              (λ new. h.later i new)
              (λ old. own_left i u (before (set views id left) right u i (let a = length-set views id left in omega arith) e) some_share);
          later = λ i le. h.later i (omega arith);
          held = λ i k u e is. ⊎_elim
              (λ (was : get_elem? (set views id left) i ≡ some u). held_set left h.tickets (λ x m. h.held id x v at m) (λ j x w apart f m. h.held j x w f m) i k u was is)
              (λ (new : right ≡ u). absurd (let a = subst (λ (z : View). IsHeld z k) (sym new) is in let b = a.0 in omega arith))
              (at_snoc (set views id left) right u i e);
        },
        refl,
        refl,
      )
    where
      own_left : (i : ℕ) (u : View) → get_elem? (set views id (with_less_room v)) i ≡ some u → 1 ≤ share u → h.keeper i ≡ i
      own_left i u e some_share = ⊎_elim
          (λ (t : (i ≡ id) × (with_less_room v ≡ u)). subst (λ (j : ℕ). h.keeper j ≡ j) (sym t.0) (h.own id v at (omega arith)))
          (λ (t : (i ≢ id) × (get_elem? views i ≡ some u)). h.own i u t.1 some_share)
          (at_set views id i (with_less_room v) u e)

  -- another pass gives this one all that it has
  pub joined_run : (other : ℕ) (w : View) → other ≢ id → get_elem? views other ≡ some w → 1 ≤ share v → IsLedTo n next least (set (set views id (joined v w)) other spent_view) (handed h.keeper other id) h.events
  joined_run other w apart there some_share =
      let both = joined v w in
      let final : List View = set (set views id both) other spent_view in
      let same : length final ≡ length views = (let a = length-set (set views id both) other spent_view in let b = length-set views id both in omega arith) in
      let still : get_elem? (set views id both) other ≡ some w = set_else views id other both apart ∙ there in
      let sum : (f : View → ℕ) → total f final + f w + f v ≡ total f views + f both + f spent_view = λ f. total_both f views id other v w both spent_view at still in (
        record {
          events = h.events;
          tickets = h.tickets;
          keeper = handed h.keeper other id;
          run = λ workers le. h.run workers (omega arith);
          drawn = h.drawn;
          stand = record {
            done = λ x. let t = sum (λ u. times x u.done) in let a = times-append x v.done w.done in let o = h.stand.done x in omega arith;
            faulty = λ x. let t = sum (λ u. times x u.faulty) in let a = times-append x v.faulty w.faulty in let o = h.stand.faulty x in omega arith;
            skipped = λ x. let t = sum (λ u. times x u.skipped) in let a = times-append x v.skipped w.skipped in let o = h.stand.skipped x in omega arith;
          };
          own = λ i u e some_left. elim (which i u e) [
            | spent none ↦ absurd (let a = ap share none in omega arith)
            | first is b ↦ subst (λ (j : ℕ). handed h.keeper other id j ≡ j) (sym is) (handed_else h.keeper other id id (λ g. apart (sym g ∙ h.own id v at some_share)) ∙ h.own id v at some_share)
            | third n m f ↦ let o = h.own i u f some_left in handed_else h.keeper other id i (λ g. n (sym o ∙ g)) ∙ o
          ];
          later = λ i le. let o = h.later i (omega arith) in let within = id_within views other w there in handed_else h.keeper other id i (λ g. let a = o in omega arith) ∙ o;
          held = λ i k u e is. elim (which i u e) [
            | spent none ↦ absurd (let a = ap (λ (z : View). times k z.drawn) none in let b = is.0 in omega arith)
            | first same b ↦ subst (λ (j : ℕ). IsHeldFor h.tickets (handed h.keeper other id) j k) (sym same) (of_both k (subst (λ (z : View). IsHeld z k) (sym b) is))
            | third n m f ↦ let t = h.held i k u f is in (t.0, t.1, handed_else h.keeper other id t.0 (λ g. n (sym t.2 ∙ g)) ∙ t.2)
          ];
        },
        refl,
        refl,
      )
    where
      which : (i : ℕ) (u : View) → get_elem? (set (set views id (joined v w)) other spent_view) i ≡ some u → WhichOf views id v other w i u
      which i u e = ⊎_elim
          (λ (t : (i ≡ other) × (spent_view ≡ u)). spent t.1)
          (λ (t : (i ≢ other) × (get_elem? (set views id (joined v w)) i ≡ some u)). ⊎_elim
          (λ (s : (i ≡ id) × (joined v w ≡ u)). first s.0 s.1)
          (λ (s : (i ≢ id) × (get_elem? views i ≡ some u)). third t.0 s.0 s.1)
          (at_set views id i (joined v w) u t.1))
          (at_set (set views id (joined v w)) other i spent_view u e)

      of_both : (k : ℕ) → IsHeld (joined v w) k → IsHeldFor h.tickets (handed h.keeper other id) id k
      of_both k is =
          let a = times-append k v.drawn w.drawn in let b = times-append k v.done w.done in let c = times-append k v.faulty w.faulty in let d = times-append k v.skipped w.skipped in
          let drew = is.0 in let none = is.1 in
          dite (dec_le 1 (times k v.drawn))
          (λ mine. let t = h.held id k v at (mine, omega arith) in (t.0, t.1, handed_else h.keeper other id t.0 (λ g. apart (sym g ∙ t.2)) ∙ t.2))
          (λ theirs. let t = h.held other k w there (omega arith, omega arith) in (t.0, t.1, handed_here h.keeper other id t.0 t.2))

  -- this pass gives all that it has to a new one
  pub moved_run : IsLedTo n next least (set views id spent_view ++ v ∷ []) (handed h.keeper id (length views)) h.events
  moved_run =
      let final : List View = set views id spent_view ++ v ∷ [] in
      let size : length (set views id spent_view) ≡ length views = length-set views id spent_view in
      let longer : length final ≡ length views + 1 = (let b = length-append (set views id spent_view) (v ∷ []) in omega arith) in
      let within : id < length views = id_within views id v at in
      let sum : (f : View → ℕ) → total f final + f v ≡ total f views + f spent_view + f v = λ f. total_split f views id v spent_view v at in
      let old : (i : ℕ) (u : View) → i < length views → get_elem? final i ≡ some u → (spent_view ≡ u) ⊎ ((i ≢ id) × (get_elem? views i ≡ some u)) = λ i u lt e. ⊎_elim
      (λ (t : (i ≡ id) × (spent_view ≡ u)). inl t.1)
      (λ (t : (i ≢ id) × (get_elem? views i ≡ some u)). inr t)
      (at_set views id i spent_view u (before (set views id spent_view) v u i (omega arith) e)) in
      let fresh : (i : ℕ) → length views ≤ i → handed h.keeper id (length views) i ≡ i = λ i le. let o = h.later i le in handed_else h.keeper id (length views) i (λ g. let a = o in omega arith) ∙ o in (
        record {
          events = h.events;
          tickets = h.tickets;
          keeper = handed h.keeper id (length views);
          run = λ workers le. h.run workers (omega arith);
          drawn = h.drawn;
          stand = record {
            done = λ x. let t = sum (λ u. times x u.done) in let o = h.stand.done x in omega arith;
            faulty = λ x. let t = sum (λ u. times x u.faulty) in let o = h.stand.faulty x in omega arith;
            skipped = λ x. let t = sum (λ u. times x u.skipped) in let o = h.stand.skipped x in omega arith;
          };
          own = λ i u e some_left. dite (dec_le (length views) i)
              (λ new. fresh i new)
              (λ lt. ⊎_elim
              (λ (none : spent_view ≡ u). absurd (let a = ap share none in omega arith))
              (λ (t : (i ≢ id) × (get_elem? views i ≡ some u)). let o = h.own i u t.1 some_left in handed_else h.keeper id (length views) i (λ g. t.0 (sym o ∙ g)) ∙ o)
              (old i u (omega arith) e));
          later = λ i le. fresh i (omega arith);
          held = λ i k u e is. dite (dec_le (length views) i)
              (λ new.
              let last : length views ≡ i = (let a = id_within final i u e in omega arith) in
              let t = h.held id k v at (subst (λ (z : View). IsHeld z k) (sym (⊎_elim (λ was. absurd (let a = id_within (set views id spent_view) i u was in omega arith)) (λ (is_v : v ≡ u). is_v) (at_snoc (set views id spent_view) v u i e))) is) in
              (t.0, t.1, handed_here h.keeper id (length views) t.0 t.2 ∙ last))
              (λ lt. ⊎_elim
              (λ (none : spent_view ≡ u). absurd (let a = ap (λ (z : View). times k z.drawn) none in let b = is.0 in omega arith))
              (λ (t : (i ≢ id) × (get_elem? views i ≡ some u)). let o = h.held i k u t.1 is in (o.0, o.1, handed_else h.keeper id (length views) o.0 (λ g. t.0 (sym o.2 ∙ g)) ∙ o.2))
              (old i u (omega arith) e));
        },
        refl,
        refl,
      )
