-- Each kind of step keeps the rule of a board, and tells its pass what it says.
use Rattle.std.proofs.Common.{◌≡◌, ◌≢◌, ℕ, zero, suc, ◌+◌, ◌%◌, ◌^◌, ◌<◌, ◌≤◌, true, false, List, [], ◌∷◌, length, set, min, refl, sym, ap, ◌∙◌, subst, arith, length-set, get_or-set_same, get_or-set_other}
use Rattle.std.specs.Prelude.{nat_lt, slice_index}
use Rattle.std.proofs.lemmas.Bool.Decides.{nat_tests}
use mathlib.Core.Option.{some, none, some-injective, some-ne-none}
use mathlib.Core.Logic.{dite}
use native.Mathlib.Decide.{dec_lt}
use lib.ListN.{get_elem?}
use Rattle.atomic_table.specs.Table.{step, keeps, stepped, Allows, Splits, Joins, Final, Seen}
use Rattle.atomic_table.proofs.Lists.{set_again, set_else}
use Rattle.sop_claim.specs.declared.rule.View.{View}
use Rattle.sop_claim.specs.declared.rule.TheConstants.{WHOLE_SHARE}
use Rattle.sop_claim.specs.declared.board.BoardEnd.{BoardEnd}
use Rattle.sop_claim.specs.Views.{times, settled, IsHeld, HasLoadedBelow, share, newcomer, with_drawn, with_miss, with_faulty, with_loaded, with_done, with_skipped, with_less_room, joined}
use Rattle.sop_claim.specs.BoardRule.{once_below, first_view, reported_by_all, IsSound, IsKept, IsReached, Rule, Place, Draws, Reports, Loads, Settles, Weighs, spent_view}
use Rattle.sop_claim.specs.Ends.{Knows, EndsRun}
use Rattle.sop_claim.proofs.Sums.{total_at, total_alone, total_two}
use Rattle.sop_claim.proofs.Keeps.{missed_le_share, drawn_below, done_kept, skipped_kept, loaded_kept, told_above, faulty_kept, drawn_kept, missed_kept, split_kept, joined_kept}
use Rattle.sop_claim.proofs.Runs.{unmoved, draws_run, done_run, faulty_run, skipped_run, split_run, joined_run}

abbrev Holds : ℕ → List View → ℕ × ℕ → Type 0
Holds n views z = IsKept n z.0 z.1 views × IsReached n z.0 z.1 views

-- the words after a step on word 0, and after one on word 1
at_next : (n : ℕ) (words : List ℕ) (views : List View) (m : ℕ) → length words ≡ 2 → Holds n views (m, slice_index words 1) → Rule n record { words = set words 0 m; homes = []; views = views }
at_next n words views m two k =
    let zeroth : slice_index (set words 0 m) 0 ≡ m = get_or-set_same words 0 m 0 (omega arith) in
    let first : slice_index (set words 0 m) 1 ≡ slice_index words 1 = get_or-set_other words 0 1 m 0 (λ e. omega arith) in
    let now = subst (Holds n views) (λ i. (sym zeroth i, sym first i)) k in
    (length-set words 0 m ∙ two, now.0, now.1)

at_least : (n : ℕ) (words : List ℕ) (views : List View) (m : ℕ) → length words ≡ 2 → Holds n views (slice_index words 0, m) → Rule n record { words = set words 1 m; homes = []; views = views }
at_least n words views m two k =
    let zeroth : slice_index (set words 1 m) 0 ≡ slice_index words 0 = get_or-set_other words 1 0 m 0 (λ e. omega arith) in
    let first : slice_index (set words 1 m) 1 ≡ m = get_or-set_same words 1 m 0 (omega arith) in
    let now = subst (Holds n views) (λ i. (sym zeroth i, sym first i)) k in
    (length-set words 1 m ∙ two, now.0, now.1)

pub draws : (n slots id : ℕ) (me : Place) → 1 ≤ me.0.room → me.0.n ≡ n → Allows (Rule n) slots id me 0 (λ x. (x + 1) % 2 ^ 64) (Draws (step slots 0 1 0 none) me)
draws n slots id me room bound s (two, r, h) _ at fits =
    let x : ℕ = slice_index s.words 0 in
    let few = missed_le_share s.views in let small = r.small in let shares = r.shares in let counted = r.counted in
    let no_wrap : (x + 1) % 2 ^ 64 ≡ x + 1 = omega arith in
    let P : View → ℕ → Type 0 = λ w m. Rule n (stepped s 0 m id me.1 w keeps) in
    dite (dec_lt x n)
    (λ hit.
    let test : nat_lt x me.0.n ≡ true = grind (arith, nat_tests) in
    (with_drawn me.0 x, keeps, tt, subst (P (with_drawn me.0 x)) (sym no_wrap) (at_next n s.words _ (x + 1) two (drawn_kept n x _ s.views id me.0 r at hit (omega arith), (draws_run n x _ s.views id me.0 r h at hit (omega arith)).0)), (refl, rw test (refl, λ y drew. let below = drawn_below n x _ s.views id me.0 y r at drew in omega arith))))
    (λ miss.
    let test : nat_lt x me.0.n ≡ false = grind (arith, nat_tests) in
    (with_miss me.0, keeps, tt, subst (P (with_miss me.0)) (sym no_wrap) (at_next n s.words _ (x + 1) two (missed_kept n x _ s.views id me.0 r at (omega arith) room, (unmoved n x _ s.views id me.0 r h at (with_miss me.0) refl refl refl refl (omega arith) (x + 1) (omega arith)).0)), (refl, rw test refl)))

pub reports : (n slots id : ℕ) (me : Place) (k : ℕ) → IsHeld me.0 k → Allows (Rule n) slots id me 1 (λ x. min x k) (Reports (step slots 1 k 0 none) me)
reports n slots id me k held s (two, r, h) _ at fits =
    (with_faulty me.0 k, keeps, tt, at_least n s.words _ _ two (faulty_kept n _ _ s.views id me.0 r at k held, (faulty_run n _ _ s.views id me.0 r h at k held).0), (refl, refl))

pub loads : (n slots id : ℕ) (me : Place) → me.0.n ≡ n → Allows (Rule n) slots id me 1 (λ x. x) (Loads (step slots 1 0 0 none) me)
loads n slots id me bound s (two, r, h) _ at fits =
    let least : ℕ = slice_index s.words 1 in
    (with_loaded me.0 least, keeps, tt, at_least n s.words _ _ two (loaded_kept n _ _ s.views id me.0 r at, (unmoved n _ _ s.views id me.0 r h at (with_loaded me.0 least) refl refl refl refl refl _ refl).0), (refl, refl, (let a = r.within in omega arith), told_above n _ _ s.views id me.0 r at))

pub settles_done : (n slots id : ℕ) (me : Place) (k : ℕ) → IsHeld me.0 k → Allows (Rule n) slots id me 1 (λ x. x) (Settles with_done k (step slots 1 0 0 none) me)
settles_done n slots id me k held s (two, r, h) _ at fits =
    (with_done me.0 k, keeps, tt, at_least n s.words _ _ two (done_kept n _ _ s.views id me.0 r at k held, (done_run n _ _ s.views id me.0 r h at k held).0), (refl, refl))

pub settles_skipped : (n slots id : ℕ) (me : Place) (k : ℕ) → IsHeld me.0 k → HasLoadedBelow me.0 k → Allows (Rule n) slots id me 1 (λ x. x) (Settles with_skipped k (step slots 1 0 0 none) me)
settles_skipped n slots id me k held below s (two, r, h) _ at fits =
    (with_skipped me.0 k, keeps, tt, at_least n s.words _ _ two (skipped_kept n _ _ s.views id me.0 r at k held below, (skipped_run n _ _ s.views id me.0 r h at k held below.0 below.1 below.2).0), (refl, refl))

pub splits : (n id : ℕ) (v : View) → 2 ≤ v.room → Splits (Rule n) id v (with_less_room v) (newcomer v.n 1)
splits n id v room s (two, r, h) at =
    (two, split_kept n _ _ s.views id v r at room, (split_run n _ _ s.views id v r h at room).0)

pub joins : (n id : ℕ) (v : View) (other : ℕ) (w : View) → 1 ≤ share v → Joins (Rule n) id v other w (joined v w) spent_view
joins n id v other w some_share s (two, r, h) at apart there =
    (two, joined_kept n _ _ s.views id v other w r at apart there some_share, (joined_run n _ _ s.views id v r h at other w apart (sym (set_else s.views id other (joined v w) apart) ∙ there) some_share).0)

pub weighs : (n slots id : ℕ) (me : Place) → Allows (Rule n) slots id me 0 (λ x. x) (Weighs (step slots 0 0 0 none) me)
weighs n slots id me s (two, r, h) _ at fits =
    let same = set_again s.views id me.0 at in
    (me.0, keeps, tt, at_next n s.words _ _ two (subst (λ (vs : List View). Holds n vs (slice_index s.words 0, slice_index s.words 1)) (sym same) (r, h)), (refl, refl, (let a = total_at share s.views id me.0 at in let b = r.shares in omega arith)))

-- the pass with the whole share knows all
module _ (n next least : ℕ) (views : List View) (id : ℕ) (v : View) (r : IsKept n next least views) (h : IsReached n next least views) (at : get_elem? views id ≡ some v) (all : share v ≡ WHOLE_SHARE) where
  none_drawn : (j : ℕ) (u : View) → j ≢ id → get_elem? views j ≡ some u → u.drawn ≡ []
  none_drawn j u apart e = (r.each j u e).spent (let t = total_two share views id j v u apart at e in let o = r.shares in omega arith)

  none_settled : (x j : ℕ) (u : View) → j ≢ id → get_elem? views j ≡ some u → settled x u ≡ 0
  none_settled x j u apart e = let a = (r.each j u e).own x in let b = ap (times x) (none_drawn j u apart e) in omega arith

  pub reported_alone : (x : ℕ) → reported_by_all x views ≡ times x v.faulty
  reported_alone x = total_alone (λ u. times x u.faulty) views id v at (λ j u apart e. let a = none_settled x j u apart e in omega arith)

  pub knows : Knows n record { drawn = min next n; least = least } v
  knows =
      let sound = r.each id v at in
      let told : (x : ℕ) → 1 ≤ times x v.loaded → (least ≤ x) × (x ≤ n) × (x < n → 1 ≤ times x v.faulty) = λ x any. let t = r.loaded x (let a = total_at (λ u. times x u.loaded) views id v at in omega arith) in (t.0, t.1, λ lt. let a = t.2 lt in let b = reported_alone x in omega arith) in record {
        up_to = omega arith;
        once = λ x. sym (total_alone (λ u. times x u.drawn) views id v at (λ j u apart e. ap (times x) (none_drawn j u apart e))) ∙ r.once x;
        ended = λ any. let a = r.ended (let b = total_at (λ u. u.missed) views id v at in omega arith) in omega arith;
        within = r.within;
        lower = λ x lt. sym (reported_alone x) ∙ r.lower x lt;
        reached = λ lt. let a = r.reached lt in let b = reported_alone least in omega arith;
        loaded = told;
        own = sound.own;
        above = λ x any. let a = sound.above x any in let b = (told a.0 a.2).0 in let c = a.1 in omega arith;
      }

  pub ends_run : EndsRun n record { drawn = min next n; least = least } v
  ends_run = record {
    workers = length views;
    events = h.events;
    claims = record { workers = length views; n = n; least = least; tickets = h.tickets };
    run = h.run (length views) (omega arith);
    drawn = h.drawn;
    least = refl;
    stand = record {
      done = λ x. let a = total_alone (λ u. times x u.done) views id v at (λ j u apart e. let b = none_settled x j u apart e in omega arith) in let o = h.stand.done x in omega arith;
      faulty = λ x. let a = reported_alone x in let o = h.stand.faulty x in omega arith;
      skipped = λ x. let a = total_alone (λ u. times x u.skipped) views id v at (λ j u apart e. let b = none_settled x j u apart e in omega arith) in let o = h.stand.skipped x in omega arith;
    };
    held = λ k is. let t = h.held id k v at is in (t.0, t.1);
  }

pub whole : (n id : ℕ) (v : View) (words : List ℕ) (slots : List (Unit {0})) → share v ≡ WHOLE_SHARE → Final (Seen (Rule n) id v) words slots → (end : BoardEnd) → end ≡ record { drawn = min (slice_index words 0) n; least = slice_index words 1 } → Knows n end v × EndsRun n end v
whole n id v words slots all (s, ((two, r, h), at), is, _, _) end e =
    let now = subst (λ (ws : List ℕ). Knows n record { drawn = min (slice_index ws 0) n; least = slice_index ws 1 } v × EndsRun n record { drawn = min (slice_index ws 0) n; least = slice_index ws 1 } v) is
    (knows n _ _ s.views id v r h at all, ends_run n _ _ s.views id v r h at all) in
    subst (λ (b : BoardEnd). Knows n b v × EndsRun n b v) (sym e) now

-- a new board
pub begins : (n : ℕ) → n < 2 ^ 32 → Rule n record { words = 0 ∷ n ∷ []; homes = []; views = first_view n ∷ [] }
begins n small = (
  refl,
  record {
    small = small;
    once = λ x. let e : once_below x (min 0 n) ≡ 0 = grind (arith, nat_tests) in omega arith;
    within = omega arith;
    lower = λ x lt. refl;
    reached = λ lt. absurd (omega arith);
    loaded = λ x any. absurd (omega arith);
    each = λ i v e. only i v e;
    shares = refl;
    counted = omega arith;
    ended = λ any. absurd (omega arith);
  },
  record {
    events = [];
    tickets = [];
    keeper = λ w. w;
    run = λ workers le. refl;
    drawn = omega arith;
    stand = record { done = λ x. refl; faulty = λ x. refl; skipped = λ x. refl };
    own = λ i v e some_share. refl;
    later = λ i le. refl;
    held = λ i k v e is. absurd (let a = nothing i v k e in let b = is.0 in omega arith);
  },
)
  where
    only : (i : ℕ) (v : View) → get_elem? (first_view n ∷ []) i ≡ some v → IsSound v
    only zero v e = subst IsSound (some-injective (first_view n) v e) record { own = λ x. omega arith; above = λ x any. absurd (omega arith); spent = λ none. refl }
    only (suc i) v e = absurd (some-ne-none v (sym e))

    nothing : (i : ℕ) (v : View) (k : ℕ) → get_elem? (first_view n ∷ []) i ≡ some v → times k v.drawn ≡ 0
    nothing zero v k e = ap (λ (z : View). times k z.drawn) (sym (some-injective (first_view n) v e))
    nothing (suc i) v k e = absurd (some-ne-none v (sym e))
