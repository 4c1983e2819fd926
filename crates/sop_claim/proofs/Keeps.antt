-- Each step keeps what the rule says of the words and the views.
use Rattle.std.proofs.Common.{◌≡◌, ◌≢◌, ℕ, ◌+◌, ◌<◌, ◌≤◌, List, [], ◌∷◌, ◌++◌, set, min, refl, sym, ap, ◌∙◌, subst, ⊎_elim, arith}
use mathlib.Core.Option.{some}
use mathlib.Core.Logic.{dite}
use native.Mathlib.Decide.{dec_le, ℕ_discrete}
use lib.ListN.{get_elem?}
use Rattle.atomic_table.proofs.Lists.{at_set, at_snoc}
use Rattle.sop_claim.specs.declared.rule.View.{View}
use Rattle.sop_claim.specs.Views.{times, settled, IsHeld, HasLoadedBelow, share, newcomer, with_drawn, with_miss, with_faulty, with_loaded, with_done, with_skipped, with_less_room, joined}
use Rattle.sop_claim.specs.BoardRule.{total, once_below, drawn_by_all, reported_by_all, missed_by_all, IsSound, IsKept, spent_view}
use Rattle.sop_claim.proofs.Sums.{total_set, total_split, total_both, total_at, times-append, times_here, times_else, times_snoc, once_more, once_within}

pub missed_le_share : (views : List View) → missed_by_all views ≤ total share views
missed_le_share [] = omega arith
missed_le_share (v ∷ vs) = let h = missed_le_share vs in omega arith

-- all views are sound where one is replaced
each_set : (views : List View) (id : ℕ) (w : View) → ((i : ℕ) (u : View) → get_elem? views i ≡ some u → IsSound u) → IsSound w → (i : ℕ) (u : View) → get_elem? (set views id w) i ≡ some u → IsSound u
each_set views id w each new i u e =
    ⊎_elim (λ (t : (i ≡ id) × (w ≡ u)). subst IsSound t.1 new) (λ (t : (i ≢ id) × (get_elem? views i ≡ some u)). each i u t.1) (at_set views id i w u e)

-- a settled ticket more: x is settled no more often than it was drawn
one_more : (v : View) (k x : ℕ) → IsSound v → IsHeld v k → settled x v + times x (k ∷ []) ≤ times x v.drawn
one_more v k x sound held =
    let own = sound.own x in dite (ℕ_discrete x k)
    (λ is. let h = times_here x k is in subst (λ (y : ℕ). settled y v + times y (k ∷ []) ≤ times y v.drawn) (sym is) (let a = held.0 in let b = held.1 in let g = times_here k k refl in omega arith))
    (λ no. let h = times_else x k no in omega arith)

done_sound : (v : View) (k : ℕ) → IsSound v → IsHeld v k → IsSound (with_done v k)
done_sound v k f held = record {
  own = λ x. let a = one_more v k x f held in let b = times-append x v.done (k ∷ []) in omega arith;
  above = f.above;
  spent = f.spent;
}

skipped_sound : (v : View) (k : ℕ) → IsSound v → IsHeld v k → HasLoadedBelow v k → IsSound (with_skipped v k)
skipped_sound v k f held least = record {
  own = λ x. let a = one_more v k x f held in let b = times-append x v.skipped (k ∷ []) in omega arith;
  above = λ x any. ⊎_elim (λ old. f.above x old) (λ (is : x ≡ k). subst (HasLoadedBelow v) (sym is) least) (times_snoc x k v.skipped any);
  spent = f.spent;
}

faulty_sound : (v : View) (k : ℕ) → IsSound v → IsHeld v k → IsSound (with_faulty v k)
faulty_sound v k f held = record {
  own = λ x. let a = one_more v k x f held in let b = times-append x v.faulty (k ∷ []) in omega arith;
  above = f.above;
  spent = f.spent;
}

loaded_sound : (v : View) (least : ℕ) → IsSound v → IsSound (with_loaded v least)
loaded_sound v least f = record {
  own = f.own;
  above = λ x any. let a = f.above x any in (a.0, a.1, (let b = a.2 in let c = times-append a.0 v.loaded (least ∷ []) in omega arith));
  spent = f.spent;
}

-- a ticket that a pass drew is below n and below word 0
pub drawn_below : (n next least : ℕ) (views : List View) (id : ℕ) (v : View) (k : ℕ) → IsKept n next least views → get_elem? views id ≡ some v → 1 ≤ times k v.drawn → k < min next n
drawn_below n next least views id v k r at drew =
    let a = total_at (λ u. times k u.drawn) views id v at in let o = r.once k in once_within k (min next n) (omega arith)

-- a step that changes one view
module _ (n next least : ℕ) (views : List View) (id : ℕ) (v : View) (r : IsKept n next least views) (at : get_elem? views id ≡ some v) where
  sound : IsSound v
  sound = r.each id v at

  -- one that draws and reports nothing, and loads the least at most
  quiet : (w : View) → share w ≡ share v → w.missed ≡ v.missed → w.drawn ≡ v.drawn → w.faulty ≡ v.faulty → ((x : ℕ) → times x w.loaded ≤ times x v.loaded + times x (least ∷ [])) → IsSound w → IsKept n next least (set views id w)
  quiet w shares missed drawn faulty loads new =
      let sum : (f : View → ℕ) → total f (set views id w) + f v ≡ total f views + f w = λ f. total_set f views id v w at in
      let same : (x : ℕ) → reported_by_all x (set views id w) ≡ reported_by_all x views = λ x. let t = sum (λ u. times x u.faulty) in let e = ap (times x) faulty in omega arith in record {
        small = r.small;
        once = λ x. let t = sum (λ u. times x u.drawn) in let e = ap (times x) drawn in let o = r.once x in omega arith;
        within = r.within;
        lower = λ x lt. same x ∙ r.lower x lt;
        reached = λ lt. let a = r.reached lt in let b = same least in omega arith;
        loaded = λ x any. dite (ℕ_discrete x least)
            (λ is. (omega arith, (let a = r.within in omega arith), λ lt. subst (λ (y : ℕ). 1 ≤ reported_by_all y (set views id w)) (sym is) (let a = r.reached (omega arith) in let b = same least in omega arith)))
            (λ no. let old = r.loaded x (let t = sum (λ u. times x u.loaded) in let a = loads x in let b = times_else x least no in omega arith) in (old.0, old.1, λ lt. let a = old.2 lt in let b = same x in omega arith));
        each = each_set views id w r.each new;
        shares = let t = sum share in let o = r.shares in omega arith;
        counted = let t = sum (λ u. u.missed) in let o = r.counted in omega arith;
        ended = λ any. r.ended (let t = sum (λ u. u.missed) in omega arith);
      }

  pub done_kept : (k : ℕ) → IsHeld v k → IsKept n next least (set views id (with_done v k))
  done_kept k held = quiet (with_done v k) refl refl refl refl (λ x. omega arith) (done_sound v k sound held)

  pub skipped_kept : (k : ℕ) → IsHeld v k → HasLoadedBelow v k → IsKept n next least (set views id (with_skipped v k))
  skipped_kept k held below = quiet (with_skipped v k) refl refl refl refl (λ x. omega arith) (skipped_sound v k sound held below)

  pub loaded_kept : IsKept n next least (set views id (with_loaded v least))
  loaded_kept = quiet (with_loaded v least) refl refl refl refl (λ x. let a = times-append x v.loaded (least ∷ []) in omega arith) (loaded_sound v least sound)

  -- no value that the pass told or was told is below the least
  pub told_above : (x : ℕ) → 1 ≤ times x v.faulty + times x v.loaded → least ≤ x
  told_above x told = dite (dec_le 1 (times x v.loaded))
      (λ any. (r.loaded x (let a = total_at (λ u. times x u.loaded) views id v at in omega arith)).0)
      (λ none. dite (dec_le least x) (λ le. le) (λ gt. let a = r.lower x (omega arith) in let b = total_at (λ u. times x u.faulty) views id v at in absurd (omega arith)))

  -- a reported ticket may be the new least
  pub faulty_kept : (k : ℕ) → IsHeld v k → IsKept n next (min least k) (set views id (with_faulty v k))
  faulty_kept k held =
      let w = with_faulty v k in
      let in_n = drawn_below n next least views id v k r at held.0 in
      let sum : (f : View → ℕ) → total f (set views id w) + f v ≡ total f views + f w = λ f. total_set f views id v w at in
      let more : (x : ℕ) → reported_by_all x (set views id w) ≡ reported_by_all x views + times x (k ∷ []) = λ x. let t = sum (λ u. times x u.faulty) in let e = times-append x v.faulty (k ∷ []) in omega arith in record {
        small = r.small;
        once = λ x. let t = sum (λ u. times x u.drawn) in let o = r.once x in omega arith;
        within = let o = r.within in omega arith;
        lower = λ x lt. let a = r.lower x (omega arith) in let b = more x in let c = times_else x k (omega arith) in omega arith;
        reached = λ lt. dite (dec_le least k)
            (λ le. let e : least ≡ min least k = omega arith in subst (λ (z : ℕ). 1 ≤ reported_by_all z (set views id w)) e (let a = r.reached (omega arith) in let b = more least in omega arith))
            (λ gt. let e : k ≡ min least k = omega arith in subst (λ (z : ℕ). 1 ≤ reported_by_all z (set views id w)) e (let b = more k in let c = times_here k k refl in omega arith));
        loaded = λ x any. let old = r.loaded x (let t = sum (λ u. times x u.loaded) in omega arith) in ((let a = old.0 in omega arith), old.1, λ lt. let a = old.2 lt in let b = more x in omega arith);
        each = each_set views id w r.each (faulty_sound v k sound held);
        shares = let t = sum share in let o = r.shares in omega arith;
        counted = let t = sum (λ u. u.missed) in let o = r.counted in omega arith;
        ended = λ any. r.ended (let t = sum (λ u. u.missed) in omega arith);
      }

  -- a draw below n
  pub drawn_kept : next < n → 1 ≤ share v → IsKept n (next + 1) least (set views id (with_drawn v next))
  drawn_kept hit some_share =
      let w = with_drawn v next in
      let sum : (f : View → ℕ) → total f (set views id w) + f v ≡ total f views + f w = λ f. total_set f views id v w at in
      let same : (x : ℕ) → reported_by_all x (set views id w) ≡ reported_by_all x views = λ x. let t = sum (λ u. times x u.faulty) in omega arith in record {
        small = r.small;
        once = λ x.
            let t = sum (λ u. times x u.drawn) in
            let a = times-append x v.drawn (next ∷ []) in
            let o : drawn_by_all x views ≡ once_below x next = r.once x ∙ ap (once_below x) (let m : min next n ≡ next = omega arith in m) in
            let m = once_more x next in
            let now : drawn_by_all x (set views id w) ≡ once_below x (next + 1) = omega arith in
            now ∙ ap (once_below x) (let e : next + 1 ≡ min (next + 1) n = omega arith in e);
        within = r.within;
        lower = λ x lt. same x ∙ r.lower x lt;
        reached = λ lt. let a = r.reached lt in let b = same least in omega arith;
        loaded = λ x any. let old = r.loaded x (let t = sum (λ u. times x u.loaded) in omega arith) in (old.0, old.1, λ lt. let a = old.2 lt in let b = same x in omega arith);
        each = each_set views id w r.each record {
          own = λ x. let a = sound.own x in let b = times-append x v.drawn (next ∷ []) in omega arith;
          above = sound.above;
          spent = λ none. absurd (omega arith);
        };
        shares = let t = sum share in let o = r.shares in omega arith;
        counted = let t = sum (λ u. u.missed) in let o = r.counted in omega arith;
        ended = λ any. absurd (let t = sum (λ u. u.missed) in let o = r.ended (omega arith) in omega arith);
      }

  -- a draw that finds nothing
  pub missed_kept : n ≤ next → 1 ≤ v.room → IsKept n (next + 1) least (set views id (with_miss v))
  missed_kept miss room =
      let w = with_miss v in
      let sum : (f : View → ℕ) → total f (set views id w) + f v ≡ total f views + f w = λ f. total_set f views id v w at in
      let same : (x : ℕ) → reported_by_all x (set views id w) ≡ reported_by_all x views = λ x. let t = sum (λ u. times x u.faulty) in omega arith in record {
        small = r.small;
        once = λ x.
            let t = sum (λ u. times x u.drawn) in
            let o = r.once x in
            let now : drawn_by_all x (set views id w) ≡ once_below x (min next n) = omega arith in
            now ∙ ap (once_below x) (let e : min next n ≡ min (next + 1) n = omega arith in e);
        within = r.within;
        lower = λ x lt. same x ∙ r.lower x lt;
        reached = λ lt. let a = r.reached lt in let b = same least in omega arith;
        loaded = λ x any. let old = r.loaded x (let t = sum (λ u. times x u.loaded) in omega arith) in (old.0, old.1, λ lt. let a = old.2 lt in let b = same x in omega arith);
        each = each_set views id w r.each record { own = sound.own; above = sound.above; spent = λ none. absurd (omega arith) };
        shares = let t = sum share in let o = r.shares in omega arith;
        counted = let t = sum (λ u. u.missed) in let o = r.counted in omega arith;
        ended = λ any. omega arith;
      }

-- a pass is split off another
pub split_kept : (n next least : ℕ) (views : List View) (id : ℕ) (v : View) → IsKept n next least views → get_elem? views id ≡ some v → 2 ≤ v.room → IsKept n next least (set views id (with_less_room v) ++ newcomer v.n 1 ∷ [])
split_kept n next least views id v r at room =
    let left = with_less_room v in let right = newcomer v.n 1 in
    let final : List View = set views id left ++ right ∷ [] in
    let sum : (f : View → ℕ) → total f final + f v ≡ total f views + f left + f right = λ f. total_split f views id v left right at in
    let same : (x : ℕ) → reported_by_all x final ≡ reported_by_all x views = λ x. let t = sum (λ u. times x u.faulty) in omega arith in
    let sound = r.each id v at in record {
      small = r.small;
      once = λ x. let t = sum (λ u. times x u.drawn) in let o = r.once x in omega arith;
      within = r.within;
      lower = λ x lt. same x ∙ r.lower x lt;
      reached = λ lt. let a = r.reached lt in let b = same least in omega arith;
      loaded = λ x any. let old = r.loaded x (let t = sum (λ u. times x u.loaded) in omega arith) in (old.0, old.1, λ lt. let a = old.2 lt in let b = same x in omega arith);
      each = λ i u e. ⊎_elim
          (λ was. each_set views id left r.each record { own = sound.own; above = sound.above; spent = λ none. absurd (omega arith) } i u was)
          (λ (is : right ≡ u). subst IsSound is record { own = λ x. omega arith; above = λ x any. absurd (omega arith); spent = λ none. refl })
          (at_snoc (set views id left) right u i e);
      shares = let t = sum share in let o = r.shares in omega arith;
      counted = let t = sum (λ u. u.missed) in let o = r.counted in omega arith;
      ended = λ any. r.ended (let t = sum (λ u. u.missed) in omega arith);
    }

-- two passes become one
pub joined_kept : (n next least : ℕ) (views : List View) (id : ℕ) (v : View) (other : ℕ) (w : View) → IsKept n next least views → get_elem? views id ≡ some v → other ≢ id → get_elem? (set views id (joined v w)) other ≡ some w → 1 ≤ share v → IsKept n next least (set (set views id (joined v w)) other spent_view)
joined_kept n next least views id v other w r at apart there some_share =
    let both = joined v w in
    let final : List View = set (set views id both) other spent_view in
    let sum : (f : View → ℕ) → total f final + f w + f v ≡ total f views + f both + f spent_view = λ f. total_both f views id other v w both spent_view at there in
    let same : (x : ℕ) → reported_by_all x final ≡ reported_by_all x views = λ x. let t = sum (λ u. times x u.faulty) in let a = times-append x v.faulty w.faulty in omega arith in
    let was : get_elem? views other ≡ some w = ⊎_elim (λ (t : (other ≡ id) × (both ≡ w)). absurd (apart t.0)) (λ (t : (other ≢ id) × (get_elem? views other ≡ some w)). t.1) (at_set views id other both w there) in
    let one = r.each id v at in let two = r.each other w was in
    let both_sound : IsSound both = record {
      own = λ x. let a = one.own x in let b = two.own x in let c = times-append x v.drawn w.drawn in let d = times-append x v.done w.done in let e = times-append x v.faulty w.faulty in let h = times-append x v.skipped w.skipped in omega arith;
      above = λ x any. dite (dec_le 1 (times x v.skipped))
          (λ yes. let a = one.above x yes in (a.0, a.1, (let b = a.2 in let c = times-append a.0 v.loaded w.loaded in omega arith)))
          (λ no. let a = two.above x (let h = times-append x v.skipped w.skipped in omega arith) in (a.0, a.1, (let b = a.2 in let c = times-append a.0 v.loaded w.loaded in omega arith)));
      spent = λ none. absurd (omega arith);
    } in
    let spent_sound : IsSound spent_view = record { own = λ x. omega arith; above = λ x any. absurd (omega arith); spent = λ none. refl } in record {
      small = r.small;
      once = λ x. let t = sum (λ u. times x u.drawn) in let o = r.once x in let a = times-append x v.drawn w.drawn in omega arith;
      within = r.within;
      lower = λ x lt. same x ∙ r.lower x lt;
      reached = λ lt. let a = r.reached lt in let b = same least in omega arith;
      loaded = λ x any. let old = r.loaded x (let t = sum (λ u. times x u.loaded) in let a = times-append x v.loaded w.loaded in omega arith) in (old.0, old.1, λ lt. let a = old.2 lt in let b = same x in omega arith);
      each = each_set (set views id both) other spent_view (each_set views id both r.each both_sound) spent_sound;
      shares = let t = sum share in let o = r.shares in omega arith;
      counted = let t = sum (λ u. u.missed) in let o = r.counted in omega arith;
      ended = λ any. r.ended (let t = sum (λ u. u.missed) in omega arith);
    }

spent_sound : IsSound spent_view
spent_sound = record { own = λ x. omega arith; above = λ x any. absurd (omega arith); spent = λ none'. refl }

-- a pass hands all that it knows to a new one
pub moved_kept : (n next least : ℕ) (views : List View) (id : ℕ) (v : View) → IsKept n next least views → get_elem? views id ≡ some v → IsKept n next least (set views id spent_view ++ v ∷ [])
moved_kept n next least views id v r at =
    let final : List View = set views id spent_view ++ v ∷ [] in
    let sum : (f : View → ℕ) → total f final + f v ≡ total f views + f spent_view + f v = λ f. total_split f views id v spent_view v at in
    let same : (x : ℕ) → reported_by_all x final ≡ reported_by_all x views = λ x. let t = sum (λ u. times x u.faulty) in omega arith in record {
      small = r.small;
      once = λ x. let t = sum (λ u. times x u.drawn) in let o = r.once x in omega arith;
      within = r.within;
      lower = λ x lt. same x ∙ r.lower x lt;
      reached = λ lt. let a = r.reached lt in let b = same least in omega arith;
      loaded = λ x any. let old = r.loaded x (let t = sum (λ u. times x u.loaded) in omega arith) in (old.0, old.1, λ lt. let a = old.2 lt in let b = same x in omega arith);
      each = λ i u e. ⊎_elim
          (λ was. ⊎_elim (λ (t : (i ≡ id) × (spent_view ≡ u)). subst IsSound t.1 spent_sound) (λ (t : (i ≢ id) × (get_elem? views i ≡ some u)). r.each i u t.1) (at_set views id i spent_view u was))
          (λ (is : v ≡ u). subst IsSound is (r.each id v at))
          (at_snoc (set views id spent_view) v u i e);
      shares = let t = sum share in let o = r.shares in omega arith;
      counted = let t = sum (λ u. u.missed) in let o = r.counted in omega arith;
      ended = λ any. r.ended (let t = sum (λ u. u.missed) in omega arith);
    }
