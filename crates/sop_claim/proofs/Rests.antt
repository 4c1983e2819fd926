-- Every run keeps what the claims need to end well.
use Rattle.std.proofs.Common.{◌≡◌, ◌≢◌, ◌⊎◌, ℕ, zero, suc, ◌<◌, ◌≤◌, Bool, true, false, List, [], ◌∷◌, ◌++◌, length, min, refl, ap, ◌∙◌, subst, ⊎_elim, inl, inr, arith}
use Rattle.std.specs.Prelude.{Option, Some, None, slice_get, slice_set, nat_lt, ◌&&◌, option_and_then}
use mathlib.Core.Logic.{dite}
use native.Mathlib.Decide.{dec_le}
use Rattle.std.proofs.lemmas.Bool.Decides.{nat_tests}
use Rattle.sop_claim.specs.declared.machine.Event.{Event}
use Rattle.sop_claim.specs.declared.machine.Event.TheVariants as on
use Rattle.sop_claim.specs.declared.machine.Standing.{Standing}
use Rattle.sop_claim.specs.declared.machine.Standing.TheVariants.{Held, Done, Faulty, Skipped}
use Rattle.sop_claim.specs.Claims.{Claims, start, holds, is_held_by, is_faulty, with_standing, allowed_if, step, after, is_settled, AtRest, EndsWell}

get_set : (l : List Standing) (i j : ℕ) (a b : Standing) → slice_get (slice_set l i a) j ≡ Some b → ((j ≡ i) × (a ≡ b)) ⊎ ((j ≢ i) × (slice_get l j ≡ Some b))
get_set [] i j a b e = absurd (cc)
get_set (x ∷ xs) zero zero a b e = inl (refl, (cc))
get_set (x ∷ xs) zero (suc j) a b e = inr ((λ h. omega arith), e)
get_set (x ∷ xs) (suc i) zero a b e = inr ((λ h. omega arith), e)
get_set (x ∷ xs) (suc i) (suc j) a b e = ⊎_elim (λ t. inl (ap suc t.0, t.1)) (λ t. let n = t.0 in inr ((λ h. n (omega arith)), t.1)) (get_set xs i j a b e)

pub set_here : (l : List Standing) (i : ℕ) (a b : Standing) → slice_get l i ≡ Some b → slice_get (slice_set l i a) i ≡ Some a
set_here [] i a b e = absurd (cc)
set_here (x ∷ xs) zero a b e = refl
set_here (x ∷ xs) (suc i) a b e = set_here xs i a b e

pub set_there : (l : List Standing) (i j : ℕ) (a : Standing) → j ≢ i → slice_get (slice_set l i a) j ≡ slice_get l j
set_there [] i j a n = refl
set_there (x ∷ xs) zero zero a n = absurd (n refl)
set_there (x ∷ xs) zero (suc j) a n = refl
set_there (x ∷ xs) (suc i) zero a n = refl
set_there (x ∷ xs) (suc i) (suc j) a n = set_there xs i j a (λ e. n (ap suc e))

get_snoc : (l : List Standing) (a b : Standing) (j : ℕ) → slice_get (l ++ a ∷ []) j ≡ Some b → (slice_get l j ≡ Some b) ⊎ (a ≡ b)
get_snoc [] a b zero e = inr (cc)
get_snoc [] a b (suc j) e = absurd (cc)
get_snoc (x ∷ xs) a b zero e = inl e
get_snoc (x ∷ xs) a b (suc j) e = get_snoc xs a b j e

pub snoc_there : (l : List Standing) (a b : Standing) (j : ℕ) → slice_get l j ≡ Some b → slice_get (l ++ a ∷ []) j ≡ Some b
snoc_there [] a b j e = absurd (cc)
snoc_there (x ∷ xs) a b zero e = e
snoc_there (x ∷ xs) a b (suc j) e = snoc_there xs a b j e

below_of : (a b : ℕ) → nat_lt a b ≡ true → a < b
below_of a b e = grind (arith, nat_tests)

record Kept (s : Claims) : Type 0 where
  within : s.least ≤ s.n
  faulty : (k : ℕ) → slice_get s.tickets k ≡ Some Faulty → s.least ≤ k
  skipped : (k : ℕ) → slice_get s.tickets k ≡ Some Skipped → s.least < k
  reached : s.least < s.n → slice_get s.tickets s.least ≡ Some Faulty

held : (w : ℕ) (o : Option Standing) → is_held_by w o ≡ true → (v : ℕ) × (o ≡ Some (Held v))
held w None e = absurd (cc)
held w (Some (Held v)) e = (v, refl)
held w (Some Done) e = absurd (cc)
held w (Some Faulty) e = absurd (cc)
held w (Some Skipped) e = absurd (cc)

was_faulty : (o : Option Standing) → is_faulty o ≡ true → o ≡ Some Faulty
was_faulty None e = absurd (cc)
was_faulty (Some (Held v)) e = absurd (cc)
was_faulty (Some Done) e = absurd (cc)
was_faulty (Some Faulty) e = refl
was_faulty (Some Skipped) e = absurd (cc)

was_allowed : (b : Bool) (x t : Claims) → allowed_if b x ≡ Some t → (b ≡ true) × (x ≡ t)
was_allowed true x t e = (refl, (cc))
was_allowed false x t e = absurd (cc)

both : (a b : Bool) → (a && b) ≡ true → (a ≡ true) × (b ≡ true)
both true b e = (refl, e)
both false b e = absurd (cc)

drawn : (s : Claims) (w : ℕ) → Kept s → Kept record s { tickets = s.tickets ++ Held w ∷ [] }
drawn s w k = record {
  within = k.within;
  faulty = λ i e. ⊎_elim (λ h. k.faulty i h) (λ (h : Held w ≡ Faulty). absurd (cc)) (get_snoc s.tickets (Held w) Faulty i e);
  skipped = λ i e. ⊎_elim (λ h. k.skipped i h) (λ (h : Held w ≡ Skipped). absurd (cc)) (get_snoc s.tickets (Held w) Skipped i e);
  reached = λ lt. snoc_there s.tickets (Held w) Faulty s.least (k.reached lt);
}

-- a held ticket is not the least fault
apart : (s : Claims) (j v : ℕ) → Kept s → slice_get s.tickets j ≡ Some (Held v) → s.least < s.n → s.least ≢ j
apart s j v k h lt e = let f = k.reached lt in let g = ap (slice_get s.tickets) e in absurd (cc)

settled_as : (s : Claims) (j v : ℕ) (how : Standing) → Kept s → slice_get s.tickets j ≡ Some (Held v) → how ≢ Faulty → (how ≡ Skipped → s.least < j) → Kept (with_standing s j how)
settled_as s j v how k h no_fault above = record {
  within = k.within;
  faulty = λ i e. ⊎_elim (λ (t : (i ≡ j) × (how ≡ Faulty)). absurd (no_fault t.1)) (λ t. k.faulty i t.1) (get_set s.tickets j i how Faulty e);
  skipped = λ i e. ⊎_elim (λ (t : (i ≡ j) × (how ≡ Skipped)). let a = above t.1 in let b = t.0 in omega arith) (λ t. k.skipped i t.1) (get_set s.tickets j i how Skipped e);
  reached = λ lt. set_there s.tickets j s.least how (apart s j v k h lt) ∙ k.reached lt;
}

faulted : (s : Claims) (j v : ℕ) → Kept s → slice_get s.tickets j ≡ Some (Held v) → Kept record (with_standing s j Faulty) { least = min s.least j }
faulted s j v k h = record {
  within = let w = k.within in omega arith;
  faulty = λ i e. ⊎_elim (λ (t : (i ≡ j) × (Faulty ≡ Faulty)). let a = t.0 in omega arith) (λ t. let a = k.faulty i t.1 in omega arith) (get_set s.tickets j i Faulty Faulty e);
  skipped = λ i e. ⊎_elim (λ (t : (i ≡ j) × (Faulty ≡ Skipped)). let b = t.1 in absurd (cc)) (λ t. let a = k.skipped i t.1 in omega arith) (get_set s.tickets j i Faulty Skipped e);
  reached = λ lt. dite (dec_le s.least j)
      (λ le. let e : s.least ≡ min s.least j = omega arith in subst (λ m. slice_get (slice_set s.tickets j Faulty) m ≡ Some Faulty) e (set_there s.tickets j s.least Faulty (apart s j v k h (omega arith)) ∙ k.reached (omega arith)))
      (λ gt. let e : j ≡ min s.least j = omega arith in subst (λ m. slice_get (slice_set s.tickets j Faulty) m ≡ Some Faulty) e (set_here s.tickets j Faulty (Held v) h));
}

no_clash : Done ≢ Faulty
no_clash e = (cc)

skip_clash : Skipped ≢ Faulty
skip_clash e = (cc)

kept_step : (s : Claims) (e : Event) (t : Claims) → Kept s → step s e ≡ Some t → Kept t
kept_step s (on.Draw w) t k is = subst Kept (was_allowed _ _ t is).1 (drawn s w k)
kept_step s (on.Done w j) t k is =
    let u = was_allowed (holds s w j) (with_standing s j Done) t is in let h = held w (slice_get s.tickets j) u.0 in
    subst Kept u.1 (settled_as s j h.0 Done k h.1 no_clash (λ e. absurd (cc)))
kept_step s (on.Fault w j) t k is =
    let u = was_allowed (holds s w j) (record (with_standing s j Faulty) { least = min s.least j }) t is in let h = held w (slice_get s.tickets j) u.0 in
    subst Kept u.1 (faulted s j h.0 k h.1)
kept_step s (on.Skip w j seen) t k is =
    let u = was_allowed (holds s w j && (nat_lt seen j && is_faulty (slice_get s.tickets seen))) (with_standing s j Skipped) t is in
    let b = both (holds s w j) (nat_lt seen j && is_faulty (slice_get s.tickets seen)) u.0 in
    let d = both (nat_lt seen j) (is_faulty (slice_get s.tickets seen)) b.1 in
    let h = held w (slice_get s.tickets j) b.0 in
    let below : seen < j = below_of seen j d.0 in
    let least = k.faulty seen (was_faulty (slice_get s.tickets seen) d.1) in
    subst Kept u.1 (settled_as s j h.0 Skipped k h.1 skip_clash (λ e. omega arith))

kept_after : (es : List Event) (s t : Claims) → Kept s → after s es ≡ Some t → Kept t
kept_after [] s t k is = let e : s ≡ t = cc in subst Kept e k
kept_after (e ∷ es) s t k is = at (λ u k' g. kept_after es u t k' g) (step s e) refl is
  where
    at : ((u : Claims) → Kept u → after u es ≡ Some t → Kept t) → (o : Option Claims) → step s e ≡ o → option_and_then (λ u. after u es) o ≡ Some t → Kept t
    at more None h g = absurd (cc)
    at more (Some u) h g = more u (kept_step s e u k h) g

begins : (workers n : ℕ) → Kept (start workers n)
begins workers n = record { within = omega arith; faulty = λ k e. absurd (cc); skipped = λ k e. absurd (cc); reached = λ lt. absurd (omega arith) }

pub some_there : (l : List Standing) (k : ℕ) → k < length l → (t : Standing) × (slice_get l k ≡ Some t)
some_there [] k h = absurd (omega arith)
some_there (x ∷ xs) zero h = (x, refl)
some_there (x ∷ xs) (suc k) h = some_there xs k (omega arith)

pub rests : (workers n : ℕ) (es : List Event) (s : Claims) → after (start workers n) es ≡ Some s → AtRest s → EndsWell s
rests workers n es s is rest =
    let k = kept_after es (start workers n) s (begins workers n) is in record {
      done = λ i below within. (let t = some_there s.tickets i (let l = rest.0 in omega arith) in at k i below t.0 t.1 (rest.1 i t.0 t.1));
      faulty = k.reached;
      within = k.within;
    }
  where
    at : Kept s → (i : ℕ) → i < s.least → (t : Standing) → slice_get s.tickets i ≡ Some t → is_settled t ≡ true → slice_get s.tickets i ≡ Some Done
    at k i below (Held w) e f = absurd (cc)
    at k i below Done e f = e
    at k i below Faulty e f = let a = k.faulty i e in absurd (omega arith)
    at k i below Skipped e f = let a = k.skipped i e in absurd (omega arith)
