-- What a step of a worker keeps of its haul.
use Rattle.std.proofs.Common.{◌≡◌, ℕ, ◌+◌, ◌<◌, ◌≤◌, true, false, List, [], ◌∷◌, ◌++◌, refl, sym, ap, ◌∙◌, subst, arith, ◌⊎◌, ⊎_elim, inl, inr}
use Rattle.std.specs.Prelude.{Option, Some, None, Result, Ok, Err, IfOk, nat_lt, max}
use Rattle.std.proofs.lemmas.Bool.Decides.{nat_tests}
use Rattle.std.proofs.lemmas.List.Elements.{All-append, All-cons}
use mathlib.Core.List.{map-append}
use mathlib.Core.Logic.{dite}
use native.Mathlib.Decide.{dec_lt, ℕ_discrete}
use Rattle.sop_claim.specs.declared.rule.View.{View}
use Rattle.sop_claim.specs.declared.board.Board.{Board}
use Rattle.sop_claim.specs.declared.board.Pass.{Pass}
use Rattle.sop_claim.specs.Passes.{view_of, IsPassOf}
use Rattle.sop_claim.specs.Views.{times, settled, IsHeld, IsAfter, HasTold, share, joined, with_drawn, with_faulty, with_loaded, with_done, with_skipped}
use Rattle.sop_claim.proofs.Sums.{times-append, times_here, times_snoc}
use Rattle.sop_fan.specs.Hauls.{Carries, IsLeastOf, AllSettled, SameDraws, SettlesOne, IsHaul, lesser}

module _ {O F : Type 0} (fault_at : ℕ → Option F) (admits : ℕ → O → Type 0) (v : View) (outs : List (ℕ × O)) (fault : Option (ℕ × F)) (c : Carries fault_at admits v outs fault) (least : ℕ) where
  pub carries_skipped : (k : ℕ) → Carries fault_at admits (with_skipped (with_loaded v least) k) outs fault
  carries_skipped k = record { done = c.done; good = c.good; found = c.found }

  pub carries_done : (k : ℕ) (out : O) → fault_at k ≡ None → admits k out → Carries fault_at admits (with_done (with_loaded v least) k) (outs ++ (k, out) ∷ []) fault
  carries_done k out none good = record {
    done = map-append (λ (p : ℕ × O). p.0) outs ((k, out) ∷ []) ∙ ap (λ ks. ks ++ k ∷ []) c.done;
    good = let P : ℕ × O → Type 0 = λ p. (fault_at p.0 ≡ None) × admits p.0 p.1 in All-append P outs ((k, out) ∷ []) c.good (All-cons P (k, out) [] (none, good) (λ j d lt. absurd (omega arith)));
    found = c.found;
  }

  -- a ticket that is reported, and not above the least, is the least reported one
  pub carries_faulty : (k : ℕ) (f : F) → ((x : ℕ) → HasTold v x → least ≤ x) → k ≤ least → fault_at k ≡ Some f → Carries fault_at admits (with_faulty (with_loaded v least) k) outs (Some (k, f))
  carries_faulty k f falls under is = record {
    done = c.done;
    good = c.good;
    found = (
      (let a = times-append k v.faulty (k ∷ []) in let b = times_here k k refl in omega arith),
      (λ x any. ⊎_elim (λ old. let a = falls x (omega arith) in omega arith) (λ (e : x ≡ k). omega arith) (times_snoc x k v.faulty any)),
      is,
    );
  }

pub settles_skipped : (v : View) (least k : ℕ) → SettlesOne v (with_skipped (with_loaded v least) k) k
settles_skipped v least k x = let a = times-append x v.skipped (k ∷ []) in omega arith

pub settles_done : (v : View) (least k : ℕ) → SettlesOne v (with_done (with_loaded v least) k) k
settles_done v least k x = let a = times-append x v.done (k ∷ []) in omega arith

pub settles_faulty : (v : View) (least k : ℕ) → SettlesOne v (with_faulty (with_loaded v least) k) k
settles_faulty v least k x = let a = times-append x v.faulty (k ∷ []) in omega arith

-- one more than the last drawn ticket, or 0
abbrev pub above : List ℕ → ℕ
above [] = 0
above (x ∷ xs) = max (x + 1) (above xs)

above_within : (k : ℕ) (xs : List ℕ) → ((x : ℕ) → 1 ≤ times x xs → x < k) → above xs ≤ k
above_within k [] less = omega arith
above_within k (x ∷ xs) less =
    let rest = above_within k xs (λ y any. less y (omega arith)) in
    let first = less x (let a = times_here x x refl in omega arith) in
    omega arith

above_snoc : (k : ℕ) (xs : List ℕ) → above xs ≤ k → above (xs ++ k ∷ []) ≡ k + 1
above_snoc k [] le = omega arith
above_snoc k (x ∷ xs) le = let rest = above_snoc k xs (omega arith) in omega arith

-- a draw makes the number of tickets above all drawn ones less
pub draws_on : (v d : View) (k n : ℕ) → d ≡ with_drawn v k → IsAfter v k → k < n → (above v.drawn ≤ k) × (above d.drawn ≡ k + 1)
draws_on v d k n is after below =
    let within = above_within k v.drawn after in (within, ap (λ (u : View). above u.drawn) is ∙ above_snoc k v.drawn within)

-- a ticket that was just drawn is held
pub drawn_held : (v d : View) (k : ℕ) → AllSettled v → d ≡ with_drawn v k → IsAfter v k → IsHeld d k
drawn_held v d k all is after = subst (λ (u : View). IsHeld u k) (sym is) (
  (let a = times-append k v.drawn (k ∷ []) in let b = times_here k k refl in omega arith),
  dite (ℕ_discrete (times k v.drawn) 0) (λ none. let a = all k in omega arith) (λ some. let a = after k (omega arith) in absurd (omega arith)),
)

-- once it is settled, all are
pub settled_on : (v d w : View) (k : ℕ) → AllSettled v → d ≡ with_drawn v k → SameDraws d w → SettlesOne d w k → AllSettled w
settled_on v d w k all is same one x =
    let a = one x in let b = ap (settled x) is in let e = all x in let g = ap (times x) (same.0 ∙ ap (λ (u : View). u.drawn) is) in let h = times-append x v.drawn (k ∷ []) in omega arith

pub share_on : (v d w : View) (k : ℕ) → d ≡ with_drawn v k → SameDraws d w → (share w ≡ share v) × (w.room ≡ v.room)
share_on v d w k is same =
    let room = same.1 ∙ ap (λ (u : View). u.room) is in let missed = same.2 ∙ ap (λ (u : View). u.missed) is in ((omega arith), room)

-- two hauls as one
module _ {F : Type 0} (fault_at : ℕ → Option F) (v w : View) where
  found_both : (a b : Option (ℕ × F)) → IsLeastOf fault_at v a → IsLeastOf fault_at w b → IsLeastOf fault_at (joined v w) (lesser a b)
  found_both None None p q = λ x. let a = times-append x v.faulty w.faulty in let e = p x in let f = q x in omega arith
  found_both None (Some b) p q = (
    (let a = times-append b.0 v.faulty w.faulty in let e = q.0 in omega arith),
    (λ x m. q.1 x (let a = times-append x v.faulty w.faulty in let e = p x in omega arith)),
    q.2,
  )
  found_both (Some a) None p q = (
    (let e = times-append a.0 v.faulty w.faulty in let f = p.0 in omega arith),
    (λ x m. p.1 x (let e = times-append x v.faulty w.faulty in let f = q x in omega arith)),
    p.2,
  )
  found_both (Some a) (Some b) p q = dite (dec_lt b.0 a.0)
      (λ lt. let e : nat_lt b.0 a.0 ≡ true = grind (arith, nat_tests) in rw e (less b (inr refl) (omega arith) (omega arith)))
      (λ ge. let e : nat_lt b.0 a.0 ≡ false = grind (arith, nat_tests) in rw e (less a (inl refl) (omega arith) (omega arith)))
    where
      less : (c : ℕ × F) → ((c ≡ a) ⊎ (c ≡ b)) → c.0 ≤ a.0 → c.0 ≤ b.0 → IsLeastOf fault_at (joined v w) (Some c)
      less c which le le' = (
        (let e = times-append c.0 v.faulty w.faulty in ⊎_elim
            (λ (s : c ≡ a). subst (λ (z : ℕ × F). 1 ≤ times z.0 (v.faulty ++ w.faulty)) (sym s) (let f = times-append a.0 v.faulty w.faulty in let g = p.0 in omega arith))
            (λ (s : c ≡ b). subst (λ (z : ℕ × F). 1 ≤ times z.0 (v.faulty ++ w.faulty)) (sym s) (let f = times-append b.0 v.faulty w.faulty in let g = q.0 in omega arith))
            which),
        (λ x m. dite (dec_lt 0 (times x v.faulty)) (λ yes. let f = p.1 x (omega arith) in omega arith) (λ no. let f = q.1 x (let e = times-append x v.faulty w.faulty in omega arith) in omega arith)),
        ⊎_elim (λ (s : c ≡ a). subst (λ (z : ℕ × F). fault_at z.0 ≡ Some z.1) (sym s) p.2) (λ (s : c ≡ b). subst (λ (z : ℕ × F). fault_at z.0 ≡ Some z.1) (sym s) q.2) which,
      )

module _ {O F : Type 0} (fault_at : ℕ → Option F) (admits : ℕ → O → Type 0) (v w : View) (outs more : List (ℕ × O)) where
  pub carries_both : (a b : Option (ℕ × F)) → Carries fault_at admits v outs a → Carries fault_at admits w more b → Carries fault_at admits (joined v w) (outs ++ more) (lesser a b)
  carries_both a b c d = record {
    done = map-append (λ (p : ℕ × O). p.0) outs more ∙ (λ i. c.done i ++ d.done i);
    good = let P : ℕ × O → Type 0 = λ p. (fault_at p.0 ≡ None) × admits p.0 p.1 in All-append P outs more c.good d.good;
    found = found_both fault_at v w a b c.found d.found;
  }

pub settled_both : (v w : View) → AllSettled v → AllSettled w → AllSettled (joined v w)
settled_both v w p q x =
    let a = times-append x v.drawn w.drawn in let b = times-append x v.done w.done in let c = times-append x v.faulty w.faulty in let d = times-append x v.skipped w.skipped in let e = p x in let f = q x in
    omega arith

pub haul_both : {O F : Type 0} (fault_at : ℕ → Option F) (admits : ℕ → O → Type 0) (board : Board) (part more n : ℕ) (one two both : Pass) (outs other all : List (ℕ × O)) (a b c : Option (ℕ × F)) → part + more ≡ n → IsHaul fault_at admits board part one outs a → IsHaul fault_at admits board more two other b → IsPassOf board both → view_of both ≡ joined (view_of one) (view_of two) → all ≡ outs ++ other → c ≡ lesser a b → IsHaul fault_at admits board n both all c
haul_both {O} {F} fault_at admits board part more n one two both outs other all a b c parts p q of_board is rows least = record {
  of_board = of_board;
  part_is = let s = ap share is in let d = p.part_is in let e = q.part_is in omega arith;
  carries = subst (λ (z : View × List (ℕ × O) × Option (ℕ × F)). Carries fault_at admits z.0 z.1 z.2) (λ i. (sym is i, sym rows i, sym least i)) (carries_both fault_at admits (view_of one) (view_of two) outs other a b p.carries q.carries);
  all_settled = subst AllSettled (sym is) (settled_both (view_of one) (view_of two) p.all_settled q.all_settled);
  ended = let e = ap (λ (v : View). v.missed) is in let d = p.ended in omega arith;
}

-- a fact of a value from four
pub ok_four : {A E : Type 0} (r : Result A E) (P Q R S T : A → Type 0) → ((a : A) → P a → Q a → R a → S a → T a) → IfOk r P → IfOk r Q → IfOk r R → IfOk r S → IfOk r T
ok_four (Ok a) P Q R S T f p q r s = f a p q r s
ok_four (Err e) P Q R S T f p q r s = tt

-- a fact of the value that was answered
pub ok_value : {A E : Type 0} (r : Result A E) (a : A) (P : A → Type 0) → r ≡ Ok a → IfOk r P → P a
ok_value r a P is h = subst (λ s. IfOk s P) is h
