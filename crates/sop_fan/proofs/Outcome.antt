-- What the last pass knows makes the answer.
use Rattle.std.proofs.Common.{◌≡◌, ℕ, suc, ◌<◌, ◌≤◌, List, [], ◌∷◌, sym, ap, ◌∙◌, subst, map, length, arith}
use Rattle.std.specs.Prelude.{Option, Some, None, All, slice_index_or}
use Rattle.std.proofs.lemmas.Bool.Decides.{nat_tests}
use Rattle.std.proofs.lemmas.List.Elements.{All-contains}
use mathlib.Core.Logic.{dite}
use native.Mathlib.Decide.{ℕ_discrete, dec_le}
use Rattle.sop_claim.specs.declared.rule.View.{View}
use Rattle.sop_claim.specs.declared.board.BoardEnd.{BoardEnd}
use Rattle.sop_claim.specs.Views.{times}
use Rattle.sop_claim.specs.BoardRule.{once_below}
use Rattle.sop_claim.specs.Ends.{Knows}
use Rattle.sop_claim.proofs.Sums.{times_else, once_within}
use Rattle.sop_fan.specs.Jobs.{AreAnswers, IsFirstFault}
use Rattle.sop_fan.specs.Hauls.{Carries, AllSettled}
use Rattle.sop_fan.specs.Places.{HasEach, IsInOrder}

once_one : (x n : ℕ) → x < n → once_below x n ≡ 1
once_one x n lt = grind (arith, nat_tests)

module _ {O F : Type 0} (fault_at : ℕ → Option F) (admits : ℕ → O → Type 0) where
  no_fault : (outs : List (ℕ × O)) → All (λ out. (fault_at out.0 ≡ None) × admits out.0 out.1) outs → (j : ℕ) → 1 ≤ times j (map (λ out. out.0) outs) → fault_at j ≡ None
  no_fault [] all j any = absurd (omega arith)
  no_fault (p ∷ outs) all j any = dite (ℕ_discrete j p.0)
      (λ e. subst (λ k. fault_at k ≡ None) (sym e) (all 0 p (omega arith)).0)
      (λ ne. no_fault outs (λ k d lt. all (suc k) d (omega arith)) j (let d = times_else j p.0 ne in omega arith))

  -- results in order, each admitted where it stood
  pub answers : (n : ℕ) (outs : List (ℕ × O)) (all : List O) → All (λ out. (fault_at out.0 ≡ None) × admits out.0 out.1) outs → IsInOrder n outs all → AreAnswers fault_at admits n all
  answers n outs all good order =
      let P : ℕ × O → Type 0 = λ out. (fault_at out.0 ≡ None) × admits out.0 out.1 in
      let at : (k : ℕ) (d : O) → k < n → P (k, slice_index_or all k d) = λ k d lt. All-contains P outs (k, slice_index_or all k d) good (order.1 k d lt) in
      (order.0, λ k lt. (known all k (at k) (let e = order.0 in omega arith) lt, λ d. (at k d lt).1))
    where
      known : (l : List O) (k : ℕ) → ((d : O) → k < n → (fault_at k ≡ None) × admits k (slice_index_or all k d)) → k < length l → k < n → fault_at k ≡ None
      known [] k at lt below = absurd (omega arith)
      known (x ∷ l) k at lt below = (at x below).0

  module _ (n : ℕ) (end : BoardEnd) (v : View) (outs : List (ℕ × O)) (c : Knows n end v) (all : AllSettled v) (missed : 0 < v.missed) where
    drawn_one : (x : ℕ) → x < n → times x v.drawn ≡ 1
    drawn_one x lt = c.once x ∙ once_one x end.drawn (let e = c.ended missed in omega arith)

    -- a ticket that is neither faulty nor above the least is done
    done_one : (x : ℕ) → x < n → x ≤ end.least → times x v.faulty ≡ 0 → times x v.done ≡ 1
    done_one x lt le clear =
        let none : times x v.skipped ≡ 0 = dite (ℕ_discrete (times x v.skipped) 0) (λ z. z) (λ ne. let a = c.above x (omega arith) in absurd (omega arith)) in
        let a = all x in let b = drawn_one x lt in omega arith

    pub each_done : Carries fault_at admits v outs None → HasEach n outs
    each_done carries x lt =
        let none = carries.found in
        let top : n ≤ end.least = dite (dec_le n end.least) (λ le. le) (λ gt. let r = c.reached (omega arith) in let z = none end.least in absurd (omega arith)) in
        let e = ap (times x) carries.done in let d = done_one x lt (omega arith) (none x) in omega arith

    pub first_fault : (k : ℕ) (f : F) → Carries fault_at admits v outs (Some (k, f)) → IsFirstFault fault_at n k f
    first_fault k f carries =
        let found = carries.found in
        let in_n : k < n = (let a = found.0 in let own = c.own k in let o = c.once k in let w = once_within k end.drawn (omega arith) in let u = c.up_to in omega arith) in
        let low : end.least ≤ k = dite (dec_le end.least k) (λ le. le) (λ gt. let z = c.lower k (omega arith) in let a = found.0 in absurd (omega arith)) in
        let same : k ≤ end.least = found.1 end.least (c.reached (omega arith)) in (
          in_n,
          found.2,
          λ j lt. no_fault outs carries.good j (
              let e = ap (times j) carries.done in
              let clear : times j v.faulty ≡ 0 = dite (ℕ_discrete (times j v.faulty) 0) (λ z. z) (λ ne. let a = found.1 j (omega arith) in absurd (omega arith)) in
              let d = done_one j (omega arith) (omega arith) clear in omega arith),
        )
