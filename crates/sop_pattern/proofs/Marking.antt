-- Flags that are changed one by one.
use Rattle.std.proofs.Common.{◌≡◌, ℕ, ◌+◌, ◌<◌, ◌≤◌, ◌≢◌, Bool, false, List, length, get_or, set, refl, sym, ap, ◌∙◌, arith, inl, inr, get_or-set_same, get_or-set_other}
use Rattle.std.proofs.lemmas.Bool.{cases_lt}

-- Up to i each flag is changed, and the rest is as it was.
pub record Through (f : ℕ → Bool → Bool) (i : ℕ) (old now : List Bool) : Type 0 where
  pub below : (k : ℕ) → k < i → get_or now k false ≡ f k (get_or old k false)
  pub rest : (k : ℕ) → i ≤ k → get_or now k false ≡ get_or old k false

pub through_none : (f : ℕ → Bool → Bool) (old : List Bool) → Through f 0 old old
through_none f old = record { below = λ k h. absurd (omega arith); rest = λ k h. refl }

pub through_set : (f : ℕ → Bool → Bool) (i : ℕ) (old now : List Bool) (v : Bool) → i < length now → v ≡ f i (get_or old i false) → Through f i old now → Through f (i + 1) old (set now i v)
through_set f i old now v lt is before = record {
  below = λ k h. elim (cases_lt k i) [
    | inl less ↦ (let ne : k ≢ i = omega arith in get_or-set_other now i k v false ne ∙ before.below k less)
    | inr more ↦ (let e : k ≡ i = omega arith in ap (λ j. get_or (set now i v) j false) e ∙ get_or-set_same now i v false lt ∙ is ∙ ap (λ j. f j (get_or old j false)) (sym e))
  ];
  rest = λ k h. let ne : k ≢ i = omega arith in get_or-set_other now i k v false ne ∙ before.rest k (omega arith);
}

pub through_keep : (f : ℕ → Bool → Bool) (i : ℕ) (old now : List Bool) → get_or old i false ≡ f i (get_or old i false) → Through f i old now → Through f (i + 1) old now
through_keep f i old now is before = record {
  below = λ k h. elim (cases_lt k i) [
    | inl less ↦ before.below k less
    | inr more ↦ (let e : k ≡ i = omega arith in before.rest k more ∙ ap (λ j. get_or old j false) e ∙ is ∙ ap (λ j. f j (get_or old j false)) (sym e))
  ];
  rest = λ k h. before.rest k (omega arith);
}

pub through_all : (f : ℕ → Bool → Bool) (n : ℕ) (old now : List Bool) → Through f n old now → (k : ℕ) → k < n → get_or now k false ≡ f k (get_or old k false)
through_all f n old now done k lt = done.below k lt
