-- Places read from a view.
use Rattle.std.proofs.Common.{◌≡◌, ℕ, zero, suc, ◌+◌, List, [], ◌∷◌, ◌++◌, sym, ap, ◌∙◌, arith, Some, take}
use Rattle.std.specs.Prelude.{slice_get}

-- one more place
take_more_some : {A : Type 0} (xs : List A) (i : ℕ) (x : A) → slice_get xs i ≡ Some x → take (i + 1) xs ≡ take i xs ++ x ∷ []
take_more_some [] zero x e = cc
take_more_some [] (suc i) x e = cc
take_more_some (y ∷ xs) zero x e = let same : y ≡ x = cc in ap (λ z. z ∷ []) same
take_more_some (y ∷ xs) (suc i) x e =
    let next : suc i + 1 ≡ suc (i + 1) = omega arith in
    ap (λ n. take n (y ∷ xs)) next ∙ ap (λ l. y ∷ l) (take_more_some xs i x e)

pub places_more : {A : Type 0} (places : List A) (i : ℕ) (place : A) (old new : List A) → slice_get places i ≡ Some place → old ≡ take i places → new ≡ old ++ place ∷ [] → new ≡ take (i + 1) places
places_more places i place old new is before added = added ∙ ap (λ l. l ++ place ∷ []) before ∙ sym (take_more_some places i place is)
