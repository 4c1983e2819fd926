-- What is told after bytes were appended in two parts.
use Rattle.std.proofs.Common.{◌≡◌, ℕ, ◌+◌, ◌-◌, ◌≤◌, List, [], ◌++◌, Option, None, Some, refl, ap, ◌∙◌, sym, append_assoc, take, drop, length, take-add}
use Rattle.std.proofs.lemmas.List.{take_rest}
use Rattle.sop_outside.specs.Told.{appended}

-- how far a put has come: so many bytes are told, no fault is forgotten, and of no bytes nothing was done
pub record HasPut (before now : Option (List ℕ)) (faults_before faults_now : ℕ) (bytes : List ℕ) (done : ℕ) (Untouched : Type 0) : Type 0 where
  pub within : done ≤ length bytes
  pub told : now ≡ appended before (take done bytes)
  pub later : faults_before ≤ faults_now
  pub untouched : bytes ≡ [] → Untouched

pub appended-append : (told : Option (List ℕ)) (a b : List ℕ) → appended (appended told a) b ≡ appended told (a ++ b)
appended-append None a b = refl
appended-append (Some t) a b = ap Some (append_assoc t a b)

-- a part at the place that was reached, behind what stands before it
pub appended_more : (before at now : Option (List ℕ)) (bytes : List ℕ) (i n : ℕ) → at ≡ appended before (take i bytes) → now ≡ appended at (take n (take (length bytes - i) (drop i bytes))) → now ≡ appended before (take (i + n) bytes)
appended_more before at now bytes i n front more =
    more ∙ ap (λ rest. appended at (take n rest)) (take_rest bytes i) ∙ ap (λ t. appended t (take n (drop i bytes))) front ∙ appended-append before (take i bytes) (take n (drop i bytes)) ∙ ap (appended before) (sym (take-add i n bytes))
