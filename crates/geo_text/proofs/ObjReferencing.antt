-- Parts of references.
use Rattle.std.proofs.Common.{◌≡◌, ℕ, List, [], ◌∷◌, length, true, not, refl, sym, ◌∙◌, arith, inl, inr, Ok, Some}
use Rattle.std.specs.Prelude.{◌==◌}
use Rattle.std.proofs.lemmas.Bool.{cases_Bool}
use Rattle.std.proofs.lemmas.Bool.Decides.{nat_tests}
use Rattle.geo_text.specs.ObjStatements.{Part, Absent, Ahead, Back, Wrong}
use Rattle.geo_text.specs.ObjMeaning.{needed, optional}
use Rattle.geo_text.specs.ObjReferences.{slash_parts, goes_on}

some_parts : (text : List ℕ) → (p : List ℕ) × (ps : List (List ℕ)) × (slash_parts text ≡ p ∷ ps)
some_parts [] = ([], [], refl)
some_parts (b ∷ text) =
    let (p, ps, e) = some_parts text in
    elim (cases_Bool (b == 47)) [
      | inl slash ↦ ([], slash_parts text, rw slash refl)
      | inr other ↦ (b ∷ p, ps, rw (other, e) refl)
    ]

parts_go_on : (b : ℕ) (text : List ℕ) → goes_on (slash_parts (b ∷ text)) ≡ true
parts_go_on b text =
    let (p, ps, e) = some_parts text in
    elim (cases_Bool (b == 47)) [
      | inl slash ↦ rw (slash, e) refl
      | inr other ↦ rw (other, e) refl
    ]

some_bytes : (b : ℕ) (text : List ℕ) → not (length (b ∷ text) == 0) ≡ true
some_bytes b text = grind (arith, nat_tests)

pub text_goes_on : (text : List ℕ) → not (length text == 0) ≡ goes_on (slash_parts text)
text_goes_on [] = refl
text_goes_on (b ∷ text) = some_bytes b text ∙ sym (parts_go_on b text)

pub optional_needed : (line whole so_far element : ℕ) (part : Part) → needed line whole so_far part ≡ Ok element → optional line whole so_far part ≡ Ok (Some element)
optional_needed line whole so_far element Absent e = cc
optional_needed line whole so_far element (Ahead n) e = rw e refl
optional_needed line whole so_far element (Back n) e = rw e refl
optional_needed line whole so_far element Wrong e = cc
