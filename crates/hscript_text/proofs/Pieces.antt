-- Escapes and variables as the reader finds them.
use Rattle.std.proofs.Common.{◌≡◌, ℕ, ◌+◌, List, take, drop, refl, ap, sym, subst, ◌∙◌, arith, true, false, ◌==◌, Some}
use Rattle.std.proofs.lemmas.Bool.{ne_eqb}
use Rattle.std.proofs.lemmas.List.{drop-drop}
use Rattle.hscript_text.specs.Pieces.{Variables, name_len, begins, braced, variable}
use Rattle.hscript_text.specs.Parts.{IsTaken}

pub braced_taken : (variables : Variables) (text word after rest : List ℕ) (n : ℕ) → n ≡ name_len text → (n ≡ 0 → ⊥) → begins 125 after ≡ true → after ≡ drop n text → rest ≡ drop 1 after
    → variables (take n text) ≡ Some word → IsTaken (braced variables (name_len text) text) word text rest 2
braced_taken variables text word after rest n is some closes at end found =
    let z : (n == 0) ≡ false = ne_eqb n 0 some in
    let b : begins 125 (drop n text) ≡ true = subst (λ t. begins 125 t ≡ true) at closes in
    let e : n + 3 ≡ n + 1 + 2 = omega arith in
    record {
      taken = n + 1;
      gives = ap (λ k. braced variables k text) (sym is) ∙ rw (z, b, found, e) refl;
      leaves = end ∙ ap (drop 1) at ∙ drop-drop 1 n text;
    }

pub variable_braced : (variables : Variables) (text : List ℕ) → begins 123 text ≡ true → variable variables text ≡ braced variables (name_len (drop 1 text)) (drop 1 text)
variable_braced variables text h = rw h refl

pub braced_variable : (variables : Variables) (text behind word rest : List ℕ) → begins 123 text ≡ true → behind ≡ drop 1 text → IsTaken (braced variables (name_len behind) behind) word behind rest 2
    → IsTaken (variable variables text) word text rest 1
braced_variable variables text behind word rest h at t =
    let e : t.taken + 2 ≡ t.taken + 1 + 1 = omega arith in
    let o : 1 + t.taken ≡ t.taken + 1 = omega arith in
    record {
      taken = t.taken + 1;
      gives = variable_braced variables text h ∙ ap (λ s. braced variables (name_len s) s) (sym at) ∙ t.gives ∙ rw e refl;
      leaves = t.leaves ∙ ap (drop t.taken) at ∙ drop-drop t.taken 1 text ∙ ap (λ k. drop k text) o;
    }
