-- What a byte begins between words.
use Rattle.std.proofs.Common.{◌≡◌, ℕ, ◌+◌, ◌-◌, ◌≤◌, ◌<◌, List, length, drop, refl, ap, sym, ◌∙◌, arith, false, ◌==◌, get_or, inl, inr}
use Rattle.std.proofs.lemmas.Bool.{cases_lt, ne_eqb}
use Rattle.std.proofs.lemmas.List.{drop-drop, length-drop}
use Rattle.std.specs.Prelude.{Option, Ok, position}
use Rattle.std.specs.Str.{IsUtf8, IsCharBoundary}
use Rattle.hscript_text.specs.declared.style.Style.{Style}
use Rattle.hscript_text.specs.declared.style.Style.TheVariants.{Bare, Single, Double}
use Rattle.hscript_text.specs.declared.style.Opening.{Opening}
use Rattle.hscript_text.specs.declared.style.Opening.TheVariants as opening
use Rattle.hscript_text.specs.Pieces.{Variables}
use Rattle.hscript_text.specs.Words.{Taken, opening_of, quoted, first_word, unescaped_quote}
use Rattle.hscript_text.specs.Parts.{IsRead}
use Rattle.hscript_text.proofs.Cuts.{behind_byte}

large_bare : (b : ℕ) → 128 ≤ b → opening_of b ≡ opening.Word Bare
large_bare b h =
    let space : (b == 32) ≡ false = ne_eqb b 32 (λ e. omega arith) in
    let tab : (b == 9) ≡ false = ne_eqb b 9 (λ e. omega arith) in
    let return : (b == 13) ≡ false = ne_eqb b 13 (λ e. omega arith) in
    let end : (b == 10) ≡ false = ne_eqb b 10 (λ e. omega arith) in
    let single : (b == 39) ≡ false = ne_eqb b 39 (λ e. omega arith) in
    let double : (b == 34) ≡ false = ne_eqb b 34 (λ e. omega arith) in
    rw (space, tab, return, end, single, double) refl

opening_small : (b : ℕ) (o : Opening) → opening_of b ≡ o → (o ≡ opening.Word Bare → ⊥) → b < 128
opening_small b o e other = elim (cases_lt b 128) [ inl h ↦ h | inr h ↦ absurd (other (sym e ∙ large_bare b h)) ]

-- behind a byte that begins no bare word
pub behind_opening : (text : List ℕ) (o : Opening) → IsUtf8 text → 0 < length text → opening_of (get_or text 0 0) ≡ o → (o ≡ opening.Word Bare → ⊥) → IsCharBoundary text 1
behind_opening text o utf8 some e other = behind_byte text utf8 some (opening_small _ o e other)

pub behind_single : (text : List ℕ) (style : Style) → IsUtf8 text → 0 < length text → opening_of (get_or text 0 0) ≡ opening.Word style → style ≡ Single → IsCharBoundary text 1
behind_single text style utf8 some e is = behind_opening text (opening.Word Single) utf8 some (e ∙ ap opening.Word is) (λ q. cc)

pub behind_double : (text : List ℕ) (style : Style) → IsUtf8 text → 0 < length text → opening_of (get_or text 0 0) ≡ opening.Word style → style ≡ Double → IsCharBoundary text 1
behind_double text style utf8 some e is = behind_opening text (opening.Word Double) utf8 some (e ∙ ap opening.Word is) (λ q. cc)

pub first_single : (variables : Variables) (style : Style) (text body : List ℕ) (end : Option ℕ) → style ≡ Single → body ≡ drop 1 text → end ≡ position (λ b. b == 39) body
    → first_word style variables text ≡ quoted style variables end body
first_single variables style text body end is at found =
    ap (λ s. first_word s variables text) is ∙ ap (λ t. quoted Single variables (position (λ b. b == 39) t) t) (sym at)
    ∙ ap (λ o. quoted Single variables o body) (sym found) ∙ ap (λ s. quoted s variables end body) (sym is)

pub first_double : (variables : Variables) (style : Style) (text body : List ℕ) (end : Option ℕ) → style ≡ Double → body ≡ drop 1 text → end ≡ unescaped_quote false body
    → first_word style variables text ≡ quoted style variables end body
first_double variables style text body end is at found =
    ap (λ s. first_word s variables text) is ∙ ap (λ t. quoted Double variables (unescaped_quote false t) t) (sym at)
    ∙ ap (λ o. quoted Double variables o body) (sym found) ∙ ap (λ s. quoted s variables end body) (sym is)

pub quoted_read : (whole taken : Taken) (text body word rest : List ℕ) → whole ≡ taken → body ≡ drop 1 text → 0 < length text → IsRead taken word body rest 1 → IsRead whole word text rest 0
quoted_read whole taken text body word rest e at some h =
    let n : h.bytes + 1 ≡ h.bytes + 1 + 0 = omega arith in
    let size : length body ≡ length text - 1 = ap length at ∙ length-drop 1 text in
    let within = h.inside in
    let m : 1 + h.bytes ≡ h.bytes + 1 = omega arith in
    record {
      bytes = h.bytes + 1;
      gives = e ∙ h.gives ∙ ap (λ k. Ok (word, k)) n;
      leaves = h.leaves ∙ ap (drop h.bytes) at ∙ drop-drop h.bytes 1 text ∙ ap (λ k. drop k text) m;
      some = omega arith;
      inside = omega arith;
    }
