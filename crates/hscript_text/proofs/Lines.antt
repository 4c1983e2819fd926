-- A command's words, read one after the other.
use Rattle.std.proofs.Common.{◌≡◌, ℕ, zero, suc, ◌+◌, ◌-◌, ◌≤◌, ◌<◌, List, [], ◌∷◌, ◌++◌, length, drop, refl, ap, sym, ◌∙◌, arith, get_or, append_assoc, length-drop}
use Rattle.std.proofs.lemmas.List.{drop-drop}
use Rattle.std.specs.Prelude.{Ok, Err}
use Rattle.hscript_text.specs.declared.refusal.CommandEnd.{CommandEnd}
use Rattle.hscript_text.specs.declared.refusal.CommandEnd.TheVariants.{Refused, Memory}
use Rattle.hscript_text.specs.declared.style.Style.{Style}
use Rattle.hscript_text.specs.declared.style.Opening.{Opening}
use Rattle.hscript_text.specs.declared.style.Opening.TheVariants as opening
use Rattle.hscript_text.specs.Pieces.{Variables}
use Rattle.hscript_text.specs.Words.{Line, opening_of, first_word, with_words, with_word, command_at, command_from}
use Rattle.hscript_text.specs.Ends.{EndsAs}
use Rattle.hscript_text.specs.Parts.{IsRest, IsRead, joined}

pub command-skip : (variables : Variables) (k : ℕ) (text : List ℕ) → command_from variables k text ≡ command_from variables 0 (drop k text)
command-skip variables zero text = refl
command-skip variables (suc k) [] = refl
command-skip variables (suc k) (b ∷ text) = command-skip variables k text

with_words-append : (words more : List (List ℕ)) (command : Line) → with_words words (with_words more command) ≡ with_words (words ++ more) command
with_words-append words more (Ok command) = ap (λ (l : List (List ℕ)). Ok (l, command.1)) (sym (append_assoc words more command.0))
with_words-append words more (Err refusal) = refl

pub none_before : (command : Line) → with_words [] command ≡ command
none_before (Ok command) = refl
none_before (Err refusal) = refl

opened : (variables : Variables) (words : List (List ℕ)) (b : ℕ) (text : List ℕ) (o : Opening) → opening_of b ≡ o
    → joined variables words (b ∷ text) ≡ with_words words (command_at o variables b text (λ skip. command_from variables skip text))
opened variables words b text o e = ap (λ o. with_words words (command_at o variables b text (λ skip. command_from variables skip text))) e

pub joined_blank : (variables : Variables) (words : List (List ℕ)) (text rest : List ℕ) → 0 < length text → opening_of (get_or text 0 0) ≡ opening.Blank → rest ≡ drop 1 text
    → joined variables words text ≡ joined variables words rest
joined_blank variables words [] rest some e is = absurd (omega arith)
joined_blank variables words (b ∷ text) rest some e is = opened variables words b text opening.Blank e ∙ ap (joined variables words) (sym is)

pub joined_end : (variables : Variables) (words : List (List ℕ)) (text rest : List ℕ) → 0 < length text → opening_of (get_or text 0 0) ≡ opening.LineEnd → rest ≡ drop 1 text
    → joined variables words text ≡ Ok (words ++ [], rest)
joined_end variables words [] rest some e is = absurd (omega arith)
joined_end variables words (b ∷ text) rest some e is = opened variables words b text opening.LineEnd e ∙ ap (λ (t : List ℕ). Ok (words ++ [], t)) (sym is)

pub joined_word : (variables : Variables) (words : List (List ℕ)) (text rest word : List ℕ) (style : Style) → 0 < length text → opening_of (get_or text 0 0) ≡ opening.Word style
    → IsRead (first_word style variables text) word text rest 0 → joined variables words text ≡ joined variables (words ++ word ∷ []) rest
joined_word variables words [] rest word style some e read = absurd (omega arith)
joined_word variables words (b ∷ text) rest word style some e read =
    let n = read.bytes in
    let k : n + 0 - 1 ≡ n - 1 = omega arith in
    let some_byte = read.some in
    let more : suc (n - 1) ≡ n = omega arith in
    let left : rest ≡ drop (n - 1) text = read.leaves ∙ ap (λ m. drop m (b ∷ text)) (sym more) in
    opened variables words b text (opening.Word style) e
    ∙ ap (λ t. with_words words (with_word t (λ skip. command_from variables skip text))) read.gives
    ∙ ap (λ m. with_words words (with_words (word ∷ []) (command_from variables m text))) k
    ∙ with_words-append words (word ∷ []) (command_from variables (n - 1) text)
    ∙ ap (with_words (words ++ word ∷ [])) (command-skip variables (n - 1) text ∙ ap (command_from variables 0) (sym left))

pub joined_refused : (variables : Variables) (words : List (List ℕ)) (text : List ℕ) (style : Style) (end : CommandEnd) → 0 < length text → opening_of (get_or text 0 0) ≡ opening.Word style
    → EndsAs (first_word style variables text) end → EndsAs (joined variables words text) end
joined_refused variables words text style Memory some e h = tt
joined_refused variables words [] style (Refused refusal) some e h = absurd (omega arith)
joined_refused variables words (b ∷ text) style (Refused refusal) some e h =
    opened variables words b text (opening.Word style) e ∙ ap (λ t. with_words words (with_word t (λ skip. command_from variables skip text))) h

pub rest_all : (text : List ℕ) → IsRest text text
rest_all text = record { before = 0; inside = omega arith; is = refl }

pub rest_further : (text rest further : List ℕ) (n : ℕ) → n ≤ length rest → further ≡ drop n rest → IsRest text rest → IsRest text further
rest_further text rest further n within e h =
    let size : length rest ≡ length text - h.before = ap length h.is ∙ length-drop h.before text in
    let inside = h.inside in
    record {
      before = h.before + n;
      inside = omega arith;
      is = e ∙ ap (drop n) h.is ∙ drop-drop n h.before text;
    }
