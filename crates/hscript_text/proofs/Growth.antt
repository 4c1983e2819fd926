-- A word that grows by its pieces.
use Rattle.std.proofs.Common.{◌≡◌, ℕ, zero, suc, ◌+◌, ◌-◌, ◌≤◌, ◌<◌, List, [], ◌∷◌, ◌++◌, length, take, drop, refl, ap, sym, ◌∙◌, arith, Bool, true, false, cond, nat_le, append_assoc, length-append}
use Rattle.std.proofs.lemmas.List.{length-take-le}
use Rattle.std.proofs.lemmas.List.Sums.{prefix_len-le-length}
use Rattle.std.specs.Prelude.{Ok, Err}
use Rattle.std.specs.List.{prefix_len}
use Rattle.hscript_text.specs.declared.refusal.ScriptKind.{ScriptKind}
use Rattle.hscript_text.specs.declared.refusal.ScriptKind.TheVariants.{LongWord}
use Rattle.hscript_text.specs.declared.style.Style.{Style}
use Rattle.hscript_text.specs.declared.refusal.CommandEnd.{CommandEnd}
use Rattle.hscript_text.specs.declared.refusal.CommandEnd.TheVariants.{Refused, Memory}
use Rattle.hscript_text.specs.Pieces.{Variables, Word, piece, special, is_plain, behind, with_piece, word_within}
use Rattle.hscript_text.specs.Ends.{EndsAs}
use Rattle.hscript_text.specs.Limits.{most_word_bytes}
use Rattle.hscript_text.specs.Parts.{grown, Adds, IsTaken}

pub within-skip : (style : Style) (variables : Variables) (room k : ℕ) (text : List ℕ) → word_within style variables room k text ≡ word_within style variables room 0 (drop k text)
within-skip style variables room zero text = refl
within-skip style variables room (suc k) [] = refl
within-skip style variables room (suc k) (b ∷ text) = within-skip style variables room k text

behind-append : (a b : List ℕ) (word : Word) → behind a (behind b word) ≡ behind (a ++ b) word
behind-append a b (Ok word) = ap Ok (sym (append_assoc a b word))
behind-append a b (Err refusal) = refl

behind-err : (a : List ℕ) (word : Word) (refusal : ScriptKind) → word ≡ Err refusal → behind a word ≡ Err refusal
behind-err a word refusal e = ap (behind a) e

le_true : (a b : ℕ) → a ≤ b → nat_le a b ≡ true
le_true a b h = grind arith

le_false : (a b : ℕ) → b < a → nat_le a b ≡ false
le_false a b h = grind arith

-- a piece that fits
piece_fits : (style : Style) (variables : Variables) (room b taken : ℕ) (text bytes : List ℕ) → piece style variables b text ≡ Ok (bytes, taken + 1) → length bytes ≤ room
    → word_within style variables room 0 (b ∷ text) ≡ behind bytes (word_within style variables (room - length bytes) 0 (drop taken text))
piece_fits style variables room b taken text bytes e h =
    let f : nat_le (length bytes) room ≡ true = le_true _ _ h in
    let k : taken + 1 - 1 ≡ taken = omega arith in
    ap (λ p. with_piece p room (λ left skip. word_within style variables left skip text)) e
    ∙ rw (f, k) (ap (behind bytes) (within-skip style variables (room - length bytes) taken text))

piece_long : (style : Style) (variables : Variables) (room b taken : ℕ) (text bytes : List ℕ) → piece style variables b text ≡ Ok (bytes, taken) → room < length bytes
    → word_within style variables room 0 (b ∷ text) ≡ Err LongWord
piece_long style variables room b taken text bytes e h =
    let f : nat_le (length bytes) room ≡ false = le_false _ _ h in
    ap (λ p. with_piece p room (λ left skip. word_within style variables left skip text)) e ∙ rw f refl

plain_piece : (style : Style) (variables : Variables) (b : ℕ) (text : List ℕ) → is_plain style b ≡ true → piece style variables b text ≡ Ok (b ∷ [], 0 + 1)
plain_piece style variables b text h = rw h refl

special_piece : (style : Style) (variables : Variables) (b : ℕ) (text : List ℕ) → is_plain style b ≡ false → piece style variables b text ≡ special variables b text
special_piece style variables b text h = rw h refl

first_plain : (passes : ℕ → Bool) (b n : ℕ) (text : List ℕ) → suc n ≤ prefix_len passes (b ∷ text) → (passes b ≡ true) × (n ≤ prefix_len passes text)
first_plain passes b n text h = elim (passes b) as (λ v. passes b ≡ v → suc n ≤ cond v (1 + prefix_len passes text) 0 → (passes b ≡ true) × (n ≤ prefix_len passes text)) [
  | true ↦ λ e h. (e, omega arith)
  | false ↦ λ e h. absurd (omega arith)
] refl h

-- a run of plain bytes that fits
run_fits : (style : Style) (variables : Variables) (n room : ℕ) (text : List ℕ) → n ≤ prefix_len (is_plain style) text → n ≤ room
    → word_within style variables room 0 text ≡ behind (take n text) (word_within style variables (room - n) 0 (drop n text))
run_fits style variables zero room text h f =
    let e : room - 0 ≡ room = omega arith in
    rw e (sym (none-behind (word_within style variables room 0 text)))
  where
    none-behind : (word : Word) → behind [] word ≡ word
    none-behind (Ok word) = refl
    none-behind (Err refusal) = refl
run_fits style variables (suc n) room [] h f = absurd (omega arith)
run_fits style variables (suc n) room (b ∷ text) h f =
    let p = first_plain (is_plain style) b n text h in
    let e : room - 1 - n ≡ room - suc n = omega arith in
    piece_fits style variables room b 0 text (b ∷ []) (plain_piece style variables b text p.0) (omega arith)
    ∙ ap (behind (b ∷ [])) (run_fits style variables n (room - 1) text p.1 (omega arith))
    ∙ behind-append (b ∷ []) (take n text) (word_within style variables (room - 1 - n) 0 (drop n text))
    ∙ ap (λ k. behind (b ∷ take n text) (word_within style variables k 0 (drop n text))) e

-- a run of plain bytes that doesn't fit
run_long : (style : Style) (variables : Variables) (room : ℕ) (text : List ℕ) → room < prefix_len (is_plain style) text → word_within style variables room 0 text ≡ Err LongWord
run_long style variables room [] h = absurd (omega arith)
run_long style variables zero (b ∷ text) h =
    let p = first_plain (is_plain style) b 0 text (omega arith) in
    piece_long style variables 0 b (0 + 1) text (b ∷ []) (plain_piece style variables b text p.0) (omega arith)
run_long style variables (suc room) (b ∷ text) h =
    let p = first_plain (is_plain style) b (suc room) text (omega arith) in
    let e : suc room - 1 ≡ room = omega arith in
    piece_fits style variables (suc room) b 0 text (b ∷ []) (plain_piece style variables b text p.0) (omega arith)
    ∙ ap (λ k. behind (b ∷ []) (word_within style variables k 0 text)) e
    ∙ behind-err (b ∷ []) (word_within style variables room 0 text) LongWord (run_long style variables room text (omega (arith, p.1)))

regrown : (style : Style) (variables : Variables) (word bytes rest : List ℕ) → behind word (behind bytes (word_within style variables (most_word_bytes - length word - length bytes) 0 rest)) ≡ grown style variables (word ++ bytes) rest
regrown style variables word bytes rest =
    let e : most_word_bytes - length word - length bytes ≡ most_word_bytes - length (word ++ bytes) = omega (arith, length-append word bytes) in
    behind-append word bytes (word_within style variables (most_word_bytes - length word - length bytes) 0 rest)
    ∙ ap (λ k. behind (word ++ bytes) (word_within style variables k 0 rest)) e

pub grown_run : (style : Style) (variables : Variables) (word text : List ℕ) (n : ℕ) → n ≤ prefix_len (is_plain style) text → length (take n text) ≡ n → n ≤ most_word_bytes - length word
    → grown style variables word text ≡ grown style variables (word ++ take n text) (drop n text)
grown_run style variables word text n h size f =
    ap (behind word) (run_fits style variables n (most_word_bytes - length word) text h f)
    ∙ ap (λ k. behind word (behind (take n text) (word_within style variables (most_word_bytes - length word - k) 0 (drop n text)))) (sym size)
    ∙ regrown style variables word (take n text) (drop n text)

pub grown_run_long : (style : Style) (variables : Variables) (word text : List ℕ) → most_word_bytes - length word < prefix_len (is_plain style) text → grown style variables word text ≡ Err LongWord
grown_run_long style variables word text h = behind-err word _ LongWord (run_long style variables (most_word_bytes - length word) text h)

pub grown_piece : (style : Style) (variables : Variables) (word text bytes : List ℕ) (b taken : ℕ) → piece style variables b text ≡ Ok (bytes, taken + 1) → length bytes ≤ most_word_bytes - length word
    → grown style variables word (b ∷ text) ≡ grown style variables (word ++ bytes) (drop taken text)
grown_piece style variables word text bytes b taken e f =
    ap (behind word) (piece_fits style variables (most_word_bytes - length word) b taken text bytes e f)
    ∙ regrown style variables word bytes (drop taken text)

pub grown_piece_long : (style : Style) (variables : Variables) (word text bytes : List ℕ) (b taken : ℕ) → piece style variables b text ≡ Ok (bytes, taken) → most_word_bytes - length word < length bytes
    → grown style variables word (b ∷ text) ≡ Err LongWord
grown_piece_long style variables word text bytes b taken e f = behind-err word _ LongWord (piece_long style variables (most_word_bytes - length word) b taken text bytes e f)

pub grown_piece_refused : (style : Style) (variables : Variables) (word text : List ℕ) (b : ℕ) (refusal : ScriptKind) → piece style variables b text ≡ Err refusal
    → grown style variables word (b ∷ text) ≡ Err refusal
grown_piece_refused style variables word text b refusal e = behind-err word _ refusal (ap (λ p. with_piece p (most_word_bytes - length word) (λ left skip. word_within style variables left skip text)) e)

take_run : (style : Style) (text : List ℕ) (n : ℕ) → n ≡ prefix_len (is_plain style) text → length (take n text) ≡ n
take_run style text n e = length-take-le n text (omega (arith, prefix_len-le-length (is_plain style) text))

-- what adding a run of plain bytes answers
pub run_added : (style : Style) (variables : Variables) (old new text run rest : List ℕ) (n : ℕ) → n ≡ prefix_len (is_plain style) text → run ≡ take n text → rest ≡ drop n text
    → (new ≡ old ++ run) × (length run ≤ most_word_bytes - length old) → grown style variables old text ≡ grown style variables new rest
run_added style variables old new text run rest n e front end h =
    let size = take_run style text n e in
    let f : n ≤ most_word_bytes - length old = omega (arith, ap length front, h.1) in
    grown_run style variables old text n (omega arith) size f
    ∙ ap (λ w. grown style variables w (drop n text)) (sym (h.0 ∙ ap (λ r. old ++ r) front)) ∙ ap (grown style variables new) (sym end)

pub run_not_added : (style : Style) (variables : Variables) (old new text run : List ℕ) (n : ℕ) (end : CommandEnd) → n ≡ prefix_len (is_plain style) text → run ≡ take n text
    → Adds old new run (Err end) → EndsAs (grown style variables old text) end
run_not_added style variables old new text run n Memory e front h = tt
run_not_added style variables old new text run n (Refused refusal) e front h =
    let size = take_run style text n e in
    grown_run_long style variables old text (omega (arith, ap length front, h.1)) ∙ ap Err (sym h.0)

-- what adding another piece answers
pub special_added : (style : Style) (variables : Variables) (old new text bytes rest : List ℕ) (b : ℕ) → is_plain style b ≡ false → IsTaken (special variables b text) bytes text rest 1
    → (new ≡ old ++ bytes) × (length bytes ≤ most_word_bytes - length old) → grown style variables old (b ∷ text) ≡ grown style variables new rest
special_added style variables old new text bytes rest b h t f =
    grown_piece style variables old text bytes b t.taken (special_piece style variables b text h ∙ t.gives) f.1
    ∙ ap (λ w. grown style variables w (drop t.taken text)) (sym f.0) ∙ ap (grown style variables new) (sym t.leaves)

pub special_not_added : (style : Style) (variables : Variables) (old new text bytes rest : List ℕ) (b : ℕ) (end : CommandEnd) → is_plain style b ≡ false → IsTaken (special variables b text) bytes text rest 1
    → Adds old new bytes (Err end) → EndsAs (grown style variables old (b ∷ text)) end
special_not_added style variables old new text bytes rest b Memory h t f = tt
special_not_added style variables old new text bytes rest b (Refused refusal) h t f =
    grown_piece_long style variables old text bytes b (t.taken + 1) (special_piece style variables b text h ∙ t.gives) f.1 ∙ ap Err (sym f.0)

pub special_refused : (style : Style) (variables : Variables) (old text : List ℕ) (b : ℕ) (end : CommandEnd) → is_plain style b ≡ false → EndsAs (special variables b text) end
    → EndsAs (grown style variables old (b ∷ text)) end
special_refused style variables old text b Memory h f = tt
special_refused style variables old text b (Refused refusal) h f = grown_piece_refused style variables old text b refusal (special_piece style variables b text h ∙ f)
