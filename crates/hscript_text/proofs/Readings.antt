-- The commands of a text, read a piece at a time.
use Rattle.std.proofs.Common.{◌≡◌, ℕ, zero, suc, ◌+◌, ◌-◌, ◌≤◌, ◌<◌, List, [], ◌∷◌, length, take, drop, refl, ap, sym, ◌∙◌, arith, Bool, true, false, cond, not, ◌||◌, ◌==◌, get_or}
use Rattle.std.specs.Prelude.{Ok, if◌then◌else◌}
use Rattle.std.specs.List.{prefix_len, filter}
use Rattle.std.specs.Str.{IsUtf8, is_utf8}
use Rattle.std.proofs.lemmas.List.{length-drop}
use Rattle.std.proofs.lemmas.List.Sums.{prefix_len-le-length}
use Rattle.std.proofs.lemmas.Str.{IsUtf8-from_is_utf8}
use Rattle.hscript_text.specs.declared.refusal.CommandEnd.{CommandEnd}
use Rattle.hscript_text.specs.declared.refusal.CommandEnd.TheVariants.{Refused, Memory}
use Rattle.hscript_text.specs.declared.start.Start.{Start}
use Rattle.hscript_text.specs.declared.start.Start.TheVariants as start
use Rattle.hscript_text.specs.Pieces.{Variables}
use Rattle.hscript_text.specs.Words.{is_script_blank, command_of}
use Rattle.hscript_text.specs.Reading.{followed, is_line_end, line_ends, set, is_set, with_variables, on_words, on_line, start_of, reading_at, line_behind, reading_from}
use Rattle.hscript_text.specs.Ends.{EndsAs, EndsReading}
use Rattle.hscript_text.specs.Parts.{IsRest, end_of}

first_line : (b line : ℕ) (text : List ℕ) → line_behind b line + line_ends text ≡ line + line_ends (b ∷ text)
first_line b line text = elim (is_line_end b) as (λ v. cond v (line + 1) line + line_ends text ≡ line + length (cond v (b ∷ filter is_line_end text) (filter is_line_end text))) [ true ↦ omega arith | false ↦ refl ]

-- bytes that are skipped are counted in lines
pub reading-skip : (line : ℕ) (variables : Variables) (k : ℕ) (text : List ℕ) → reading_from line variables k text ≡ reading_from (line + line_ends (take k text)) variables 0 (drop k text)
reading-skip line variables zero text = let e : line ≡ line + 0 = omega arith in ap (λ n. reading_from n variables 0 text) e
reading-skip line variables (suc k) [] = refl
reading-skip line variables (suc k) (b ∷ text) = reading-skip (line_behind b line) variables k text ∙ ap (λ n. reading_from n variables 0 (drop k text)) (first_line b line (take k text))

opened : (line : ℕ) (variables : Variables) (b : ℕ) (text : List ℕ) (s : Start) → start_of b ≡ s
    → reading_from line variables 0 (b ∷ text) ≡ reading_at s line variables b text (λ variables skip. reading_from (line_behind b line) variables skip text)
opened line variables b text s e = ap (λ s. reading_at s line variables b text (λ variables skip. reading_from (line_behind b line) variables skip text)) e

pub rest_place : (text rest : List ℕ) → IsRest text rest → rest ≡ drop (length text - length rest) text
rest_place text rest h =
    let size : length rest ≡ length text - h.before = ap length h.is ∙ length-drop h.before text in
    let inside = h.inside in
    let e : h.before ≡ length text - length rest = omega arith in
    h.is ∙ ap (λ k. drop k text) e

-- what is left behind a part that was read
pub left_behind : (line ends : ℕ) (variables : Variables) (text rest : List ℕ) → IsRest text rest → ends ≡ line_ends (take (length text - length rest) text)
    → reading_from (line + ends) variables 0 rest ≡ reading_from line variables (length text - length rest) text
left_behind line ends variables text rest h e =
    ap (reading_from (line + ends) variables 0) (rest_place text rest h)
    ∙ ap (λ n. reading_from (line + n) variables 0 (drop (length text - length rest) text)) e ∙ sym (reading-skip line variables (length text - length rest) text)

picked : (between comment : Bool) → (if between then start.Between else if comment then start.Comment else start.Command) ≡ start.Comment → between ≡ false
picked true comment e = absurd (cc)
picked false comment e = refl

neither : (a b : Bool) → (a || b) ≡ false → b ≡ false
neither true b e = absurd (cc)
neither false b e = e

comment_byte : (b : ℕ) → start_of b ≡ start.Comment → is_line_end b ≡ false
comment_byte b e = neither (is_script_blank b) (is_line_end b) (picked (is_script_blank b || is_line_end b) (b == 35) e)

comment_size : (b : ℕ) (text rest : List ℕ) → start_of b ≡ start.Comment → rest ≡ drop (prefix_len (λ b. not (is_line_end b)) (b ∷ text)) (b ∷ text)
    → length (b ∷ text) - length rest ≡ suc (prefix_len (λ c. not (is_line_end c)) text)
comment_size b text rest e is =
    let passes : ℕ → Bool = λ c. not (is_line_end c) in
    let n = prefix_len passes text in
    let first : prefix_len passes (b ∷ text) ≡ 1 + n = ap (λ v. cond (not v) (1 + n) 0) (comment_byte b e) in
    let size : length rest ≡ length (b ∷ text) - (1 + n) = ap length is ∙ length-drop (prefix_len passes (b ∷ text)) (b ∷ text) ∙ ap (λ k. length (b ∷ text) - k) first in
    let within : n ≤ length text = prefix_len-le-length passes text in
    omega arith

-- a comment
pub comment_next : (variables : Variables) (text rest : List ℕ) → 0 < length text → start_of (get_or text 0 0) ≡ start.Comment → rest ≡ drop (prefix_len (λ b. not (is_line_end b)) text) text
    → (line : ℕ) → reading_from line variables (length text - length rest) text ≡ reading_from line variables 0 text
comment_next variables [] rest some e is line = absurd (omega arith)
comment_next variables (b ∷ text) rest some e is line = ap (λ k. reading_from line variables k (b ∷ text)) (comment_size b text rest e is) ∙ sym (opened line variables b text start.Comment e)

-- the words of a command, with the text behind its line
line_read : (line : ℕ) (variables : Variables) (b : ℕ) (text rest : List ℕ) (words : List (List ℕ)) → start_of b ≡ start.Command → command_of variables (b ∷ text) ≡ Ok (words, rest) → length rest < length (b ∷ text)
    → reading_from line variables 0 (b ∷ text) ≡ on_words (is_set words) line variables words (λ variables. reading_from line variables (length (b ∷ text) - length rest) (b ∷ text))
line_read line variables b text rest words e read less =
    let k : suc (length text - length rest) ≡ length (b ∷ text) - length rest = omega arith in
    opened line variables b text start.Command e
    ∙ ap (λ r. on_line line (length text) variables r (λ variables skip. reading_from (line_behind b line) variables skip text)) read
    ∙ ap (λ k. on_words (is_set words) line variables words (λ variables. reading_from line variables k (b ∷ text))) k

-- a command that isn't `set` is given
pub command_given : (line : ℕ) (variables : Variables) (text rest : List ℕ) (words : List (List ℕ)) (is : Bool) → 0 < length text → start_of (get_or text 0 0) ≡ start.Command → command_of variables text ≡ Ok (words, rest)
    → length rest < length text → is ≡ is_set words → is ≡ false
    → reading_from line variables 0 text ≡ followed (record { line = line; words = words }) (reading_from line variables (length text - length rest) text)
command_given line variables [] rest words is some e read less same told = absurd (omega arith)
command_given line variables (b ∷ text) rest words is some e read less same told =
    line_read line variables b text rest words e read less
    ∙ ap (λ v. on_words v line variables words (λ variables. reading_from line variables (length (b ∷ text) - length rest) (b ∷ text))) (sym same ∙ told)

set_read : (line : ℕ) (variables : Variables) (text rest : List ℕ) (words : List (List ℕ)) (is : Bool) → 0 < length text → start_of (get_or text 0 0) ≡ start.Command → command_of variables text ≡ Ok (words, rest)
    → length rest < length text → is ≡ is_set words → is ≡ true
    → reading_from line variables 0 text ≡ with_variables line (set variables words) (λ variables. reading_from line variables (length text - length rest) text)
set_read line variables [] rest words is some e read less same told = absurd (omega arith)
set_read line variables (b ∷ text) rest words is some e read less same told =
    line_read line variables b text rest words e read less
    ∙ ap (λ v. on_words v line variables words (λ variables. reading_from line variables (length (b ∷ text) - length rest) (b ∷ text))) (sym same ∙ told)

-- `set` that is refused
pub set_refused : (line : ℕ) (variables : Variables) (text rest : List ℕ) (words : List (List ℕ)) (is : Bool) (end : CommandEnd) → 0 < length text → start_of (get_or text 0 0) ≡ start.Command → command_of variables text ≡ Ok (words, rest)
    → length rest < length text → is ≡ is_set words → is ≡ true → EndsAs (set variables words) end → EndsReading (reading_from line variables 0 text) (end_of line end)
set_refused line variables text rest words is Memory some e read less same told h = tt
set_refused line variables text rest words is (Refused refusal) some e read less same told h =
    set_read line variables text rest words is some e read less same told
    ∙ ap (λ r. with_variables line r (λ variables. reading_from line variables (length text - length rest) text)) h

pub not_text : (bytes : List ℕ) → (IsUtf8 bytes → ⊥) → is_utf8 bytes ≡ false
not_text bytes none = elim (is_utf8 bytes) as (λ v. is_utf8 bytes ≡ v → v ≡ false) [ true ↦ λ e. absurd (none (IsUtf8-from_is_utf8 bytes e)) | false ↦ λ e. refl ] refl
