-- The words of a command, by where each begins and ends.
use Rattle.std.specs.Prelude.{ℕ, zero, suc, ◌+◌, ◌-◌, Bool, true, false, if◌then◌else◌, ◌||◌, not, ◌==◌, List, [], ◌∷◌, ◌++◌, take, drop, Option, None, Some, Result, Ok, Err, position}
use Rattle.std.specs.Option.{option_map}
use Rattle.std.specs.List.{prefix_len}
use Rattle.hscript_text.specs.declared.refusal.ScriptKind.{ScriptKind}
use Rattle.hscript_text.specs.declared.refusal.ScriptKind.TheVariants.{Quote}
use Rattle.hscript_text.specs.declared.style.Style.{Style}
use Rattle.hscript_text.specs.declared.style.Style.TheVariants.{Bare, Single, Double}
use Rattle.hscript_text.specs.declared.style.Opening.{Opening}
use Rattle.hscript_text.specs.declared.style.Opening.TheVariants as opening
use Rattle.hscript_text.specs.Pieces.{Variables, Word, word_of}

-- space, tab and CR
abbrev pub is_script_blank : ℕ → Bool
is_script_blank b = (b == 32) || (b == 9) || (b == 13)

-- A bare word runs to the next blank, line end or quote.
abbrev pub is_bare : ℕ → Bool
is_bare b = not (is_script_blank b || (b == 10) || (b == 39) || (b == 34))

-- Behind a word stands a blank, a line end, or nothing.
abbrev pub may_follow : List ℕ → Bool
may_follow [] = true
may_follow (b ∷ text) = is_script_blank b || (b == 10)

-- A word, and how many bytes of the text it takes.
abbrev pub Taken : Type 0
Taken = Result (List ℕ × ℕ) ScriptKind

-- A word of so many bytes, with the text behind it. What is refused in the word stands before what can't follow it.
abbrev pub ended : Word → ℕ → List ℕ → Taken
ended (Err refusal) taken text = Err refusal
ended (Ok word) taken text = if may_follow text then Ok (word, taken) else Err Quote

abbrev pub bare : Variables → List ℕ → Taken
bare variables text = let n = prefix_len is_bare text in ended (word_of Bare variables (take n text)) n (drop n text)

-- A quoted word, by the place of its closing quote in the text behind the opening one. Without one the opening quote is refused,
-- which stands before all else in the word.
abbrev pub quoted : Style → Variables → Option ℕ → List ℕ → Taken
quoted style variables None text = Err Quote
quoted style variables (Some n) text = ended (word_of style variables (take n text)) (n + 2) (drop (n + 1) text)

-- The place of the first quote where a backslash and the byte behind it are one. `true` says that a backslash stands before the text.
abbrev pub unescaped_quote : Bool → List ℕ → Option ℕ
unescaped_quote escape [] = None
unescaped_quote true (b ∷ text) = option_map (λ n. n + 1) (unescaped_quote false text)
unescaped_quote false (b ∷ text) = if b == 34 then Some 0 else option_map (λ n. n + 1) (unescaped_quote (b == 92) text)

-- The word of this style that a text begins with.
abbrev pub first_word : Style → Variables → List ℕ → Taken
first_word Bare variables text = bare variables text
first_word Single variables text = quoted Single variables (position (λ b. b == 39) (drop 1 text)) (drop 1 text)
first_word Double variables text = quoted Double variables (unescaped_quote false (drop 1 text)) (drop 1 text)

abbrev pub style_of : ℕ → Style
style_of b = if b == 39 then Single else if b == 34 then Double else Bare

abbrev pub opening_of : ℕ → Opening
opening_of b = if is_script_blank b then opening.Blank else if b == 10 then opening.LineEnd else opening.Word (style_of b)

-- The words of a command and the text behind its line.
abbrev pub Line : Type 0
Line = Result (List (List ℕ) × List ℕ) ScriptKind

abbrev pub with_words : List (List ℕ) → Line → Line
with_words words (Ok command) = Ok (words ++ command.0, command.1)
with_words words (Err refusal) = Err refusal

-- A command that begins with a word.
abbrev pub with_word : Taken → (ℕ → Line) → Line
with_word (Err refusal) rest = Err refusal
with_word (Ok word) rest = with_words (word.0 ∷ []) (rest (word.1 - 1))

-- A command ends with its line. Text between words is passed over.
abbrev pub command_at : Opening → Variables → ℕ → List ℕ → (ℕ → Line) → Line
command_at opening.Blank variables b text rest = rest 0
command_at opening.LineEnd variables b text rest = Ok ([], text)
command_at (opening.Word style) variables b text rest = with_word (first_word style variables (b ∷ text)) rest

-- The words up to the end of the line, or of the text. The first that is refused refuses the command.
-- So many bytes are skipped first: they belong to the word before.
abbrev pub command_from : Variables → ℕ → List ℕ → Line
command_from variables skip [] = Ok ([], [])
command_from variables (suc skip) (b ∷ text) = command_from variables skip text
command_from variables zero (b ∷ text) = command_at (opening_of b) variables b text (λ skip. command_from variables skip text)

abbrev pub command_of : Variables → List ℕ → Line
command_of variables text = command_from variables 0 text
