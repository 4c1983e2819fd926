-- The commands of a text, as the reader gives them: each with its line and its words after quotes and variables, up to the first that can't be
-- read. The reader carries out `set` itself.
--
-- Lines end at LF and are counted from 1. A command's line is the one where its first word begins.
use Rattle.std.specs.Prelude.{ℕ, zero, suc, ◌+◌, ◌-◌, Bool, true, false, if◌then◌else◌, ◌||◌, not, ◌==◌, List, [], ◌∷◌, length, take, Option, None, Some, Result, Ok, Err, codes, bytes_eq}
use Rattle.std.specs.List.{prefix_len, filter}
use Rattle.std.specs.Str.{is_utf8}
use Rattle.std.specs.Str.Lossy.{utf8_valid_len}
use Rattle.sop_model.specs.Names.{is_name}
use Rattle.hscript_text.specs.declared.command.Command.{Command}
use Rattle.hscript_text.specs.declared.refusal.ScriptKind.{ScriptKind}
use Rattle.hscript_text.specs.declared.refusal.ScriptKind.TheVariants.{BadBytes, BadArgs, BadName}
use Rattle.hscript_text.specs.declared.start.Start.{Start}
use Rattle.hscript_text.specs.declared.start.Start.TheVariants as start
use Rattle.hscript_text.specs.Pieces.{Variables, no_variables, with_variable}
use Rattle.hscript_text.specs.Words.{Line, is_script_blank, command_of}

-- The commands up to the first that is refused in reading; the line of that one, and why.
pub record Reading : Type 0 where
  pub commands : List Command
  pub refusal : Option (ℕ × ScriptKind)

abbrev pub nothing : Reading
nothing = record { commands = []; refusal = None }

abbrev pub refused : ℕ → ScriptKind → Reading
refused line refusal = record { commands = []; refusal = Some (line, refusal) }

abbrev pub followed : Command → Reading → Reading
followed command reading = record { commands = command ∷ reading.commands; refusal = reading.refusal }

abbrev pub is_line_end : ℕ → Bool
is_line_end b = b == 10

abbrev pub line_ends : List ℕ → ℕ
line_ends text = length (filter is_line_end text)

-- the line of a place
abbrev pub line_of : List ℕ → ℕ → ℕ
line_of text place = 1 + line_ends (take place text)

-- `set NAME = TEXT` sets a variable.
abbrev pub set_variable : Variables → List ℕ → List ℕ → Result Variables ScriptKind
set_variable variables name text = if is_name name then Ok (with_variable variables name text) else Err BadName

abbrev pub set : Variables → List (List ℕ) → Result Variables ScriptKind
set variables (verb ∷ name ∷ sign ∷ text ∷ []) = if bytes_eq sign (codes "=") then set_variable variables name text else Err BadArgs
set variables words = Err BadArgs

abbrev pub is_set : List (List ℕ) → Bool
is_set [] = false
is_set (verb ∷ words) = bytes_eq verb (codes "set")

abbrev pub with_variables : ℕ → Result Variables ScriptKind → (Variables → Reading) → Reading
with_variables line (Ok variables) rest = rest variables
with_variables line (Err refusal) rest = refused line refusal

-- The words of a command, which may be `set`, and what follows it.
abbrev pub on_words : Bool → ℕ → Variables → List (List ℕ) → (Variables → Reading) → Reading
on_words true line variables words rest = with_variables line (set variables words) rest
on_words false line variables words rest = followed (record { line = line; words = words }) (rest variables)

-- A command of a text with so many bytes behind its first.
abbrev pub on_line : ℕ → ℕ → Variables → Line → (Variables → ℕ → Reading) → Reading
on_line line size variables (Ok read) rest = on_words (is_set read.0) line variables read.0 (λ variables. rest variables (size - length read.1))
on_line line size variables (Err refusal) rest = refused line refusal

-- What a byte begins between commands: nothing, as a blank and a line end do, a comment or a command. A `#` that a quote or a variable gives
-- begins no comment.
abbrev pub start_of : ℕ → Start
start_of b = if is_script_blank b || is_line_end b then start.Between else if b == 35 then start.Comment else start.Command

-- A comment runs to the end of its line.
abbrev pub reading_at : Start → ℕ → Variables → ℕ → List ℕ → (Variables → ℕ → Reading) → Reading
reading_at start.Between line variables b text rest = rest variables 0
reading_at start.Comment line variables b text rest = rest variables (prefix_len (λ c. not (is_line_end c)) text)
reading_at start.Command line variables b text rest = on_line line (length text) variables (command_of variables (b ∷ text)) rest

abbrev pub line_behind : ℕ → ℕ → ℕ
line_behind b line = if is_line_end b then line + 1 else line

-- The commands of a text that begins in this line, one after the other.
-- So many bytes are skipped first: they belong to the comment or the command before.
abbrev pub reading_from : ℕ → Variables → ℕ → List ℕ → Reading
reading_from line variables skip [] = nothing
reading_from line variables (suc skip) (b ∷ text) = reading_from (line_behind b line) variables skip text
reading_from line variables zero (b ∷ text) = reading_at (start_of b) line variables b text (λ variables skip. reading_from (line_behind b line) variables skip text)

-- Bytes that aren't UTF-8 are refused before any command, in the line of the first byte of the first sequence that is none.
abbrev pub reading_if : Bool → List ℕ → Reading
reading_if true bytes = reading_from 1 no_variables 0 bytes
reading_if false bytes = refused (line_of bytes (utf8_valid_len bytes)) BadBytes

abbrev pub reading_of : List ℕ → Reading
reading_of bytes = reading_if (is_utf8 bytes) bytes
