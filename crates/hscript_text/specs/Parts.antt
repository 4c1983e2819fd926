-- What the parts of the reader ensure.
use Rattle.std.specs.Prelude.{◌≡◌, ℕ, zero, suc, ◌+◌, ◌-◌, ◌<◌, ◌≤◌, List, [], ◌∷◌, ◌++◌, length, drop, slice_index, Option, None, Some, Result, Ok, Err}
use Rattle.std.specs.BTreeMap.{get_by_text}
use Rattle.sop_net.specs.declared.net_end.NetEnd.{NetEnd}
use Rattle.sop_net.specs.declared.net_end.NetEnd.TheVariants as end
use Rattle.hscript_text.specs.declared.refusal.ScriptKind.TheVariants.{LongWord, Limit}
use Rattle.hscript_text.specs.declared.refusal.CommandEnd.{CommandEnd}
use Rattle.hscript_text.specs.declared.refusal.CommandEnd.TheVariants.{Refused, Memory}
use Rattle.hscript_text.specs.declared.style.Style.{Style}
use Rattle.hscript_text.specs.declared.variables.Variables as texts
use Rattle.hscript_text.specs.declared.unread.Unread.{Unread}
use Rattle.hscript_text.specs.declared.command.Command.{Command}
use Rattle.hscript_text.specs.Pieces.{Variables, Piece, Word, behind, word_within}
use Rattle.hscript_text.specs.declared.refusal.ScriptEnd.{ScriptEnd}
use Rattle.hscript_text.specs.declared.refusal.ScriptEnd.TheVariants as script_end
use Rattle.hscript_text.specs.Limits.{most_script_bytes, most_word_bytes, most_echoed_bytes}
use Rattle.hscript_text.specs.Commands.{refusal_of}
use Rattle.hscript_text.specs.Words.{Taken, Line, with_words, command_from}
use Rattle.hscript_text.specs.Reading.{Reading, nothing, followed, reading_from}
use Rattle.hscript_text.specs.Ends.{EndsReading}

-- The variables of the reader.
abbrev pub variables_of : texts.Variables → Variables
variables_of v name = get_by_text v.texts name

-- A word grew by a text, which is refused where the word would be too long.
abbrev pub Adds : List ℕ → List ℕ → List ℕ → Result (Unit {0}) CommandEnd → Type 0
Adds old new text (Ok done) = (new ≡ old ++ text) × (length text ≤ most_word_bytes - length old)
Adds old new text (Err (Refused refusal)) = (refusal ≡ LongWord) × (most_word_bytes - length old < length text)
Adds old new text (Err Memory) = Unit {0}

-- The echoed text grew by a text, which is refused where it would be too long.
abbrev pub Echoes : List ℕ → List ℕ → List ℕ → Result (Unit {0}) CommandEnd → Type 0
Echoes old new text (Ok done) = (new ≡ old ++ text) × (length new ≤ most_echoed_bytes)
Echoes old new text (Err (Refused refusal)) = (refusal ≡ Limit) × (most_echoed_bytes < length old + length text)
Echoes old new text (Err Memory) = Unit {0}

-- what stands before word `i` of a line
abbrev pub between : ℕ → List ℕ
between zero = []
between (suc i) = 32 ∷ []

-- how a step of the network that fails ends a command
abbrev pub command_end_of : NetEnd → CommandEnd
command_end_of end.Memory = Memory
command_end_of other = Refused (refusal_of other)

-- The word that a word so far and the pieces of a text make.
abbrev pub grown : Style → Variables → List ℕ → List ℕ → Word
grown style variables word text = behind word (word_within style variables (most_word_bytes - length word) 0 text)

-- A piece gives these bytes and leaves this rest of a text, which stands so many bytes behind the piece's start.
pub record IsTaken (piece : Piece) (bytes text rest : List ℕ) (before : ℕ) : Type 0 where
  pub taken : ℕ
  pub gives : piece ≡ Ok (bytes, taken + before)
  pub leaves : rest ≡ drop taken text

-- A text stands at the end of another.
pub record IsRest (text rest : List ℕ) : Type 0 where
  pub before : ℕ
  pub inside : before ≤ length text
  pub is : rest ≡ drop before text

-- A word is read from a text, at least a byte, and leaves this rest. It began so many bytes before the text.
pub record IsRead (taken : Taken) (word text rest : List ℕ) (before : ℕ) : Type 0 where
  pub bytes : ℕ
  pub gives : taken ≡ Ok (word, bytes + before)
  pub leaves : rest ≡ drop bytes text
  pub some : 0 < bytes + before
  pub inside : bytes ≤ length text

-- The command that words so far and the words of a text make.
abbrev pub joined : Variables → List (List ℕ) → List ℕ → Line
joined variables words text = with_words words (command_from variables 0 text)

-- If a closing quote was found, it stands at this place of the text, and is an ASCII byte.
abbrev pub IsEnd : List ℕ → Option ℕ → Type 0
IsEnd text None = Unit {0}
IsEnd text (Some n) = (n < length text) × (slice_index text n < 128)

-- What is still to be read.
abbrev pub reading_left : Unread → Reading
reading_left u = reading_from u.line (variables_of u.variables) 0 u.rest.now

-- The end of the text is within the lines that are counted.
abbrev pub HasLines : Unread → Type 0
HasLines u = u.line + length u.rest.now ≤ 1 + most_script_bytes

-- Something was read: nothing comes of it, or a command, or it is refused.
abbrev pub Advances : Unread → Unread → Result (Option Command) ScriptEnd → Type 0
Advances old new (Ok None) = reading_left new ≡ reading_left old
Advances old new (Ok (Some command)) = reading_left old ≡ followed command (reading_left new)
Advances old new (Err end) = EndsReading (reading_left old) end × (reading_left new ≡ reading_left old)

-- The next command, or the end of the text, or what is refused before.
abbrev pub Gives : Reading → Reading → Result (Option Command) ScriptEnd → Type 0
Gives old new (Ok None) = (old ≡ nothing) × (new ≡ nothing)
Gives old new (Ok (Some command)) = old ≡ followed command new
Gives old new (Err end) = EndsReading old end × (new ≡ old)

-- how a command that fails in a line ends a script
abbrev pub end_of : ℕ → CommandEnd → ScriptEnd
end_of line (Refused refusal) = script_end.Refused line refusal
end_of line Memory = script_end.Memory
