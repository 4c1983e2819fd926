-- What a word's text means, piece by piece: a byte that stands for itself, an escape or a variable.
use Rattle.std.specs.Prelude.{ℕ, zero, suc, ◌+◌, ◌-◌, Bool, true, false, if◌then◌else◌, ◌&&◌, ◌||◌, not, ◌==◌, nat_le, List, [], ◌∷◌, ◌++◌, length, take, drop, min, Option, None, Some, Result, Ok, Err, bytes_eq}
use Rattle.std.specs.List.{prefix_len}
use Rattle.sop_model.specs.Limits.{most_name_bytes}
use Rattle.sop_model.specs.Names.{starts_name, continues_name}
use Rattle.hscript_text.specs.Limits.{most_word_bytes}
use Rattle.hscript_text.specs.declared.refusal.ScriptKind.{ScriptKind}
use Rattle.hscript_text.specs.declared.refusal.ScriptKind.TheVariants.{Quote, NoVar, LongWord}
use Rattle.hscript_text.specs.declared.style.Style.{Style}
use Rattle.hscript_text.specs.declared.style.Style.TheVariants.{Bare, Single, Double}

-- The text of each variable by its name.
abbrev pub Variables : Type 0
Variables = List ℕ → Option (List ℕ)

abbrev pub no_variables : Variables
no_variables name = None

-- The variables with one set, which replaces its former text.
abbrev pub with_variable : Variables → List ℕ → List ℕ → Variables
with_variable variables name text other = if bytes_eq name other then Some text else variables other

-- The bytes that a piece gives, and how many bytes of the text it takes, at least one.
abbrev pub Piece : Type 0
Piece = Result (List ℕ × ℕ) ScriptKind

-- The length of the longest name of at most 64 bytes that a text begins with, or 0 where none does.
abbrev pub name_len : List ℕ → ℕ
name_len [] = 0
name_len (b ∷ text) = if starts_name b then min most_name_bytes (prefix_len continues_name (b ∷ text)) else 0

-- A variable's text in place of so many bytes. An unknown variable is refused.
abbrev pub replaced : Option (List ℕ) → ℕ → Piece
replaced None taken = Err NoVar
replaced (Some text) taken = Ok (text, taken)

-- whether a text begins with this byte
abbrev pub begins : ℕ → List ℕ → Bool
begins b [] = false
begins b (c ∷ text) = c == b

-- `$NAME`, where the text behind the `$` begins with a name of this length
abbrev pub named : Variables → ℕ → List ℕ → Piece
named variables n text = if n == 0 then Err NoVar else replaced (variables (take n text)) (n + 1)

-- `${NAME}`, where the text behind the `${` begins with a name of this length
abbrev pub braced : Variables → ℕ → List ℕ → Piece
braced variables n text = if n == 0 || not (begins 125 (drop n text)) then Err NoVar else replaced (variables (take n text)) (n + 3)

-- A variable, by the text behind its `$`.
abbrev pub variable : Variables → List ℕ → Piece
variable variables text =
    if begins 123 text then braced variables (name_len (drop 1 text)) (drop 1 text) else named variables (name_len text) text

-- `\"`, `\\`, `\$`, `\n` and `\t`
abbrev pub escape_of : ℕ → Option ℕ
escape_of b =
    if b == 34 then Some 34
    else if b == 92 then Some 92
    else if b == 36 then Some 36
    else if b == 110 then Some 10
    else if b == 116 then Some 9
    else None

abbrev pub escaped : Option ℕ → Piece
escaped None = Err Quote
escaped (Some b) = Ok (b ∷ [], 2)

-- An escape, by the text behind its backslash.
abbrev pub escape : List ℕ → Piece
escape [] = Err Quote
escape (b ∷ text) = escaped (escape_of b)

-- Whether a byte stands for itself: not `$` outside single quotes, and not a backslash in double quotes.
abbrev pub is_plain : Style → ℕ → Bool
is_plain Bare b = not (b == 36)
is_plain Single b = true
is_plain Double b = not (b == 36) && not (b == 92)

-- A piece that begins with a byte that doesn't stand for itself.
abbrev pub special : Variables → ℕ → List ℕ → Piece
special variables b text = if b == 36 then variable variables text else escape text

-- The piece that begins with this byte.
abbrev pub piece : Style → Variables → ℕ → List ℕ → Piece
piece style variables b text = if is_plain style b then Ok (b ∷ [], 1) else special variables b text

abbrev pub Word : Type 0
Word = Result (List ℕ) ScriptKind

abbrev pub behind : List ℕ → Word → Word
behind bytes (Ok word) = Ok (bytes ++ word)
behind bytes (Err refusal) = Err refusal

-- A word that begins with a piece, in so much room. The piece may be refused or not fit.
abbrev pub with_piece : Piece → ℕ → (ℕ → ℕ → Word) → Word
with_piece (Err refusal) room rest = Err refusal
with_piece (Ok p) room rest = if nat_le (length p.0) room then behind p.0 (rest (room - length p.0) (p.1 - 1)) else Err LongWord

-- What the pieces of a text give, one after the other, in so much room. The first that is refused or doesn't fit refuses the word.
-- So many bytes are skipped first: they belong to the piece before.
abbrev pub word_within : Style → Variables → ℕ → ℕ → List ℕ → Word
word_within style variables room skip [] = Ok []
word_within style variables room (suc skip) (b ∷ text) = word_within style variables room skip text
word_within style variables room zero (b ∷ text) = with_piece (piece style variables b text) room (λ left skip. word_within style variables left skip text)

abbrev pub word_of : Style → Variables → List ℕ → Word
word_of style variables text = word_within style variables most_word_bytes 0 text
