-- The lines of an OBJ text, each with its number and its words.
--
-- A byte order mark at the start is no part of the text. A backslash right before LF or CR LF is one blank with that end, and the line goes
-- on behind it. Every other LF ends a line, and what stands behind the last one is a line too. The lines of the file are counted from 1, and
-- a line that goes on has the number of its first part. Words are the longest runs without blanks. One that begins with `#` ends the words of
-- its line.
use Rattle.std.specs.Prelude.{ℕ, ◌+◌, Bool, true, false, if◌then◌else◌, ◌&&◌, ◌||◌, ◌==◌, List, [], ◌∷◌, filter, Option, None, Some}
use Rattle.std.specs.List.{slice_split}

abbrev pub is_filled : {A : Type 0} → List A → Bool
is_filled [] = false
is_filled (x ∷ xs) = true

-- a text without the byte order mark at its start
abbrev pub without_mark : List ℕ → List ℕ
without_mark (a ∷ b ∷ c ∷ text) = if (a == 239) && (b == 187) && (c == 191) then text else a ∷ b ∷ c ∷ text
without_mark text = text

-- no byte: what a backslash and the end behind it become
abbrev pub joint : ℕ
joint = 256

-- what stands behind LF or CR LF at the start of a text
abbrev pub behind_line_feed : Bool → List ℕ → Option (List ℕ)
behind_line_feed true (b ∷ text) = if b == 10 then Some text else None
behind_line_feed expected text = None

abbrev pub behind_end : List ℕ → Option (List ℕ)
behind_end [] = None
behind_end (a ∷ text) = if a == 10 then Some text else behind_line_feed (a == 13) text

-- a backslash before a text
abbrev pub backslash_before : Option (List ℕ) → List ℕ → List ℕ
backslash_before (Some rest) text = joint ∷ rest
backslash_before None text = 92 ∷ text

abbrev pub byte_before : ℕ → List ℕ → List ℕ
byte_before b text = if b == 92 then backslash_before (behind_end text) text else b ∷ text

-- a text with a joint for each backslash before an end, and that end
abbrev pub joined : List ℕ → List ℕ
joined [] = []
joined (b ∷ text) = byte_before b (joined text)

-- space, tab, CR, vertical tab and form feed, and joints
abbrev pub is_blank : ℕ → Bool
is_blank b = (b == 32) || (b == 9) || (b == 13) || (b == 11) || (b == 12) || (b == joint)

abbrev pub is_comment : List ℕ → Bool
is_comment [] = false
is_comment (b ∷ word) = b == 35

-- the words before the first that begins with `#`
abbrev pub before_comment : List (List ℕ) → List (List ℕ)
before_comment [] = []
before_comment (word ∷ words) = if is_comment word then [] else word ∷ before_comment words

abbrev pub words_of : List ℕ → List (List ℕ)
words_of line = before_comment (filter is_filled (slice_split is_blank line))

pub record Line : Type 0 where
  -- the number in the file of the line that it begins in, from 1
  pub number : ℕ
  pub words : List (List ℕ)

abbrev pub joints_in : List ℕ → ℕ
joints_in [] = 0
joints_in (b ∷ line) = (if b == joint then 1 else 0) + joints_in line

-- lines one after the other, where the first has this number
abbrev pub numbered : ℕ → List (List ℕ) → List Line
numbered number [] = []
numbered number (line ∷ lines) = record { number = number; words = words_of line } ∷ numbered (number + (joints_in line + 1)) lines

abbrev pub lines_of : List ℕ → List Line
lines_of bytes = numbered 1 (slice_split (λ b. b == 10) (joined (without_mark bytes)))
