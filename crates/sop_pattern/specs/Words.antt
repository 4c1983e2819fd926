-- The words of a group pattern: what each is, or that it is a bad word.
--
-- Words are separated by blanks. A word is an atom, behind `!` or `^` or neither. An atom is numbers, `*`, the name of a group, or a text
-- with `*` and `?` that stands for names of groups.
use Rattle.std.specs.Prelude.{ℕ, suc, Bool, if◌then◌else◌, ◌&&◌, ◌||◌, nat_lt, ◌==◌, List, [], ◌∷◌, Option, None, Some, is_some, Result, Ok, Err, position, codes, bytes_eq}
use Rattle.std.specs.List.{list_all, before_first, after_first}
use Rattle.std.specs.Option.{option_map}
use Rattle.sop_fixed.specs.Numerals as numerals
use Rattle.sop_outside.specs.Blanks.{words_of}
use Rattle.std.specs.Char.{is_ascii_digit}
use Rattle.sop_model.specs.Names.{continues_name, is_name}
use Rattle.sop_pattern.specs.declared.word.Atom.{Atom}
use Rattle.sop_pattern.specs.declared.word.Atom.TheVariants.{Number, Range, Step, Cycle, All, Group, Groups}
use Rattle.sop_pattern.specs.declared.word.Effect.{Effect}
use Rattle.sop_pattern.specs.declared.word.Effect.TheVariants.{Adds, AddsOthers, Takes}
use Rattle.sop_pattern.specs.declared.word.Word.{Word}

-- the digits of a number
abbrev pub most_digits : ℕ
most_digits = 18

-- the number that a text of that many digits at most, and of at least one, says
abbrev pub number_in : List ℕ → Option ℕ
number_in text = numerals.number_in most_digits text

-- what stands before the first byte `mark`, or the whole text where there is none
abbrev pub before : ℕ → List ℕ → List ℕ
before mark text = before_first (λ b. b == mark) text

-- what stands behind the first byte `mark`, where there is one
abbrev pub behind : ℕ → List ℕ → Option (List ℕ)
behind mark text = if is_some (position (λ b. b == mark) text) then Some (after_first (λ b. b == mark) text) else None

-- `n-m:a,b`, with b at least 1
abbrev pub cycle_of : ℕ → ℕ → ℕ → Option ℕ → Option Atom
cycle_of n m a None = None
cycle_of n m a (Some b) = if nat_lt 0 b then Some (Cycle n m a b) else None

-- `n-m:s`, with s at least 1, or more behind `,`
abbrev pub step_of : ℕ → ℕ → Option ℕ → Option (List ℕ) → Option Atom
step_of n m None rest = None
step_of n m (Some s) None = if nat_lt 0 s then Some (Step n m s) else None
step_of n m (Some a) (Some rest) = cycle_of n m a (number_in rest)

-- `n-m`, or more behind `:`
abbrev pub range_of : ℕ → Option ℕ → Option (List ℕ) → Option Atom
range_of n None rest = None
range_of n (Some m) None = Some (Range n m)
range_of n (Some m) (Some rest) = step_of n m (number_in (before 44 rest)) (behind 44 rest)

-- `n`, or more behind `-`
abbrev pub numbers_of : Option ℕ → Option (List ℕ) → Option Atom
numbers_of None rest = None
numbers_of (Some n) None = Some (Number n)
numbers_of (Some n) (Some rest) = range_of n (number_in (before 58 rest)) (behind 58 rest)

-- `*` or `?`
abbrev pub is_wild_byte : ℕ → Bool
is_wild_byte b = (b == 42) || (b == 63)

-- letters, digits, `_`, `*` and `?`, with a `*` or `?` among them
abbrev pub is_wild : List ℕ → Bool
is_wild word = list_all (λ b. continues_name b || is_wild_byte b) word && is_some (position is_wild_byte word)

-- `*`, a name, or a text that stands for names
abbrev pub named_atom : List ℕ → Option Atom
named_atom word =
    if bytes_eq word (codes "*") then Some All
    else if is_name word then Some (Group word)
    else if is_wild word then Some (Groups word)
    else None

-- A word that begins with a digit is numbers.
abbrev pub atom_of : List ℕ → Option Atom
atom_of [] = None
atom_of (b ∷ rest) = if is_ascii_digit b then numbers_of (number_in (before 45 (b ∷ rest))) (behind 45 (b ∷ rest)) else named_atom (b ∷ rest)

abbrev pub with_effect : Effect → Option Atom → Option Word
with_effect effect atom = option_map (λ a. record { effect = effect; atom = a }) atom

-- what a word is; None is a bad word
abbrev pub word_of : List ℕ → Option Word
word_of [] = None
word_of (b ∷ rest) =
    if b == 33 then with_effect AddsOthers (atom_of rest)
    else if b == 94 then with_effect Takes (atom_of rest)
    else with_effect Adds (atom_of (b ∷ rest))

abbrev pub put_word : ℕ → Option Word → Result (List Word) ℕ → Result (List Word) ℕ
put_word i None rest = Err i
put_word i (Some word) (Ok words) = Ok (word ∷ words)
put_word i (Some word) (Err bad) = Err bad

-- what the words are, counted from a number on, or the number of the first bad word
abbrev pub pattern_from : ℕ → List (List ℕ) → Result (List Word) ℕ
pattern_from i [] = Ok []
pattern_from i (text ∷ texts) = put_word i (word_of text) (pattern_from (suc i) texts)

-- The pattern that a text is: its words, or the number of its first bad word, from 0.
abbrev pub pattern_of : List ℕ → Result (List Word) ℕ
pattern_of text = pattern_from 0 (words_of text)
