-- What atoms look like, form by form.
use Rattle.std.specs.Prelude.{◌≡◌, ◌≢◌, ℕ, ◌<◌, ◌≤◌, Bool, false, IsTrue, IsFalse, List, [], ◌∷◌, ◌++◌, length, codes}
use Rattle.std.specs.List.{list_all}
use Rattle.std.specs.Char.{is_ascii_digit}
use Rattle.sop_fixed.specs.Numerals.{number_of}
use Rattle.sop_model.specs.Names.{is_name}
use Rattle.sop_pattern.specs.declared.word.Atom.{Atom}
use Rattle.sop_pattern.specs.declared.word.Atom.TheVariants.{Number, Range, Step, Cycle, All, Group, Groups}
use Rattle.sop_pattern.specs.Words.{most_digits, is_wild}

-- 1 to 18 digits that say a number
pub record IsNumber (text : List ℕ) (n : ℕ) : Type 0 where
  pub digits : IsTrue (list_all is_ascii_digit text)
  pub some : 0 < length text
  pub few : length text ≤ most_digits
  pub value : number_of text ≡ n

-- `n-m`
pub record IsRange (word : List ℕ) (n m : ℕ) : Type 0 where
  pub first : List ℕ
  pub last : List ℕ
  pub first_is : IsNumber first n
  pub last_is : IsNumber last m
  pub whole : word ≡ first ++ 45 ∷ last

-- `n-m:s`
pub record IsStep (word : List ℕ) (n m s : ℕ) : Type 0 where
  pub first : List ℕ
  pub last : List ℕ
  pub step : List ℕ
  pub first_is : IsNumber first n
  pub last_is : IsNumber last m
  pub step_is : IsNumber step s
  pub positive : 0 < s
  pub whole : word ≡ first ++ 45 ∷ (last ++ 58 ∷ step)

-- `n-m:a,b`
pub record IsCycle (word : List ℕ) (n m a b : ℕ) : Type 0 where
  pub first : List ℕ
  pub last : List ℕ
  pub taken : List ℕ
  pub every : List ℕ
  pub first_is : IsNumber first n
  pub last_is : IsNumber last m
  pub taken_is : IsNumber taken a
  pub every_is : IsNumber every b
  pub positive : 0 < b
  pub whole : word ≡ first ++ 45 ∷ (last ++ 58 ∷ (taken ++ 44 ∷ every))

abbrev pub begins_with_digit : List ℕ → Bool
begins_with_digit [] = false
begins_with_digit (b ∷ text) = is_ascii_digit b

-- a word other than `*`, of letters, digits, `_`, `*` and `?`, that has a `*` or `?` and doesn't begin with a digit
pub record IsWild (word : List ℕ) : Type 0 where
  pub wild : IsTrue (is_wild word)
  pub no_digit : IsFalse (begins_with_digit word)
  pub not_all : word ≢ codes "*"

-- whether a text is an atom
abbrev pub IsAtom : List ℕ → Atom → Type 0
IsAtom word (Number n) = IsNumber word n
IsAtom word (Range n m) = IsRange word n m
IsAtom word (Step n m s) = IsStep word n m s
IsAtom word (Cycle n m a b) = IsCycle word n m a b
IsAtom word All = word ≡ codes "*"
IsAtom word (Group name) = IsTrue (is_name word) × (word ≡ name)
IsAtom word (Groups pattern) = IsWild word × (word ≡ pattern)
