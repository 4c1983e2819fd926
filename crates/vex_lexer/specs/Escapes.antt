-- The value of a string.
use Rattle.std.specs.Prelude.{ℕ, ◌-◌, Bool, true, false, if◌then◌else◌, ◌==◌, List, [], ◌∷◌, length, take, drop, Option, Some, None}
use Rattle.vex_lexer.specs.Words.{is_string}

-- What a byte behind a backslash means: `n` a line end, `t` a tab, and any other one itself.
abbrev pub meant : ℕ → ℕ
meant b = if b == 110 then 10 else if b == 116 then 9 else b

-- The text with each escape as what it means. `true` says that a backslash stands before it.
abbrev pub unescaped : Bool → List ℕ → List ℕ
unescaped escape [] = []
unescaped true (b ∷ text) = meant b ∷ unescaped false text
unescaped false (b ∷ text) = if b == 92 then unescaped true text else b ∷ unescaped false text

-- what stands between the quotes of a string
abbrev pub between_quotes : List ℕ → List ℕ
between_quotes word = take (length word - 2) (drop 1 word)

-- the value of a word, where it is a string
abbrev pub string_value : List ℕ → Option (List ℕ)
string_value word = if is_string word then Some (unescaped false (between_quotes word)) else None
