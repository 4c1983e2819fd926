-- Names that a text with `*` and `?` stands for: `*` is any number of bytes, also none, `?` is one byte, and each other byte is itself.
use Rattle.std.specs.Prelude.{ℕ, Bool, true, false, ◌&&◌, ◌||◌, ◌==◌, List, [], ◌∷◌, drop}
use Rattle.std.specs.List.{list_any}

-- all ends of a text, from the whole text to the empty one
abbrev pub ends_of : List ℕ → List (List ℕ)
ends_of [] = [] ∷ []
ends_of (b ∷ text) = (b ∷ text) ∷ ends_of text

-- whether a byte of a pattern other than `*` stands for the first byte of a name
abbrev pub begins : ℕ → List ℕ → Bool
begins c [] = false
begins c (b ∷ name) = (c == 63) || (c == b)

-- whether a byte of a pattern and what stands behind it match a name; `true` says that the byte is `*`
abbrev pub piece_matches : Bool → ℕ → (List ℕ → Bool) → List ℕ → Bool
piece_matches true c rest name = list_any rest (ends_of name)
piece_matches false c rest name = begins c name && rest (drop 1 name)

-- whether a pattern matches a name
abbrev pub matches : List ℕ → List ℕ → Bool
matches [] [] = true
matches [] (b ∷ name) = false
matches (c ∷ pattern) name = piece_matches (c == 42) c (matches pattern) name
