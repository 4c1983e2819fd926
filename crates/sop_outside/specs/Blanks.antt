-- Blanks, and the words between them.
use Rattle.std.specs.Prelude.{◌≡◌, ℕ, Bool, true, false, ◌||◌, ◌==◌, List, [], ◌∷◌, filter}
use Rattle.std.specs.List.{slice_split}

-- Space, tab, CR and LF.
abbrev pub is_blank : ℕ → Bool
is_blank byte = (byte == 32) || (byte == 9) || (byte == 13) || (byte == 10)

abbrev pub is_filled : List ℕ → Bool
is_filled [] = false
is_filled (byte ∷ text) = true

-- The words of a text: its longest runs of bytes that aren't blanks.
abbrev pub words_of : List ℕ → List (List ℕ)
words_of text = filter is_filled (slice_split is_blank text)

-- No blank stands at the front of a text.
abbrev pub begins_filled : List ℕ → Type 0
begins_filled [] = Unit {0}
begins_filled (byte ∷ text) = is_blank byte ≡ false
