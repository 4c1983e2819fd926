-- Lines and words of an OBJ text that is read from its front, as private contracts speak of them.
use Rattle.std.specs.Prelude.{◌≡◌, ◌⊎◌, codes, ℕ, ◌+◌, Bool, true, false, not, if◌then◌else◌, ◌||◌, ◌==◌, List, [], ◌∷◌, filter, Option, None, Some, option_map}
use Rattle.std.specs.List.{list_all, slice_split}
use Rattle.std.specs.Borrow.{Bor}
use Rattle.std.specs.Char.{is_ascii_digit}
use Rattle.sop_fixed.specs.declared.vec3.Vec3.{Vec3}
use Rattle.geo_text.specs.ObjStatements.{Place}
use Rattle.geo_text.specs.ObjLines.{joint, joined, is_filled, is_blank, words_of}

abbrev pub is_line_feed : ℕ → Bool
is_line_feed b = b == 10

-- what stands before the first LF
abbrev pub line_in : List ℕ → List ℕ
line_in [] = []
line_in (b ∷ text) = if is_line_feed b then [] else b ∷ line_in text

-- what stands behind the first LF
abbrev pub behind_line : List ℕ → Option (List ℕ)
behind_line [] = None
behind_line (b ∷ text) = if is_line_feed b then Some text else behind_line text

-- the lines behind the first
abbrev pub lines_left : Option (List ℕ) → List (List ℕ)
lines_left None = []
lines_left (Some text) = slice_split is_line_feed text

abbrev pub joined_left : Option (Bor (List ℕ)) → Option (List ℕ)
joined_left rest = option_map (λ r. joined r.now) rest

-- the words of a line with its comment
abbrev pub all_words : List ℕ → List (List ℕ)
all_words line = filter is_filled (slice_split is_blank line)

-- the words of the first line of a text
abbrev pub words_here : List ℕ → List (List ℕ)
words_here text = words_of (line_in (joined text))

-- a word and the words behind it in the line
abbrev pub words_left : Option (Bor (List ℕ) × Bor (List ℕ)) → List (List ℕ)
words_left None = []
words_left (Some next) = next.0.now ∷ words_here next.1.now

-- the ends of lines in a text, those in joints too
abbrev pub ends_in : List ℕ → ℕ
ends_in [] = 0
ends_in (b ∷ text) = (if is_line_feed b then 1 else if b == joint then 1 else 0) + ends_in text

-- a blank or the end of the line
abbrev pub ends_word : ℕ → Bool
ends_word b = is_blank b || is_line_feed b

abbrev pub is_word : List ℕ → Bool
is_word word = list_all (λ b. not (ends_word b)) word

-- whether no word goes on into a text
abbrev pub is_apart : List ℕ → Bool
is_apart [] = true
is_apart (b ∷ text) = ends_word b

abbrev pub begins_word : List ℕ → Bool
begins_word [] = false
begins_word (b ∷ word) = not (b == 35)

abbrev pub begins_blank : List ℕ → Bool
begins_blank [] = false
begins_blank (b ∷ text) = is_blank b

abbrev pub place_from : Vec3 × Option Vec3 → Place
place_from p = record { at = p.0; colour = p.1 }

-- of some words: the first and those behind it, or the numeral zero where there are none
abbrev pub IsNextOrZero : List (List ℕ) → List ℕ → List (List ℕ) → Type 0
IsNextOrZero words word rest = (words ≡ word ∷ rest) ⊎ ((words ≡ []) × (word ≡ codes "0") × (rest ≡ []))

abbrev pub begins_with_digit : List ℕ → Bool
begins_with_digit [] = false
begins_with_digit (b ∷ word) = is_ascii_digit b
