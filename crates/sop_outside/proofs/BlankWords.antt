-- The first word of a text, and the words behind it.
use Rattle.std.proofs.Common.{◌≡◌, ℕ, ◌+◌, ◌<◌, ◌≤◌, not, List, [], ◌∷◌, length, take, drop, filter, refl, ap, ◌∙◌, inl, inr, arith, one-add}
use Rattle.std.specs.List.{prefix_len, slice_split, onto_first}
use Rattle.std.proofs.lemmas.Bool.{cases_Bool}
use Rattle.sop_outside.specs.Blanks.{is_blank, is_filled, words_of, begins_filled}

abbrev pub word_len : List ℕ → ℕ
word_len text = prefix_len (λ byte. not (is_blank byte)) text

-- blanks at the front separate nothing
pub words_behind : (text : List ℕ) → words_of (drop (prefix_len is_blank text) text) ≡ words_of text
words_behind [] = refl
words_behind (byte ∷ text) = elim (cases_Bool (is_blank byte)) [
  | inl blank ↦ rw (blank, one-add (prefix_len is_blank text)) (words_behind text)
  | inr other ↦ rw (other, other) refl
]

pub filled_behind : (text : List ℕ) → begins_filled (drop (prefix_len is_blank text) text)
filled_behind [] = tt
filled_behind (byte ∷ text) = elim (cases_Bool (is_blank byte)) [
  | inl blank ↦ rw (blank, one-add (prefix_len is_blank text)) (filled_behind text)
  | inr other ↦ rw other other
]

-- the pieces behind the first one, from the blank that ends it on
abbrev pub pieces_behind : List ℕ → List (List ℕ)
pieces_behind [] = []
pieces_behind (byte ∷ text) = slice_split is_blank text

first_piece : (text : List ℕ) → slice_split is_blank text ≡ take (word_len text) text ∷ pieces_behind (drop (word_len text) text)
first_piece [] = refl
first_piece (byte ∷ text) = elim (cases_Bool (is_blank byte)) [
  | inl blank ↦ rw blank refl
  | inr other ↦ rw (other, one-add (word_len text)) (ap (onto_first byte) (first_piece text))
]

-- what stands behind the first piece begins with a blank, so it has the words of the other pieces
pieces_are_words : (text : List ℕ) → filter is_filled (pieces_behind (drop (word_len text) text)) ≡ words_of (drop (word_len text) text)
pieces_are_words [] = refl
pieces_are_words (byte ∷ text) = elim (cases_Bool (is_blank byte)) [
  | inl blank ↦ rw (blank, blank) refl
  | inr other ↦ rw (other, one-add (word_len text)) (pieces_are_words text)
]

-- a text that begins with no blank is its first word and what follows it
pub first_word : (text : List ℕ) → 0 < length text → begins_filled text → words_of text ≡ take (word_len text) text ∷ words_of (drop (word_len text) text)
first_word [] some filled = absurd (omega (arith, some))
first_word (byte ∷ text) some filled = rw (filled, one-add (word_len text)) (ap (λ pieces. filter is_filled (onto_first byte pieces)) (first_piece text) ∙ ap (λ rest. (byte ∷ take (word_len text) text) ∷ rest) (pieces_are_words text))

one_more : (byte : ℕ) (pieces : List (List ℕ)) → length (filter is_filled (onto_first byte pieces)) ≤ 1 + length (filter is_filled pieces)
one_more byte [] = omega arith
one_more byte ([] ∷ pieces) = omega arith
one_more byte ((first ∷ piece) ∷ pieces) = omega arith

-- each word takes at least one byte
pub words_are_few : (text : List ℕ) → length (words_of text) ≤ length text
words_are_few [] = omega arith
words_are_few (byte ∷ text) = elim (cases_Bool (is_blank byte)) [
  | inl blank ↦ rw blank (omega (arith, words_are_few text))
  | inr other ↦ rw other (omega (arith, words_are_few text, one_more byte (slice_split is_blank text)))
]
