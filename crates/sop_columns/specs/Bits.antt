-- Flags in words: 128 in each cell, 1,024 cells in a page, so 131,072 in a block.
use Rattle.std.specs.Prelude.{◌≡◌, ℕ, ◌+◌, ◌<◌, ◌≤◌, ◌/◌, ◌%◌, ◌==◌, Bool, false, List, [], ◌∷◌, Option, Some, None, slice_index_or}
use Rattle.std.specs.Int.{bit_at}
use Rattle.sop_pages.specs.declared.cell.Cell.{Cell}
use Rattle.sop_pages.specs.declared.cell.Cell.TheVariants as cell
use Rattle.sop_pages.specs.Moves.{Covers}
use Rattle.sop_cells.specs.declared.place.Place.{Place}
use Rattle.sop_cells.specs.Places.{own, AreBased}
use Rattle.sop_cells.specs.Shelves.{ShelfPages, cells_at}

-- The word that a cell holds.
abbrev pub word_of : Cell → ℕ
word_of (cell.Int i) = 0
word_of (cell.Real x) = 0
word_of (cell.Vector v) = 0
word_of (cell.Name word) = word
word_of (cell.Many k) = 0

-- The flag with this number in a word.
abbrev pub flag_of : ℕ → ℕ → Bool
flag_of word j = bit_at word j == 1

-- The flag with this number in cells, off beyond their end.
abbrev pub flag_in : List Cell → ℕ → Bool
flag_in cells j = flag_of (word_of (slice_index_or cells (j / 128) (cell.Name 0))) (j % 128)

-- The cells of a block, none where it has no page.
abbrev pub block_cells : ShelfPages → Option Place → List Cell
block_cells s None = []
block_cells s (Some place) = cells_at s place

-- The flag with this number, off where no page has a cell for it.
abbrev pub flag : ShelfPages → List (Option Place) → ℕ → Bool
flag s blocks k = flag_in (block_cells s (slice_index_or blocks (k / 131072) None)) (k % 131072)

-- The places that hold pages.
abbrev pub placed : List (Option Place) → List Place
placed [] = []
placed (None ∷ blocks) = placed blocks
placed (Some place ∷ blocks) = place ∷ placed blocks

-- The ids of the own pages, one for each place that holds one.
abbrev pub own_bits : List (Option Place) → List ℕ
own_bits blocks = own (placed blocks)

-- The own pages are among those that the shelf counts, and the base has the others.
pub record AreBits (s : ShelfPages) (blocks : List (Option Place)) : Type 0 where
  pub covered : Covers s.own (own_bits blocks)
  pub based : AreBased s.base (placed blocks)

-- Flags are as before up to `len`, then so many are as `more` says, and beyond these they are off.
pub record AreJoined (now before : ℕ → Bool) (len : ℕ) (more : ℕ → Bool) (count : ℕ) : Type 0 where
  pub before_are : (k : ℕ) → k < len → now k ≡ before k
  pub more_are : (k : ℕ) → k < count → now (len + k) ≡ more k
  pub beyond_are : (k : ℕ) → len + count ≤ k → now k ≡ false
