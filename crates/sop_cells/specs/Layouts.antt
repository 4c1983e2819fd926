-- How a new column is laid out: places that are held once more, and behind them new pages.
use Rattle.std.specs.Prelude.{◌≡◌, ℕ, ◌+◌, ◌-◌, ◌*◌, ◌/◌, ◌%◌, ◌⊎◌, ◌<◌, ◌≤◌, ◌^◌, List, [], ◌∷◌, ◌++◌, length, take, drop, Option, Some, None, slice_index_or}
use Rattle.sop_pages.specs.declared.cell.Cell.{Cell}
use Rattle.sop_pages.specs.declared.page.TheConstants.{MOST_CELLS}
use Rattle.sop_pages.specs.Pages.{count}
use Rattle.sop_pages.specs.Moves.{times, Covers}
use Rattle.sop_cells.specs.declared.place.Place.{Place}
use Rattle.sop_cells.specs.Places.{own, AreBased}
use Rattle.sop_cells.specs.Shelves.{ShelfPages, count_at, cells_at, blocks, joined, Shifts}

-- Pages that are full, and the cells behind them.
pub record Packed : Type 0 where
  pub full : List (List Cell)
  pub rest : List Cell

abbrev pub packed_cells : Packed → List Cell
packed_cells p = joined p.full ++ p.rest

abbrev pub AreFull : List (List Cell) → Type 0
AreFull [] = Unit {0}
AreFull (page ∷ pages) = (length page ≡ MOST_CELLS) × AreFull pages

-- Each place holds a page, and the counts have room for all of the places once more.
pub record CanHold (s : ShelfPages) (places : List Place) : Type 0 where
  pub live : (id : ℕ) → 1 ≤ times id (own places) → 1 ≤ count s.own id
  pub based : AreBased s.base places
  pub room : (id : ℕ) → 1 ≤ times id (own places) → count s.own id + times id (own places) < 2 ^ 128

-- A new column: the first places are held once more, and new pages stand behind them.
pub record IsLaid (old new : ShelfPages) (first : List Place) (pages : List (List Cell)) (places : List Place) : Type 0 where
  pub pages_are : blocks new places ≡ blocks old first ++ pages
  pub covered : Covers new.own (own places)
  pub based : AreBased new.base places
  pub shifts : Shifts old new [] places

-- What a column's place yields when the column is let go of: nothing where its page can be taken out, or else a copy of the page.
abbrev pub IsCopy : ShelfPages → Place → Option (List Cell) → Type 0
IsCopy s place None = count_at s place ≡ 1
IsCopy s place (Some page) = page ≡ cells_at s place

-- One for each place, in order.
pub record AreCopies (s : ShelfPages) (places : List Place) (copies : List (Option (List Cell))) : Type 0 where
  pub as_many : length copies ≡ length places
  pub each : (i : ℕ) (place : Place) → i < length places → place ≡ slice_index_or places i place → IsCopy s place (slice_index_or copies i None)

-- The first `first` pages can stand whole behind `before` cells, where the first `len` cells of all pages are wanted:
-- the cells before fill whole pages, and all that are wanted whole are among them, or none can; and these pages are full,
-- or nothing follows them.
pub record AreWhole (pages : List (List Cell)) (before len first : ℕ) : Type 0 where
  pub within : first ≤ length pages
  pub most : before % MOST_CELLS ≡ 0 → len / MOST_CELLS ≤ first
  pub few : first * MOST_CELLS < len + MOST_CELLS
  pub even : (before % MOST_CELLS ≡ 0) ⊎ (first ≡ 0)
  pub parts : joined (take first pages) ++ take (len - first * MOST_CELLS) (joined (drop first pages)) ≡ take len (joined pages)
  pub shape : AreFull (take first pages) ⊎ (take (len - first * MOST_CELLS) (joined (drop first pages)) ≡ [])
