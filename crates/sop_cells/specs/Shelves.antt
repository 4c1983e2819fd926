-- What contracts see of a shelf, the cells of a column on it, and what a step of the shelf is for those that hold places.
use Rattle.std.specs.Prelude.{◌≡◌, ℕ, ◌+◌, ◌≤◌, nat_lt, List, [], ◌∷◌, ◌++◌, length, map, Option, Some, None, if◌then◌else◌}
use denote.Bor.{Bor}
use Rattle.sop_pages.specs.declared.cell.Cell.{Cell}
use Rattle.sop_pages.specs.declared.page.TheConstants.{MOST_CELLS}
use Rattle.sop_pages.specs.Cells.{IsPage}
use Rattle.sop_pages.specs.Pages.{Store, IsLive, count, cells}
use Rattle.sop_pages.specs.Moves.{times, Covers, Moves}
use Rattle.sop_cells.specs.declared.place.Place.{Place}
use Rattle.sop_cells.specs.declared.place.Place.TheVariants.{Own, Base}
use Rattle.sop_cells.specs.Places.{own, AreBased}

-- The shelf's own pages, and those of its base.
pub record ShelfPages : Type 0 where
  pub own : Store
  pub base : Store

-- The pages of the base, or of none.
abbrev pub base_store : Option (Bor Store) → Store
base_store None = []
base_store (Some store) = store.now

-- The place holds a page.
abbrev pub IsHere : ShelfPages → Place → Type 0
IsHere s (Own id) = IsLive s.own id
IsHere s (Base id) = IsLive s.base id

-- How many places hold the page of a place. A page of the base has no count here: 0.
abbrev pub count_at : ShelfPages → Place → ℕ
count_at s (Own id) = count s.own id
count_at s (Base id) = 0

-- The cells of a place's page.
abbrev pub cells_at : ShelfPages → Place → List Cell
cells_at s (Own id) = cells s.own id
cells_at s (Base id) = cells s.base id

-- The pages of the places.
abbrev pub blocks : ShelfPages → List Place → List (List Cell)
blocks s places = map (cells_at s) places

-- The lists, one after another.
abbrev pub joined : List (List Cell) → List Cell
joined [] = []
joined (page ∷ pages) = page ++ joined pages

-- The cells of the places' pages, in order.
abbrev pub column : ShelfPages → List Place → List Cell
column s places = joined (blocks s places)

-- Each is a page, and each but the last is full.
abbrev pub IsPaged : List (List Cell) → Type 0
IsPaged [] = Unit {0}
IsPaged (page ∷ pages) = IsPage page × (1 ≤ length pages → length page ≡ MOST_CELLS) × IsPaged pages

-- The places are among those that the shelf counts or that the base has, and their pages are those of a column.
pub record IsKept (s : ShelfPages) (places : List Place) : Type 0 where
  pub covered : Covers s.own (own places)
  pub based : AreBased s.base places
  pub paged : IsPaged (blocks s places)

-- The places in `gone` let go of their pages and those in `come` take hold of theirs. The base stays.
-- A page that has a further place, outside `gone`, keeps its cells.
pub record Shifts (old new : ShelfPages) (gone come : List Place) : Type 0 where
  pub base : new.base ≡ old.base
  pub moves : Moves old.own new.own (own gone) (own come)

-- Of the pages that a step put: their places, behind those that were there, each counted once.
pub record IsPutBehind (old new : ShelfPages) (before : List Place) (pages : List (List Cell)) (after : List Place) : Type 0 where
  pub fresh : List Place
  pub after_is : after ≡ before ++ fresh
  pub fresh_cells : blocks new fresh ≡ pages
  pub fresh_based : AreBased new.base fresh
  pub shifts : Shifts old new [] fresh
  pub apart : (id : ℕ) → 1 ≤ times id (own fresh) → count old.own id ≡ 0

-- How many of the places hold a page of the base, or an own one that has another place.
abbrev pub shared : ShelfPages → List Place → ℕ
shared s [] = 0
shared s (Own id ∷ places) = (if nat_lt 1 (count s.own id) then 1 else 0) + shared s places
shared s (Base id ∷ places) = 1 + shared s places
