-- What contracts see of a store of counted pages.
use Rattle.std.specs.Prelude.{ℕ, ◌+◌, ◌≤◌, List, [], ◌∷◌, Option, Some, None, slice_index_or, IfSome}
use Rattle.sop_pages.specs.declared.cell.Cell.{Cell}

-- The cells of a page, and the number of places that hold it.
abbrev pub Held : Type 0
Held = List Cell × ℕ

-- The page at each id, from 0 on; some ids have none.
abbrev pub Store : Type 0
Store = List (Option Held)

abbrev pub page_at : Store → ℕ → Option Held
page_at s id = slice_index_or s id None

abbrev pub count_of : Option Held → ℕ
count_of None = 0
count_of (Some held) = held.1

abbrev pub cells_of : Option Held → List Cell
cells_of None = []
cells_of (Some held) = held.0

-- How many places hold the page at an id; 0 where there is no page.
abbrev pub count : Store → ℕ → ℕ
count s id = count_of (page_at s id)

-- The cells of the page at an id.
abbrev pub cells : Store → ℕ → List Cell
cells s id = cells_of (page_at s id)

-- The id stands for a page.
abbrev pub IsLive : Store → ℕ → Type 0
IsLive s id = 1 ≤ count s id

-- Each page that is there has a holder.
abbrev pub AreCounted : Store → Type 0
AreCounted s = (id : ℕ) → IfSome (page_at s id) (λ held. 1 ≤ held.1)

-- How many pages there are. A page counts once, however many places hold it.
abbrev pub live_pages : Store → ℕ
live_pages [] = 0
live_pages (None ∷ s) = live_pages s
live_pages (Some _ ∷ s) = 1 + live_pages s
