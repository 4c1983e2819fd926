-- The pages as the store keeps them, in the slots of a slab.
use Rattle.std.specs.Prelude.{ℕ, ◌≤◌, Option, Some, None, map, IfSome}
use Rattle.slab.specs.Slab.{Slab, get}
use Rattle.sop_pages.specs.declared.store.Counted.{Counted}
use Rattle.sop_pages.specs.Pages as pages
use Rattle.sop_pages.specs.Cells.{IsPage}

-- again here, since the store's own file can't name it otherwise
abbrev pub Store : Type 0
Store = pages.Store

abbrev pub held : Option Counted → Option pages.Held
held None = None
held (Some c) = Some (c.page, c.count)

abbrev pub store_of : Slab Counted → Store
store_of s = map held s.slots

-- Each page has a holder, and has the cells of a page.
abbrev pub AllCounted : Slab Counted → Type 0
AllCounted s = (id : ℕ) → IfSome (get s id) (λ c. (1 ≤ c.count) × IsPage c.page)
