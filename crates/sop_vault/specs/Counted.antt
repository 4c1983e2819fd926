-- What a vault keeps at its keys, whatever it is: its places are counted, each page once for each place that holds it, and each is well kept.
use Rattle.std.specs.Prelude.{⊤, ◌≡◌, ℕ, List, [], Option, Some, None, map, option_map}
use Rattle.sop_pages.specs.Pages.{count}
use Rattle.sop_pages.specs.Moves.{times}
use Rattle.sop_cells.specs.declared.place.Place.{Place}
use Rattle.sop_cells.specs.Places.{own}
use Rattle.sop_cells.specs.Shelves.{ShelfPages}
use Rattle.sop_columns.specs.Names.{NameTable}
use Rattle.sop_vault.specs.Keyed.{Keyed, at, total}

-- of what is kept at a key: its places
module _ {X : Type 0} (places : X → List Place) where
  -- the places of a slot
  abbrev pub slot_places : Option X → List Place
  slot_places None = []
  slot_places (Some x) = places x

  -- how often the slot holds a page
  abbrev pub holds : ℕ → Option X → ℕ
  holds id o = times id (own (slot_places o))

  -- each page's count is the number of places that hold it
  abbrev pub CountsPlaces : ShelfPages → Keyed X → Type 0
  CountsPlaces s slots = (id : ℕ) → count s.own id ≡ total (holds id) slots

-- when it is well kept
module _ {X : Type 0} (Is : ShelfPages → NameTable → X → Type 0) where
  abbrev pub IsSlot : ShelfPages → NameTable → Option X → Type 0
  IsSlot s n None = ⊤
  IsSlot s n (Some x) = Is s n x

  -- all are well kept
  abbrev pub AreSlots : ShelfPages → NameTable → Keyed X → Type 0
  AreSlots s n slots = (key : ℕ) → IsSlot s n (at slots key)

-- what it stands for
module _ {X G : Type 0} (seen : ShelfPages → NameTable → X → G) where
  abbrev pub all_seen : ShelfPages → NameTable → Keyed X → Keyed G
  all_seen s n slots = map (option_map (seen s n)) slots
