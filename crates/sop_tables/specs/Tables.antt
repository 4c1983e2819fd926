-- The columns of one class in the pages of a shelf, and the rows that they stand for.
--
-- A column may have further cells behind the elements of its class, on the same pages, which stand for the default of its head: so elements
-- with defaults come without a new cell. No group has a member behind the elements.
use Rattle.std.specs.Prelude.{⊤, ◌≡◌, ℕ, ◌+◌, ◌*◌, ◌^◌, ◌<◌, ◌≤◌, false, List, [], ◌∷◌, ◌++◌, length, map, take, drop, All, Option, unwrap_or, option_map, slice_get, slice_index_or, slice_set, pos}
use Rattle.sop_model.specs.declared.geo.Row.{Row}
use Rattle.sop_model.specs.declared.geo.Head.{Head}
use Rattle.sop_model.specs.declared.geo.HeadSet.{HeadSet}
use Rattle.sop_model.specs.declared.value.Value.{Value}
use Rattle.sop_model.specs.declared.value.Value.TheVariants as value
use Rattle.sop_model.specs.Limits.{most_vertices}
use Rattle.sop_model.specs.Values.{default_of}
use Rattle.sop_model.specs.Geometry.{AreKept, set_bounds}
use Rattle.sop_pages.specs.Pages.{count, live_pages}
use Rattle.sop_pages.specs.Moves.{times, Covers}
use Rattle.sop_pages.specs.declared.page.TheConstants.{MOST_CELLS}
use Rattle.sop_cells.specs.declared.place.Place.{Place}
use Rattle.sop_cells.specs.Places.{own, AreBased}
use Rattle.sop_cells.specs.Shelves.{ShelfPages, blocks, column, shared, IsPaged, Shifts}
use Rattle.sop_columns.specs.Names.{NameTable, IsNumbered, Grows}
use Rattle.sop_columns.specs.Values.{values}
use Rattle.sop_columns.specs.Bits.{flag, placed}
use Rattle.sop_tables.specs.Transposed.{rows_from}

-- The heads and groups of a class, the places of the column of each head and of the members of each group, and how many elements there are.
pub record TableLists : Type 0 where
  pub set : HeadSet
  pub columns : List (List Place)
  pub members : List (List (Option Place))
  pub count : ℕ

-- the lists, one after another
abbrev pub flat : List (List Place) → List Place
flat [] = []
flat (places ∷ lists) = places ++ flat lists

-- all places of a table
abbrev pub places_in : TableLists → List Place
places_in t = flat t.columns ++ flat (map placed t.members)

-- the first so many values of a column
abbrev pub held : ShelfPages → NameTable → ℕ → List Place → List Value
held s n count places = take count (values s n places)

-- the rows of the elements
abbrev pub rows : ShelfPages → NameTable → TableLists → List Row
rows s n t = rows_from t.count (map (held s n t.count) t.columns) (map (flag s) t.members)

-- a column of so many values, on no more pages than they need; what stands behind them is the default
pub record IsColumnOf (s : ShelfPages) (n : NameTable) (count : ℕ) (default : Value) (places : List Place) : Type 0 where
  pub based : AreBased s.base places
  pub paged : IsPaged (blocks s places)
  pub numbered : All (IsNumbered n) (column s places)
  pub enough : count ≤ length (column s places)
  pub tight : MOST_CELLS * length places < count + MOST_CELLS
  pub spare : All (λ v. v ≡ default) (drop count (values s n places))

-- a column for each head
abbrev pub AreColumns : ShelfPages → NameTable → ℕ → List Head → List (List Place) → Type 0
AreColumns s n count [] [] = ⊤
AreColumns s n count [] (places ∷ columns) = ⊥
AreColumns s n count (h ∷ heads) [] = ⊥
AreColumns s n count (h ∷ heads) (places ∷ columns) = IsColumnOf s n count (default_of h.kind) places × AreColumns s n count heads columns

-- members of a group of so many elements, in no more blocks of 131,072 flags than the most elements need
pub record AreMembers (s : ShelfPages) (count : ℕ) (places : List (Option Place)) : Type 0 where
  pub based : AreBased s.base (placed places)
  pub off : (i : ℕ) → count ≤ i → flag s places i ≡ false
  pub few : 131072 * length places < most_vertices + 131072

-- a table: a column for each head, members for each group, and no more of anything than a geometry may have
pub record IsTable (s : ShelfPages) (n : NameTable) (t : TableLists) : Type 0 where
  pub columns : AreColumns s n t.count t.set.heads t.columns
  pub groups : length t.members ≡ length t.set.groups
  pub members : All (AreMembers s t.count) t.members
  pub few : AreKept (set_bounds t.set)
  pub most : t.count ≤ most_vertices

-- the own places are among those that the shelf counts, and the others hold pages of its base
pub record IsHeld (s : ShelfPages) (places : List Place) : Type 0 where
  pub covered : Covers s.own (own places)
  pub based : AreBased s.base places

-- the count of each page has room for these places once more
pub record HasRoom (s : ShelfPages) (places : List Place) : Type 0 where
  pub each : (id : ℕ) → count s.own id + times id (own places) < 2 ^ 128

-- the count of each page has room for so many more
pub record HasRoomFor (s : ShelfPages) (more : ℕ) : Type 0 where
  pub each : (id : ℕ) → count s.own id + more < 2 ^ 128

-- the most places that a table has, and more
abbrev pub table_room : ℕ
table_room = 2 ^ 32

-- the default of a head
abbrev pub default_at : HeadSet → ℕ → Value
default_at set head = unwrap_or (option_map default_of (option_map (λ h. h.kind) (slice_get set.heads head))) (value.Int (pos 0))

-- the places of one column
abbrev pub column_at : TableLists → ℕ → List Place
column_at t head = slice_index_or t.columns head []

-- a table with other places for one column
abbrev pub with_column : TableLists → ℕ → List Place → TableLists
with_column t head places = record t { columns = slice_set t.columns head places }

-- the places of the members of one group
abbrev pub members_at : TableLists → ℕ → List (Option Place)
members_at t group = slice_index_or t.members group []

-- a table with other places for the members of one group
abbrev pub with_members : TableLists → ℕ → List (Option Place) → TableLists
with_members t group places = record t { members = slice_set t.members group places }

-- one value is set: at most one page comes, and none that doesn't take the place of one that others hold too
pub record IsSparing (s t : ShelfPages) (old new : List Place) : Type 0 where
  pub pages : live_pages t.own ≤ live_pages s.own + 1
  pub rises : live_pages s.own ≤ live_pages t.own
  pub spare : live_pages t.own + shared t new ≤ live_pages s.own + shared s old
  pub falls : (id : ℕ) → 1 ≤ count s.own id → count t.own id ≤ count s.own id

-- a step after which one table stands where another stood
pub record IsTableStep (s t : ShelfPages) (n m : NameTable) (old new : TableLists) : Type 0 where
  pub shifts : Shifts s t (places_in old) (places_in new)
  pub grows : Grows n m
  pub table : IsTable t m new

-- a step that makes a table beside the others
pub record IsTableMade (s t : ShelfPages) (n m : NameTable) (new : TableLists) : Type 0 where
  pub shifts : Shifts s t [] (places_in new)
  pub grows : Grows n m
  pub table : IsTable t m new

-- a step that leaves every page as it is
pub record IsNoStep (s t : ShelfPages) (n m : NameTable) : Type 0 where
  pub shifts : Shifts s t [] []
  pub grows : Grows n m
