-- New tables that are made beside others: what stands in their columns and which elements their groups have.
use Rattle.std.specs.Prelude.{◌≡◌, ℕ, ◌+◌, ◌-◌, ◌<◌, ◌≤◌, nat_lt, if◌then◌else◌, Bool, false, List, [], ◌∷◌, ◌++◌, length, map, replicate, All, Option, None, Some, slice_get, slice_index_or}
use Rattle.sop_model.specs.declared.geo.Row.{Row}
use Rattle.sop_model.specs.declared.geo.Head.{Head}
use Rattle.sop_model.specs.declared.geo.HeadSet.{HeadSet}
use Rattle.sop_model.specs.declared.value.Kind.TheVariants as kind
use Rattle.sop_model.specs.declared.value.Value.{Value}
use Rattle.sop_model.specs.Limits.{most_vertices}
use Rattle.sop_model.specs.Values.{default_of}
use Rattle.sop_model.specs.Geometry.{empty_row, AreKept, IsRowOf, set_bounds}
use Rattle.sop_model.specs.Rows.{default_row, first_row, picked}
use Rattle.sop_model.specs.Merge.{fitted, value_under, row_under}
use Rattle.sop_rows.specs.Both.{more_heads, both_sets, row_widened}
use Rattle.sop_cells.specs.declared.place.Place.{Place}
use Rattle.sop_cells.specs.Shelves.{ShelfPages, column, Shifts}
use Rattle.sop_columns.specs.Names.{NameTable, Grows}
use Rattle.sop_columns.specs.Bits.{flag, placed}
use Rattle.sop_tables.specs.Transposed.{tabulated, item, items_at, column_under, fitted_column, members_under}
use Rattle.sop_tables.specs.Tables.{TableLists, flat, places_in, held, rows, IsTable, IsHeld, IsColumnOf, AreColumns, AreMembers}
use Rattle.sop_tables.specs.declared.changed.Change.{Change}
use Rattle.sop_tables.specs.declared.changed.Change.TheVariants.{Longer, Picked, Appended, Widened}

-- a head that no table has
abbrev pub no_head : Head
no_head = record { name = []; kind = kind.Int }

abbrev pub head_at : List Head → ℕ → Head
head_at heads k = slice_index_or heads k no_head

abbrev pub group_at : List (List ℕ) → ℕ → List ℕ
group_at groups k = slice_index_or groups k []

-- WHAT STANDS IN THE NEW TABLE

-- its heads and groups
abbrev pub set_after : HeadSet → Change → HeadSet
set_after set (Longer more) = set
set_after set (Picked numbers) = set
set_after set (Appended other) = both_sets set other.now.set
set_after set (Widened other) = both_sets set other.now.set

-- how many elements it has
abbrev pub count_after : ℕ → Change → ℕ
count_after count (Longer more) = count + more
count_after count (Picked numbers) = length numbers.now
count_after count (Appended other) = count + other.now.count
count_after count (Widened other) = count

-- the values of a column of a table, or others where it has no such column
abbrev pub values_or : ShelfPages → NameTable → ℕ → List Value → Option (List Place) → List Value
values_or s n count others None = others
values_or s n count others (Some places) = held s n count places

-- the values of a column of a table, or so many defaults
abbrev pub first_values : ShelfPages → NameTable → TableLists → ℕ → Head → List Value
first_values s n t k h = values_or s n t.count (replicate t.count (default_of h.kind)) (slice_get t.columns k)

-- the values of a table's column of the head's name, put under the head; where there is none, so many defaults
abbrev pub values_under : ShelfPages → NameTable → TableLists → Head → List Value
values_under s n t h = fitted_column t.count h (column_under t.set.heads (map (held s n t.count) t.columns) h.name)

-- the values of the column with this number, which stands under this head
abbrev pub values_after : ShelfPages → NameTable → TableLists → Change → ℕ → Head → List Value
values_after s n t (Longer more) k h = first_values s n t k h ++ replicate more (default_of h.kind)
values_after s n t (Picked numbers) k h = items_at numbers.now (first_values s n t k h)
values_after s n t (Appended other) k h = first_values s n t k h ++ values_under s n other.now h
values_after s n t (Widened other) k h = values_or s n t.count (values_under s n other.now h) (slice_get t.columns k)

-- the values of all columns under these heads
abbrev pub all_values_after : ShelfPages → NameTable → TableLists → Change → List Head → ℕ → List (List Value)
all_values_after s n t change heads many = tabulated many (λ k. values_after s n t change k (head_at heads k))

-- whether an element is among these members, if there are any
abbrev pub has_or : ShelfPages → Option (List (Option Place)) → ℕ → Bool
has_or s None i = false
has_or s (Some places) i = flag s places i

-- whether an element is in a group of a table
abbrev pub first_flag : ShelfPages → TableLists → ℕ → ℕ → Bool
first_flag s t k i = has_or s (slice_get t.members k) i

-- whether an element is in a table's group of this name
abbrev pub flag_named : ShelfPages → TableLists → List ℕ → ℕ → Bool
flag_named s t name = members_under t.set.groups (map (flag s) t.members) name

-- whether an element is in the group with this number and name
abbrev pub flag_after : ShelfPages → TableLists → Change → ℕ → List ℕ → ℕ → Bool
flag_after s t (Longer more) k name i = first_flag s t k i
flag_after s t (Picked numbers) k name i = first_flag s t k (slice_index_or numbers.now i 0)
flag_after s t (Appended other) k name i = if nat_lt i t.count then first_flag s t k i else flag_named s other.now name (i - t.count)
flag_after s t (Widened other) k name i = first_flag s t k i

-- the flags of an element in all groups of these names
abbrev pub all_flags_after : ShelfPages → TableLists → Change → List (List ℕ) → ℕ → ℕ → List Bool
all_flags_after s t change groups many i = tabulated many (λ k. flag_after s t change k (group_at groups k) i)

-- rows of these columns and flags
abbrev pub rows_wanted : ℕ → List (List Value) → (ℕ → List Bool) → List Row
rows_wanted count columns flags = tabulated count (λ i. record { values = map (item i) columns; flags = flags i })

-- the rows of the new table
abbrev pub rows_after : ShelfPages → NameTable → TableLists → Change → List Row
rows_after s n t change =
    let set = set_after t.set change in
    rows_wanted (count_after t.count change) (all_values_after s n t change set.heads (length set.heads)) (all_flags_after s t change set.groups (length set.groups))

-- a row with the values of another one under the further heads of that one, in no group
abbrev pub row_beside : HeadSet → HeadSet → Row → Row → Row
row_beside a b row other = record { values = row.values ++ map (λ h. fitted h (value_under b.heads other.values h.name)) (more_heads a b); flags = [] }

-- the same rows, told by those of the table that it is made of
abbrev pub rows_changed : ShelfPages → NameTable → TableLists → Change → List Row
rows_changed s n t (Longer more) = rows s n t ++ replicate more (default_row t.set)
rows_changed s n t (Picked numbers) = picked (rows s n t) empty_row numbers.now
rows_changed s n t (Appended other) = map (row_widened t.set other.now.set) (rows s n t) ++ map (row_under (both_sets t.set other.now.set) other.now.set) (rows s n other.now)
rows_changed s n t (Widened other) = row_beside t.set other.now.set (first_row (rows s n t) empty_row) (first_row (rows s n other.now) empty_row) ∷ []

-- WHERE A NEW TABLE CAN BE MADE

-- the elements with these numbers are there
pub record ArePicks (count : ℕ) (numbers : List ℕ) : Type 0 where
  pub within : All (λ i. i < count) numbers
  pub few : length numbers ≤ most_vertices

-- a table whose heads, groups and elements may come to another: each value is of the kind of its head
pub record IsOther (s : ShelfPages) (n : NameTable) (t : TableLists) : Type 0 where
  pub table : IsTable s n t
  pub held : IsHeld s (places_in t)
  pub kinds : All (IsRowOf t.set) (rows s n t)

-- its elements may come behind those of the first
pub record ComesBehind (s : ShelfPages) (n : NameTable) (first second : TableLists) : Type 0 where
  pub other : IsOther s n second
  pub few : AreKept (set_bounds (both_sets first.set second.set))
  pub most : first.count + second.count ≤ most_vertices

-- its values may come beside those of the first: both have one element and no group
pub record ComesBeside (s : ShelfPages) (n : NameTable) (first second : TableLists) : Type 0 where
  pub other : IsOther s n second
  pub few : AreKept (set_bounds (both_sets first.set second.set))
  pub one : first.count ≡ 1
  pub other_one : second.count ≡ 1
  pub no_groups : first.set.groups ≡ []
  pub no_other_groups : second.set.groups ≡ []

abbrev pub Fits : ShelfPages → NameTable → TableLists → Change → Type 0
Fits s n t (Longer more) = t.count + more ≤ most_vertices
Fits s n t (Picked numbers) = ArePicks t.count numbers.now
Fits s n t (Appended other) = ComesBehind s n t other.now
Fits s n t (Widened other) = ComesBeside s n t other.now

-- a table of which a new one can be made
pub record IsSource (s : ShelfPages) (n : NameTable) (t : TableLists) (change : Change) : Type 0 where
  pub table : IsTable s n t
  pub held : IsHeld s (places_in t)
  pub fits : Fits s n t change

-- WHAT WAS MADE

-- a new column of a table that is made
pub record IsNewColumn (s t : ShelfPages) (n m : NameTable) (size : ℕ) (h : Head) (wanted : List Value) (places : List Place) : Type 0 where
  pub shifts : Shifts s t [] places
  pub grows : Grows n m
  pub column : IsColumnOf t m size (default_of h.kind) places
  pub values : held t m size places ≡ wanted

-- new columns under these heads
pub record AreNewColumns (s t : ShelfPages) (n m : NameTable) (size : ℕ) (heads : List Head) (wanted : List (List Value)) (made : List (List Place)) : Type 0 where
  pub shifts : Shifts s t [] (flat made)
  pub grows : Grows n m
  pub columns : AreColumns t m size heads made
  pub values : map (held t m size) made ≡ wanted

-- new members of a group
pub record IsNewMembers (s t : ShelfPages) (size : ℕ) (wanted : ℕ → Bool) (places : List (Option Place)) : Type 0 where
  pub shifts : Shifts s t [] (placed places)
  pub members : AreMembers t size places
  pub flags : (i : ℕ) → i < size → flag t places i ≡ wanted i

-- new members of so many groups
pub record AreNewMembers (s t : ShelfPages) (size groups : ℕ) (wanted : ℕ → List Bool) (made : List (List (Option Place))) : Type 0 where
  pub shifts : Shifts s t [] (flat (map placed made))
  pub many : length made ≡ groups
  pub members : All (AreMembers t size) made
  pub flags : (i : ℕ) → i < size → map (λ has. has i) (map (flag t) made) ≡ wanted i

-- SPARE CELLS

-- each column has cells for so many elements
pub record HasCells (s : ShelfPages) (t : TableLists) (count : ℕ) : Type 0 where
  pub each : All (λ places. count ≤ length (column s places)) t.columns
