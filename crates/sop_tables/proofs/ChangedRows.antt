-- The rows of a new table, change by change.
use Rattle.std.proofs.Common.{◌≡◌, ℕ, zero, suc, ◌+◌, ◌-◌, ◌<◌, ◌≤◌, Bool, true, false, List, [], ◌∷◌, ◌++◌, length, map, get_or, replicate, refl, ap, sym, ◌∙◌, arith}
use Rattle.std.specs.Prelude.{nat_lt, if◌then◌else◌, not, filter, All, Option, slice_get}
use Rattle.std.specs.List.{list_any}
use Rattle.std.specs.Str.{bytes_eq}
use Rattle.std.proofs.lemmas.Bool.Decides.{nat_tests}
use denote.Bor.{Bor}
use Rattle.std.proofs.lemmas.List.{length-map, map-append}
use Rattle.std.proofs.lemmas.List.Elements.{All-nil, All-cons, All-head, All-tail}
use Rattle.sop_model.specs.declared.geo.Head.{Head}
use Rattle.sop_model.specs.declared.geo.HeadSet.{HeadSet}
use Rattle.sop_model.specs.declared.geo.Row.{Row}
use Rattle.sop_model.specs.declared.value.Value.{Value}
use Rattle.sop_model.specs.Values.{default_of}
use Rattle.sop_model.specs.Geometry.{empty_row}
use Rattle.sop_model.specs.Rows.{default_row, first_row, picked}
use Rattle.sop_model.specs.Merge.{fitted, value_under, row_under}
use Rattle.sop_rows.specs.Both.{more_heads, more_groups, both_sets, row_widened}
use Rattle.sop_cells.specs.declared.place.Place.{Place}
use Rattle.sop_cells.specs.Shelves.{ShelfPages}
use Rattle.sop_columns.specs.Names.{NameTable}
use Rattle.sop_columns.specs.Bits.{flag}
use Rattle.sop_tables.specs.Transposed.{tabulated, item, row_of, items_at, append_each, filled_each, members_under}
use Rattle.sop_tables.specs.Tables.{TableLists, held, rows, AreColumns, AreMembers, IsTable}
use Rattle.sop_tables.specs.Changes.{head_at, group_at, values_or, values_under, first_values, has_or, first_flag, flag_named, rows_after, rows_wanted, row_beside, rows_changed, Fits, ArePicks, ComesBehind, ComesBeside}
use Rattle.sop_tables.specs.declared.changed.Change.{Change}
use Rattle.sop_tables.specs.declared.changed.Change.TheVariants.{Longer, Picked, Appended, Widened}
use Rattle.sop_tables.proofs.TabulatedLemmas.{tabulated_same}
use Rattle.sop_tables.proofs.RowLemmas.{none, AreOf, rows_longer, rows_picked, rows_appended, values_under_all}
use Rattle.sop_tables.proofs.ColumnLemmas.{length-held, length-columns}

-- the columns of a table have its number of values
pub columns_of_count : (s : ShelfPages) (n : NameTable) (size : ℕ) (heads : List Head) (cs : List (List Place)) → AreColumns s n size heads cs → AreOf size (map (held s n size) cs)
columns_of_count s n size [] [] all = All-nil (λ vs. length vs ≡ size)
columns_of_count s n size [] (c ∷ cs) all = absurd all
columns_of_count s n size (h ∷ heads) [] all = absurd all
columns_of_count s n size (h ∷ heads) (c ∷ cs) all =
    All-cons (λ vs. length vs ≡ size) (held s n size c) (map (held s n size) cs) (length-held s n size (default_of h.kind) c all.0) (columns_of_count s n size heads cs all.1)

-- the flags of an element, group by group
flags_here : (s : ShelfPages) (ms : List (List (Option Place))) (many i : ℕ) → length ms ≡ many → tabulated many (λ k. has_or s (slice_get ms k) i) ≡ map (λ (has : ℕ → Bool). has i) (map (flag s) ms)
flags_here s [] zero i e = refl
flags_here s [] (suc many) i e = absurd (omega arith)
flags_here s (p ∷ ms) zero i e = absurd (omega arith)
flags_here s (p ∷ ms) (suc many) i e = ap (λ (fs : List Bool). flag s p i ∷ fs) (flags_here s ms many i (omega arith))

-- COLUMNS AND FLAGS OF TWO

map_tabulated : {X Y : Type 0} (f : X → Y) (n : ℕ) (g : ℕ → X) → map f (tabulated n g) ≡ tabulated n (λ k. f (g k))
map_tabulated f zero g = refl
map_tabulated f (suc n) g = ap (λ r. f (g 0) ∷ r) (map_tabulated f n (λ k. g (suc k)))

map_twice : {X Y Z : Type 0} (f : Y → Z) (g : X → Y) (xs : List X) → map f (map g xs) ≡ map (λ x. f (g x)) xs
map_twice f g [] = refl
map_twice f g (x ∷ xs) = ap (λ r. f (g x) ∷ r) (map_twice f g xs)

tabulated_names : {X : Type 0} (f : List ℕ → X) (names : List (List ℕ)) → tabulated (length names) (λ k. f (group_at names k)) ≡ map f names
tabulated_names f [] = refl
tabulated_names f (name ∷ names) = ap (λ r. f name ∷ r) (tabulated_names f names)

first_of : (count : ℕ) (f : ℕ → Row) → count ≡ 1 → first_row (tabulated count f) empty_row ≡ f 0
first_of count f one = ap (λ (n : ℕ). first_row (tabulated n f) empty_row) one

lt_is : (i n : ℕ) → i < n → nat_lt i n ≡ true
lt_is i n l = grind (arith, nat_tests)

lt_not : (i n : ℕ) → n ≤ i → nat_lt i n ≡ false
lt_not i n l = grind (arith, nat_tests)

-- flags of the first groups, and none in further ones
flags_widened : (s : ShelfPages) (i : ℕ) (groups more : List (List ℕ)) (ms : List (List (Option Place))) → length ms ≡ length groups
    → tabulated (length (groups ++ more)) (λ k. has_or s (slice_get ms k) i) ≡ map (λ (has : ℕ → Bool). has i) (map (flag s) ms ++ map (λ name. none) more)
flags_widened s i [] [] [] e = refl
flags_widened s i [] (name ∷ more) [] e = ap (λ (fs : List Bool). false ∷ fs) (flags_widened s i [] more [] e)
flags_widened s i [] more (p ∷ ms) e = absurd (omega arith)
flags_widened s i (g ∷ groups) more [] e = absurd (omega arith)
flags_widened s i (g ∷ groups) more (p ∷ ms) e = ap (λ (fs : List Bool). flag s p i ∷ fs) (flags_widened s i groups more ms (omega arith))

module _ (s : ShelfPages) (n : NameTable) (size : ℕ) (under : Head → List Value) (more : List Head) where
  defaults_joined : (hs : List Head) → tabulated (length hs) (λ k. replicate size (default_of (head_at hs k).kind) ++ under (head_at hs k)) ≡ append_each (filled_each size (map (λ h. default_of h.kind) hs)) (map under hs)
  defaults_joined [] = refl
  defaults_joined (h ∷ hs) = ap (λ (vs : List (List Value)). (replicate size (default_of h.kind) ++ under h) ∷ vs) (defaults_joined hs)

  -- columns under the first heads, or defaults under further ones, and behind them others
  joined_values : (heads : List Head) (cs : List (List Place)) → AreColumns s n size heads cs
      → tabulated (length (heads ++ more)) (λ k. values_or s n size (replicate size (default_of (head_at (heads ++ more) k).kind)) (slice_get cs k) ++ under (head_at (heads ++ more) k))
      ≡ append_each (map (held s n size) cs ++ filled_each size (map (λ h. default_of h.kind) more)) (map under (heads ++ more))
  joined_values [] [] all = defaults_joined more
  joined_values [] (c ∷ cs) all = absurd all
  joined_values (h ∷ heads) [] all = absurd all
  joined_values (h ∷ heads) (c ∷ cs) all = ap (λ (vs : List (List Value)). (held s n size c ++ under h) ∷ vs) (joined_values heads cs all.1)

  others_beside : (hs : List Head) → tabulated (length hs) (λ k. under (head_at hs k)) ≡ map under hs
  others_beside [] = refl
  others_beside (h ∷ hs) = ap (λ (vs : List (List Value)). under h ∷ vs) (others_beside hs)

  -- columns under the first heads, and others under further ones
  beside_values : (heads : List Head) (cs : List (List Place)) → AreColumns s n size heads cs
      → tabulated (length (heads ++ more)) (λ k. values_or s n size (under (head_at (heads ++ more) k)) (slice_get cs k)) ≡ map (held s n size) cs ++ map under more
  beside_values [] [] all = others_beside more
  beside_values [] (c ∷ cs) all = absurd all
  beside_values (h ∷ heads) [] all = absurd all
  beside_values (h ∷ heads) (c ∷ cs) all = ap (λ (vs : List (List Value)). held s n size c ∷ vs) (beside_values heads cs all.1)

-- LONGER

module _ (s : ShelfPages) (n : NameTable) (size more : ℕ) where
  longer_values : (heads : List Head) (cs : List (List Place)) → AreColumns s n size heads cs
      → tabulated (length heads) (λ k. values_or s n size (replicate size (default_of (head_at heads k).kind)) (slice_get cs k) ++ replicate more (default_of (head_at heads k).kind)) ≡ append_each (map (held s n size) cs) (filled_each more (map (λ h. default_of h.kind) heads))
  longer_values [] [] all = refl
  longer_values [] (c ∷ cs) all = absurd all
  longer_values (h ∷ heads) [] all = absurd all
  longer_values (h ∷ heads) (c ∷ cs) all = ap (λ (vs : List (List Value)). (held s n size c ++ replicate more (default_of h.kind)) ∷ vs) (longer_values heads cs all.1)

  pub off_later : (groups : List (List ℕ)) (ms : List (List (Option Place))) (i : ℕ) → length ms ≡ length groups → All (AreMembers s size) ms → map (λ (has : ℕ → Bool). has (size + i)) (map (flag s) ms) ≡ map (λ group. false) groups
  off_later [] [] i e all = refl
  off_later [] (p ∷ ms) i e all = absurd (omega arith)
  off_later (g ∷ groups) [] i e all = absurd (omega arith)
  off_later (g ∷ groups) (p ∷ ms) i e all =
      let here = (All-head (AreMembers s size) p ms all).off (size + i) (omega arith) in
      let rest = off_later groups ms i (omega arith) (All-tail (AreMembers s size) p ms all) in λ j. here j ∷ rest j

module _ (s : ShelfPages) (n : NameTable) (tb : TableLists) (is : IsTable s n tb) where
  pub many_columns_held : length (map (held s n tb.count) tb.columns) ≡ length tb.set.heads
  many_columns_held = let a = length-map tb.columns (held s n tb.count) in let b = length-columns s n tb.count tb.set.heads tb.columns is.columns in omega arith

  pub longer_rows : (more : ℕ) → rows_after s n tb (Longer more) ≡ rows s n tb ++ replicate more (default_row tb.set)
  longer_rows more =
      (λ j. rows_wanted (tb.count + more) (longer_values s n tb.count more tb.set.heads tb.columns is.columns j) (λ i. flags_here s tb.members (length tb.set.groups) i is.groups j))
      ∙ rows_longer tb.count more tb.set (map (flag s) tb.members) (map (held s n tb.count) tb.columns) (columns_of_count s n tb.count tb.set.heads tb.columns is.columns) many_columns_held
      (λ i l. off_later s n tb.count more tb.set.groups tb.members i is.groups is.members)

  -- PICKED

  picked_values : (numbers : List ℕ) (heads : List Head) (cs : List (List Place)) → AreColumns s n tb.count heads cs
      → tabulated (length heads) (λ k. items_at numbers (values_or s n tb.count (replicate tb.count (default_of (head_at heads k).kind)) (slice_get cs k))) ≡ map (items_at numbers) (map (held s n tb.count) cs)
  picked_values numbers [] [] all = refl
  picked_values numbers [] (c ∷ cs) all = absurd all
  picked_values numbers (h ∷ heads) [] all = absurd all
  picked_values numbers (h ∷ heads) (c ∷ cs) all = ap (λ (vs : List (List Value)). items_at numbers (held s n tb.count c) ∷ vs) (picked_values numbers heads cs all.1)

  abbrev at_numbers : List ℕ → List (ℕ → Bool) → List (ℕ → Bool)
  at_numbers numbers fs = map (λ (has : ℕ → Bool) (j : ℕ). has (get_or numbers j 0)) fs

  read_at : (numbers : List ℕ) (fs : List (ℕ → Bool)) (j : ℕ) → map (λ (has : ℕ → Bool). has j) (at_numbers numbers fs) ≡ map (λ (has : ℕ → Bool). has (get_or numbers j 0)) fs
  read_at numbers [] j = refl
  read_at numbers (f ∷ fs) j = ap (λ (bs : List Bool). f (get_or numbers j 0) ∷ bs) (read_at numbers fs j)

  pub picked_rows : (numbers : Bor (List ℕ)) → ArePicks tb.count numbers.now → rows_after s n tb (Picked numbers) ≡ picked (rows s n tb) empty_row numbers.now
  picked_rows numbers picks =
      (λ j. rows_wanted (length numbers.now) (picked_values numbers.now tb.set.heads tb.columns is.columns j)
      (λ i. (flags_here s tb.members (length tb.set.groups) (get_or numbers.now i 0) is.groups ∙ sym (read_at numbers.now (map (flag s) tb.members) i)) j))
      ∙ rows_picked (map (held s n tb.count) tb.columns) (map (flag s) tb.members) tb.count numbers.now (at_numbers numbers.now (map (flag s) tb.members)) picks.within
      (λ j l. read_at numbers.now (map (flag s) tb.members) j)

  -- APPENDED

  module _ (other : TableLists) (comes : ComesBehind s n tb other) where
    abbrev set : HeadSet
    set = both_sets tb.set other.set

    abbrev flags_of_both : List (ℕ → Bool)
    flags_of_both = tabulated (length set.groups) (λ k i. if nat_lt i tb.count then first_flag s tb k i else flag_named s other (group_at set.groups k) (i - tb.count))

    flags_before : (i : ℕ) → i < tb.count → map (λ (has : ℕ → Bool). has i) flags_of_both ≡ map (λ (has : ℕ → Bool). has i) (map (flag s) tb.members ++ map (λ name. none) (more_groups tb.set other.set))
    flags_before i l =
        let yes = lt_is i tb.count l in
        map_tabulated (λ (has : ℕ → Bool). has i) (length set.groups) _
        ∙ tabulated_same (length set.groups) _ (λ k. has_or s (slice_get tb.members k) i) (λ k h. ap (λ (b : Bool). if b then first_flag s tb k i else flag_named s other (group_at set.groups k) (i - tb.count)) yes)
        ∙ flags_widened s i tb.set.groups (more_groups tb.set other.set) tb.members is.groups

    flags_behind : (i : ℕ) → i < other.count → map (λ (has : ℕ → Bool). has (tb.count + i)) flags_of_both ≡ map (λ (has : ℕ → Bool). has i) (map (members_under other.set.groups (map (flag s) other.members)) set.groups)
    flags_behind i l =
        let no = lt_not (tb.count + i) tb.count (omega arith) in
        let place : tb.count + i - tb.count ≡ i = omega arith in
        map_tabulated (λ (has : ℕ → Bool). has (tb.count + i)) (length set.groups) _
        ∙ tabulated_same (length set.groups) _ (λ k. flag_named s other (group_at set.groups k) i)
        (λ k h. ap (λ (b : Bool). if b then first_flag s tb k (tb.count + i) else flag_named s other (group_at set.groups k) (tb.count + i - tb.count)) no ∙ ap (flag_named s other (group_at set.groups k)) place)
        ∙ tabulated_names (λ name. flag_named s other name i) set.groups ∙ sym (map_twice (λ (has : ℕ → Bool). has i) (members_under other.set.groups (map (flag s) other.members)) set.groups)

    pub appended_rows : rows_wanted (tb.count + other.count) (tabulated (length set.heads) (λ k. first_values s n tb k (head_at set.heads k) ++ values_under s n other (head_at set.heads k))) (λ i. tabulated (length set.groups) (λ k. if nat_lt i tb.count then first_flag s tb k i else flag_named s other (group_at set.groups k) (i - tb.count)))
        ≡ map (row_widened tb.set other.set) (rows s n tb) ++ map (row_under set other.set) (rows s n other)
    appended_rows =
        let columns = joined_values s n tb.count (values_under s n other) (more_heads tb.set other.set) tb.set.heads tb.columns is.columns in
        (λ j. rows_wanted (tb.count + other.count) (columns j) (λ i. sym (map_tabulated (λ (has : ℕ → Bool). has i) (length set.groups) (λ k i. if nat_lt i tb.count then first_flag s tb k i else flag_named s other (group_at set.groups k) (i - tb.count))) j))
        ∙ rows_appended tb.count other.count tb.set other.set (map (held s n tb.count) tb.columns) (map (held s n other.count) other.columns) (map (flag s) tb.members) (map (flag s) other.members)
        (columns_of_count s n tb.count tb.set.heads tb.columns is.columns) (columns_of_count s n other.count other.set.heads other.columns comes.other.table.columns) many_columns_held flags_of_both flags_before flags_behind

  -- WIDENED

  module _ (other : TableLists) (comes : ComesBeside s n tb other) where
    abbrev wide : HeadSet
    wide = both_sets tb.set other.set

    no_groups : wide.groups ≡ []
    no_groups =
        let a = comes.no_groups in let b = comes.no_other_groups in
        (λ j. a j ++ filter (λ name. not (list_any (λ k. bytes_eq k name) (a j))) (b j))

    further : map (item 0) (map (values_under s n other) (more_heads tb.set other.set)) ≡ map (λ (h : Head). fitted h (value_under other.set.heads (first_row (rows s n other) empty_row).values h.name)) (more_heads tb.set other.set)
    further =
        let one = first_of other.count (row_of (map (held s n other.count) other.columns) (map (flag s) other.members)) comes.other_one in
        values_under_all
        other.count other.set other.set (map (held s n other.count) other.columns) (map (flag s) other.members) (columns_of_count s n other.count other.set.heads other.columns comes.other.table.columns) 0 (let c = comes.other_one in omega arith) (more_heads tb.set other.set)
        ∙ ap (λ (r : Row). map (λ (h : Head). fitted h (value_under other.set.heads r.values h.name)) (more_heads tb.set other.set)) (sym one)

    pub widened_rows : rows_wanted tb.count (tabulated (length wide.heads) (λ k. values_or s n tb.count (values_under s n other (head_at wide.heads k)) (slice_get tb.columns k))) (λ i. tabulated (length wide.groups) (λ k. first_flag s tb k i))
        ≡ row_beside tb.set other.set (first_row (rows s n tb) empty_row) (first_row (rows s n other) empty_row) ∷ []
    widened_rows =
        let columns = beside_values s n tb.count (values_under s n other) (more_heads tb.set other.set) tb.set.heads tb.columns is.columns in
        let own = first_of tb.count (row_of (map (held s n tb.count) tb.columns) (map (flag s) tb.members)) comes.one in
        let values = map-append (item 0) (map (held s n tb.count) tb.columns) (map (values_under s n other) (more_heads tb.set other.set)) ∙ (λ j. (sym own j).values ++ further j) in
        (λ j. rows_wanted (comes.one j) (columns j) (λ i. tabulated (length (no_groups j)) (λ k. first_flag s tb k i))) ∙ (λ j. record { values = values j; flags = [] } ∷ [])

  -- CHANGE BY CHANGE

  pub changed_as : (change : Change) → Fits s n tb change → rows_after s n tb change ≡ rows_changed s n tb change
  changed_as (Longer more) f = longer_rows more
  changed_as (Picked numbers) f = picked_rows numbers f
  changed_as (Appended other) f = appended_rows other.now f
  changed_as (Widened other) f = widened_rows other.now f
