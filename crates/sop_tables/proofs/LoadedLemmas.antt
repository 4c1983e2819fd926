-- A table that is loaded with a class of a geometry: heads, values and flags that are read one by one.
use Rattle.std.proofs.Common.{◌≡◌, ℕ, zero, suc, ◌+◌, ◌<◌, ◌≤◌, Bool, false, List, [], ◌∷◌, ◌++◌, length, map, take, drop, get_or, refl, ap, sym, ◌∙◌, subst, arith, length-drop}
use Rattle.std.specs.Prelude.{All, Option, Some, None, pos, slice_get}
use Rattle.std.specs.Option.{option_map, option_and_then}
use Rattle.std.proofs.lemmas.Option.{slice_get-get_or}
use Rattle.std.proofs.lemmas.List.{map-append, take_more, take_all, get_or-drop, get_or_default, length-map}
use Rattle.std.proofs.lemmas.List.Elements.{All-append, All-push, All-get_or}
use Rattle.std.proofs.Math.Seq.{take-add}
use Rattle.sop_model.specs.declared.class.Class.{Class}
use Rattle.sop_model.specs.declared.class.Class.TheVariants.{Detail, Prim, Point, Vertex}
use Rattle.sop_model.specs.declared.geo.Geo.{Geo}
use Rattle.sop_model.specs.declared.geo.Row.{Row}
use Rattle.sop_model.specs.declared.geo.Head.{Head}
use Rattle.sop_model.specs.declared.geo.HeadSet.{HeadSet}
use Rattle.sop_model.specs.declared.value.Kind.{Kind}
use Rattle.sop_model.specs.declared.value.Value.{Value}
use Rattle.sop_model.specs.declared.value.Value.TheVariants as value
use Rattle.sop_model.specs.Values.{kind_of}
use Rattle.sop_model.specs.Limits.{most_vertices}
use Rattle.sop_model.specs.Geometry.{AreKept, set_bounds, empty_row, heads_of, rows_of, count_of, value_at, flag_at, IsRowOf, IsReadable}
use Rattle.sop_model.specs.Rows.{column_of}
use Rattle.sop_model.specs.Vertices.{corners_of}
use Rattle.sop_model.proofs.LimitsLemmas.{within_points, within_prims, within_vertices, within_heads, within_groups}
use Rattle.sop_pages.specs.declared.cell.Cell.{Cell}
use Rattle.sop_cells.specs.declared.place.Place.{Place}
use Rattle.sop_cells.specs.Shelves.{ShelfPages, blocks, joined, column, Shifts}
use Rattle.sop_cells.proofs.PageLists.{joined_last}
use Rattle.sop_columns.specs.Names.{NameTable, value_of, IsNumbered, Grows}
use Rattle.sop_columns.specs.Values.{values, IsColumn}
use Rattle.sop_columns.specs.Fitted.{StandsFor}
use Rattle.sop_columns.proofs.FittedLemmas.{stands_grow}
use Rattle.sop_columns.specs.Bits.{flag, placed, AreBits, AreJoined}
use Rattle.sop_tables.specs.Transposed.{tabulated, item}
use Rattle.sop_tables.specs.Tables.{TableLists, rows, IsTableMade}
use Rattle.sop_tables.specs.Changes.{no_head, IsNewColumn, AreNewColumns, AreNewMembers, rows_wanted}
use Rattle.sop_tables.specs.Loaded.{columns_of, is_member, members_of}
use Rattle.sop_tables.proofs.TabulatedLemmas.{tabulated_same}
use Rattle.sop_tables.proofs.ColumnLemmas.{column_made}
use Rattle.sop_tables.proofs.StepLemmas.{flag_off}
use Rattle.sop_tables.proofs.MadeLemmas.{no_shift, next_column, table_made, rows_made}

-- HEADS AND GROUPS

-- one item more that is read
pub read_more : {X : Type 0} (xs : List X) (i : ℕ) (x : X) (made new : List X) → i < length xs → slice_get xs i ≡ Some x → made ≡ take i xs → new ≡ made ++ x ∷ [] → new ≡ take (i + 1) xs
read_more xs i x made new within read was now =
    let found : Some (get_or xs i x) ≡ Some x = sym (slice_get-get_or xs i x within) ∙ read in
    let same : get_or xs i x ≡ x = cc in
    now ∙ ap (λ ys. ys ++ x ∷ []) was ∙ ap (λ y. take i xs ++ y ∷ []) (sym same) ∙ sym (take_more xs i x within)

-- one head more, of which name and kind are read
pub head_more : (heads : List Head) (i : ℕ) (name : List ℕ) (k : Kind) (made new : List Head) → i < length heads → option_map (λ h. h.name) (slice_get heads i) ≡ Some name → option_map (λ h. h.kind) (slice_get heads i) ≡ Some k → made ≡ take i heads
    → new ≡ made ++ record { name = name; kind = k } ∷ [] → new ≡ take (i + 1) heads
head_more heads i name k made new within name_is kind_is was now = read_more heads i (record { name = name; kind = k }) made new within (both (slice_get heads i) name_is kind_is) was now
  where
    both : (o : Option Head) → option_map (λ h. h.name) o ≡ Some name → option_map (λ h. h.kind) o ≡ Some k → o ≡ Some (record { name = name; kind = k })
    both None a b = absurd cc
    both (Some h) a b =
        let n : h.name ≡ name = cc in
        let c : h.kind ≡ k = cc in
        λ j. Some (record { name = n j; kind = c j })

pub read_all : {X : Type 0} (xs made : List X) (k : ℕ) → k ≡ length xs → made ≡ take k xs → made ≡ xs
read_all xs made k whole is = is ∙ take_all k xs (omega arith)

-- HOW MANY

pub count_few : {g : Geo} → IsReadable g → (class : Class) → count_of g class ≤ most_vertices
count_few {g} r Detail = omega arith
count_few {g} r Prim = let a = within_prims r.within in let b = length-map g.prims (λ p. p.row) in omega arith
count_few {g} r Point = let a = within_points r.within in omega arith
count_few {g} r Vertex = let a = within_vertices r.within in let b = length-map (corners_of g.prims) (λ c. c.row) in omega arith

pub set_few : {g : Geo} → IsReadable g → (class : Class) → AreKept (set_bounds (heads_of g class))
set_few r class = (within_heads r.within class, (within_groups r.within class, tt))

-- CELLS

-- a value that is read stands in the column
value_here : (vs : List Value) (head : ℕ) (v d : Value) → slice_get vs head ≡ Some v → get_or vs head d ≡ v
value_here [] head v d e = absurd cc
value_here (w ∷ vs) zero v d e = cc
value_here (w ∷ vs) (suc head) v d e = value_here vs head v d e

value_there : (rows : List Row) (head e : ℕ) (v d : Value) → option_and_then (λ row. slice_get row.values head) (slice_get rows e) ≡ Some v → get_or (map (λ (row : Row). get_or row.values head (value.Int (pos 0))) rows) e d ≡ v
value_there [] head e v d is = absurd cc
value_there (r ∷ rows) head zero v d is = value_here r.values head v (value.Int (pos 0)) is
value_there (r ∷ rows) head (suc e) v d is = value_there rows head e v d is

pub length-column : (g : Geo) (class : Class) (head : ℕ) → length (column_of g class head) ≡ count_of g class
length-column g class head = length-map (rows_of g class) (λ (row : Row). get_or row.values head (value.Int (pos 0)))

-- one cell more
module _ (g : Geo) (class : Class) (head start k : ℕ) (m n : NameTable) (v : Value) (cell : Cell) (cells after : List Cell) where
  pub cell_more : start + k < count_of g class → value_at g class head (start + k) ≡ Some v → Grows m n → StandsFor m cells (take k (drop start (column_of g class head))) → IsNumbered n cell → value_of n cell ≡ v → after ≡ cells ++ cell ∷ []
      → StandsFor n after (take (k + 1) (drop start (column_of g class head)))
  cell_more within read grows stands numbered is now =
      let vs = column_of g class head in
      let t = stands_grow m n cells (take k (drop start vs)) grows stands in
      let there : get_or (drop start vs) k v ≡ v = get_or-drop start vs k v ∙ value_there (rows_of g class) head (start + k) v v read in
      let inside : k < length (drop start vs) = let a = length-drop start vs in let b = length-column g class head in omega arith in
      record {
        numbered = subst (All (IsNumbered n)) (sym now) (All-push (IsNumbered n) cells cell t.numbered numbered);
        values =
            ap (map (value_of n)) now ∙ map-append (value_of n) cells (cell ∷ [])
            ∙ (λ j. t.values j ++ is j ∷ [])
            ∙ ap (λ (w : Value). take k (drop start vs) ++ w ∷ []) (sym there)
            ∙ sym (take_more (drop start vs) k v inside);
      }

-- one page more
pub page_more : (m n : NameTable) (vs : List Value) (a b c : ℕ) (pages after : List (List Cell)) (page : List Cell) → after ≡ pages ++ page ∷ [] → Grows m n → c ≡ a + b → StandsFor m (joined pages) (take a vs) → StandsFor n page (take b (drop a vs))
    → StandsFor n (joined after) (take c vs)
page_more m n vs a b c pages after page now grows e s t =
    let u = stands_grow m n (joined pages) (take a vs) grows s in
    subst (λ (cells : List Cell). StandsFor n cells (take c vs)) (sym (ap joined now ∙ joined_last pages page))
    (record {
      numbered = All-append (IsNumbered n) (joined pages) page u.numbered t.numbered;
      values = map-append (value_of n) (joined pages) page ∙ (λ j. u.values j ++ t.values j) ∙ sym (take-add a b vs) ∙ ap (λ (k : ℕ). take k vs) (sym e);
    })

-- all values of a column
pub stands_all : (n : NameTable) (vs : List Value) (c : ℕ) (cells : List Cell) → length vs ≤ c → StandsFor n cells (take c vs) → StandsFor n cells vs
stands_all n vs c cells l s = subst (StandsFor n cells) (take_all c vs l) s

-- A COLUMN

pub column_loaded : (s t : ShelfPages) (n m : NameTable) (size : ℕ) (h : Head) (vs : List Value) (pages : List (List Cell)) (new : List Place) → length vs ≡ size → StandsFor m (joined pages) vs → Grows n m → blocks t new ≡ pages → IsColumn t m new
    → Shifts s t [] new → IsNewColumn s t n m size h vs new
column_loaded s t n m size h vs pages new long stands grows same is shifts =
    let vals : values t m new ≡ vs = ap (λ (ps : List (List Cell)). map (value_of m) (joined ps)) same ∙ stands.values in
    let a = ap (λ (ws : List Value). length ws) vals in
    let b = length-map (column t new) (value_of m) in
    record {
      shifts = shifts;
      grows = grows;
      column = column_made t m size _ new is (omega arith);
      values = ap (take size) vals ∙ take_all size vs (omega arith);
    }

-- the columns of the first heads, and the next
module _ (s t u : ShelfPages) (n m o : NameTable) (size : ℕ) (heads : List Head) (k : ℕ) (f : ℕ → List Value) (made : List (List Place)) (new : List Place) (within : k < length heads) where
  pub next_loaded : AreNewColumns s t n m size (take k heads) (tabulated k f) made → ((h : Head) → IsNewColumn t u m o size h (f k) new) → (more : List (List Place)) → more ≡ made ++ new ∷ [] → AreNewColumns s u n o size (take (k + 1) heads) (tabulated (k + 1) f) more
  next_loaded are made_for more is = let h = get_or heads k no_head in next_column s t u n m o size heads k f made within h no_head new (get_or_default heads k no_head h within) are (made_for h) more is

pub columns_loaded : (s t : ShelfPages) (n m : NameTable) (size k : ℕ) (heads : List Head) (f : ℕ → List Value) (made : List (List Place)) → k ≡ length heads → AreNewColumns s t n m size (take k heads) (tabulated k f) made → AreNewColumns s t n m size heads (tabulated (length heads) f) made
columns_loaded s t n m size k heads f made whole are =
    subst (λ (hs : List Head). AreNewColumns s t n m size hs (tabulated (length heads) f) made) (take_all (length heads) heads (omega arith))
    (subst (λ (j : ℕ). AreNewColumns s t n m size (take j heads) (tabulated j f) made) whole are)

-- ROWS

-- a list read number by number
listed : {X : Type 0} (xs : List X) (d : X) (many : ℕ) → length xs ≡ many → tabulated many (λ k. get_or xs k d) ≡ xs
listed [] d zero e = refl
listed [] d (suc many) e = absurd (omega arith)
listed (x ∷ xs) d zero e = absurd (omega arith)
listed (x ∷ xs) d (suc many) e = ap (λ r. x ∷ r) (listed xs d many (omega arith))

map_tabulated : {X Y : Type 0} (f : X → Y) (many : ℕ) (g : ℕ → X) → map f (tabulated many g) ≡ tabulated many (λ k. f (g k))
map_tabulated f zero g = refl
map_tabulated f (suc many) g = ap (λ r. f (g 0) ∷ r) (map_tabulated f many (λ k. g (suc k)))

item_of_column : (rows : List Row) (k i : ℕ) → i < length rows → get_or (map (λ (row : Row). get_or row.values k (value.Int (pos 0))) rows) i (value.Int (pos 0)) ≡ get_or (get_or rows i empty_row).values k (value.Int (pos 0))
item_of_column [] k i l = absurd (omega arith)
item_of_column (r ∷ rows) k zero l = refl
item_of_column (r ∷ rows) k (suc i) l = item_of_column rows k i (omega arith)

module _ (set : HeadSet) (rows : List Row) (all : All (IsRowOf set) rows) where
  row_there : (i : ℕ) → i < length rows → IsRowOf set (get_or rows i empty_row)
  row_there i l = All-get_or (IsRowOf set) rows i empty_row l all

  row_values : (i : ℕ) → i < length rows → map (item i) (tabulated (length set.heads) (λ k. map (λ (row : Row). get_or row.values k (value.Int (pos 0))) rows)) ≡ (get_or rows i empty_row).values
  row_values i l =
      let r = get_or rows i empty_row in
      let many : length r.values ≡ length set.heads = (let a = ap (λ (ks : List Kind). length ks) (row_there i l).kinds in let b = length-map r.values kind_of in let c = length-map set.heads (λ (h : Head). h.kind) in omega arith) in
      map_tabulated (item i) (length set.heads) (λ k. map (λ (row : Row). get_or row.values k (value.Int (pos 0))) rows)
      ∙ tabulated_same (length set.heads) (λ k. item i (map (λ (row : Row). get_or row.values k (value.Int (pos 0))) rows)) (λ k. get_or r.values k (value.Int (pos 0))) (λ k h. item_of_column rows k i l)
      ∙ listed r.values (value.Int (pos 0)) (length set.heads) many

  row_flags : (i : ℕ) → i < length rows → tabulated (length set.groups) (λ k. get_or (get_or rows i empty_row).flags k false) ≡ (get_or rows i empty_row).flags
  row_flags i l = listed (get_or rows i empty_row).flags false (length set.groups) (row_there i l).flags

  pub rows_loaded : rows_wanted (length rows) (tabulated (length set.heads) (λ k. map (λ (row : Row). get_or row.values k (value.Int (pos 0))) rows)) (λ i. tabulated (length set.groups) (λ k. get_or (get_or rows i empty_row).flags k false)) ≡ rows
  rows_loaded =
      let columns = tabulated (length set.heads) (λ k. map (λ (row : Row). get_or row.values k (value.Int (pos 0))) rows) in
      tabulated_same (length rows) (λ i. record { values = map (item i) columns; flags = tabulated (length set.groups) (λ k. get_or (get_or rows i empty_row).flags k false) }) (λ i. get_or rows i empty_row)
      (λ i l. let a = row_values i l in let b = row_flags i l in λ j. record { values = a j; flags = b j })
      ∙ listed rows empty_row (length rows) refl

pub class_loaded : (g : Geo) (class : Class) → IsReadable g → rows_wanted (count_of g class) (columns_of g class (length (heads_of g class).heads)) (members_of g class (length (heads_of g class).groups)) ≡ rows_of g class
class_loaded g class r = rows_loaded (heads_of g class) (rows_of g class) (r.sound.rows class)

-- FLAGS

flag_here : (fs : List Bool) (k : ℕ) (on : Bool) → slice_get fs k ≡ Some on → on ≡ get_or fs k false
flag_here [] k on e = absurd cc
flag_here (f ∷ fs) zero on e = cc
flag_here (f ∷ fs) (suc k) on e = flag_here fs k on e

flag_there : (rows : List Row) (group e : ℕ) (on : Bool) → option_and_then (λ row. slice_get row.flags group) (slice_get rows e) ≡ Some on → on ≡ get_or (get_or rows e empty_row).flags group false
flag_there [] group e on is = absurd cc
flag_there (r ∷ rows) group zero on is = flag_here r.flags group on is
flag_there (r ∷ rows) group (suc e) on is = flag_there rows group e on is

pub member_read : (g : Geo) (class : Class) (group e : ℕ) (on : Bool) → flag_at g class group e ≡ Some on → on ≡ is_member g class group e
member_read g class group e on is = flag_there (rows_of g class) group e on is

-- no flag is on
pub record IsUnfilled (s : ShelfPages) (wanted : ℕ → Bool) (places : List (Option Place)) : Type 0 where
  pub flags : AreJoined (flag s places) (λ _. false) 0 wanted 0
  pub few : length places ≤ 31
  pub bits : AreBits s places
  pub shifts : Shifts s s [] (placed places)

pub none_filled : (s : ShelfPages) (places : List (Option Place)) → places ≡ [] → (wanted : ℕ → Bool) → IsUnfilled s wanted places
none_filled s places bare wanted = subst (IsUnfilled s wanted) (sym bare) (record {
  flags = record { before_are = λ k l. absurd (omega arith); more_are = λ k l. absurd (omega arith); beyond_are = λ k l. flag_off s k };
  few = omega arith;
  bits = record { covered = record { each = λ x. omega arith }; based = tt };
  shifts = no_shift s;
})

-- a table of no text and no list
abbrev pub no_names : NameTable
no_names = record { texts = []; lists = [] }

pub members_loaded : (s t : ShelfPages) (g : Geo) (class : Class) (size k : ℕ) (made : List (List (Option Place))) → k ≡ length (heads_of g class).groups → AreNewMembers s t size k (members_of g class k) made
    → AreNewMembers s t size (length (heads_of g class).groups) (members_of g class (length (heads_of g class).groups)) made
members_loaded s t g class size k made whole are = subst (λ (j : ℕ). AreNewMembers s t size j (members_of g class j) made) whole are

-- THE TABLE

module _ (s t u : ShelfPages) (n m : NameTable) (g : Geo) (class : Class) (readable : IsReadable g) (cs : List (List Place)) (ms : List (List (Option Place)))
    (are : AreNewColumns s t n m (count_of g class) (heads_of g class).heads (columns_of g class (length (heads_of g class).heads)) cs)
    (in' : AreNewMembers t u (count_of g class) (length (heads_of g class).groups) (members_of g class (length (heads_of g class).groups)) ms) where
  abbrev whole : HeadSet → ℕ → TableLists
  whole set size = record { set = set; columns = cs; members = ms; count = size }

  module _ (heads : List Head) (groups : List (List ℕ)) (size : ℕ) (heads_are : heads ≡ (heads_of g class).heads) (groups_are : groups ≡ (heads_of g class).groups) (many : size ≡ count_of g class) where
    same : whole (heads_of g class) (count_of g class) ≡ whole (record { heads = heads; groups = groups }) size
    same = λ j. whole (record { heads = sym heads_are j; groups = sym groups_are j }) (sym many j)

    pub table_loaded : IsTableMade s u n m (whole (record { heads = heads; groups = groups }) size)
    table_loaded = subst (IsTableMade s u n m) same (table_made s t u n m (count_of g class) (heads_of g class) _ _ cs ms are in' (set_few readable class) (count_few readable class))

    pub rows_of_loaded : rows u m (whole (record { heads = heads; groups = groups }) size) ≡ rows_of g class
    rows_of_loaded = ap (rows u m) (sym same) ∙ rows_made s t u n m (count_of g class) (heads_of g class) _ _ cs ms are in' ∙ class_loaded g class readable
