-- Rows as the transposition of columns: what a change of columns or of members is for rows.
use Rattle.std.proofs.Common.{◌≡◌, ◌≢◌, ℕ, zero, suc, ◌+◌, ◌-◌, ◌<◌, length-append, Bool, true, false, List, [], ◌∷◌, ◌++◌, length, map, set, get_or, replicate, Some, refl, ap, sym, ◌∙◌, arith}
use Rattle.std.specs.Prelude.{slice_set, pos, remove, All, if◌then◌else◌}
use Rattle.std.specs.Str.{bytes_eq}
use Rattle.std.proofs.lemmas.List.{length-map, map-set, map-append, get_or-map, get_or-set_same, get_or-set_other, get_or-replicate, get_or-append_right, get_or_append_left, length-replicate}
use Rattle.std.proofs.lemmas.List.Elements.{All-nil, All-cons, All-head, All-tail, All-append}
use Rattle.std.proofs.Math.Seq.{map-set_same}
use Rattle.sop_model.specs.declared.value.Value.{Value}
use Rattle.sop_model.specs.declared.value.Value.TheVariants as value
use Rattle.sop_model.specs.declared.geo.Row.{Row}
use Rattle.sop_model.specs.declared.geo.Head.{Head}
use Rattle.sop_model.specs.declared.geo.HeadSet.{HeadSet}
use Rattle.sop_model.specs.Values.{default_of}
use Rattle.sop_model.specs.Geometry.{empty_row}
use Rattle.sop_model.specs.Merge.{value_under, flag_under, fitted, row_under}
use Rattle.sop_model.specs.Rows.{changed_at, with_value, with_last_value, with_flag, with_last_flag, without_value, rows_held, default_row, picked}
use Rattle.sop_rows.specs.Both.{more_heads, more_groups, both_sets, row_widened}
use Rattle.sop_tables.specs.Transposed.{tabulated, item, row_of, rows_from, items_at, append_each, filled_each, column_under, fitted_column, members_under}
use Rattle.sop_tables.proofs.TabulatedLemmas.{tabulated_same, tabulated_changed, tabulated_map, tabulated-append, tabulated_list, tabulated_replicate, get_or-tabulated}

abbrev pub none : ℕ → Bool
none i = false

map_without : {X Y : Type 0} (f : X → Y) (xs : List X) (k : ℕ) → map f (remove xs k) ≡ remove (map f xs) k
map_without f [] zero = refl
map_without f [] (suc k) = refl
map_without f (x ∷ xs) zero = refl
map_without f (x ∷ xs) (suc k) = ap (λ r. f x ∷ r) (map_without f xs k)

tabulated_held : (head n : ℕ) (vs : List Value) → length vs ≡ n → (f g : ℕ → Row) → ((i : ℕ) → i < n → g i ≡ with_value head (item i vs) (f i)) → tabulated n g ≡ rows_held head (tabulated n f) vs
tabulated_held head zero vs long f g h = refl
tabulated_held head (suc n) [] long f g h = absurd (omega arith)
tabulated_held head (suc n) (v ∷ vs) long f g h =
    let first = h 0 (omega arith) in
    let rest = tabulated_held head n vs (omega arith) (λ i. f (suc i)) (λ i. g (suc i)) (λ i l. h (suc i) (omega arith)) in
    λ j. first j ∷ rest j

module _ (columns : List (List Value)) (members : List (ℕ → Bool)) where
  -- ONE COLUMN OR ONE GROUP

  -- one value of one column is set
  pub rows_set : (count head e : ℕ) (c : List Value) (v : Value) → c ≡ get_or columns head [] → e < length c → rows_from count (slice_set columns head (slice_set c e v)) members ≡ changed_at (with_value head v) (rows_from count columns members) e
  rows_set count head e c v at within =
      tabulated_changed (with_value head v) count e (row_of columns members) (row_of (slice_set columns head (slice_set c e v)) members)
      (λ l. let here = map-set (item e) columns head (set c e v) ∙ ap (set (map (item e) columns) head) (get_or-set_same c e v (value.Int (pos 0)) within) in
      λ j. record { values = here j; flags = map (λ has. has e) members })
      (λ i apart. let there = map-set_same (item i) columns head (set c e v) [] (get_or-set_other c e i v (value.Int (pos 0)) apart ∙ ap (item i) at) in
      λ j. record { values = there j; flags = map (λ has. has i) members })

  -- a column of one value is put behind the others
  pub rows_add : (count : ℕ) (d : Value) → rows_from count (columns ++ replicate count d ∷ []) members ≡ map (with_last_value d) (rows_from count columns members)
  rows_add count d =
      tabulated_map (with_last_value d) count (row_of columns members) (row_of (columns ++ replicate count d ∷ []) members)
      (λ i l. let here = map-append (item i) columns (replicate count d ∷ []) ∙ ap (λ (v : Value). map (item i) columns ++ v ∷ []) (get_or-replicate count i d (value.Int (pos 0)) l) in
      λ j. record { values = here j; flags = map (λ has. has i) members })

  -- a column goes
  pub rows_del : (count head : ℕ) → rows_from count (remove columns head) members ≡ map (without_value head) (rows_from count columns members)
  rows_del count head =
      tabulated_map (without_value head) count (row_of columns members) (row_of (remove columns head) members)
      (λ i l. let there = map_without (item i) columns head in λ j. record { values = there j; flags = map (λ has. has i) members })

  -- the whole of a column is another
  pub rows_held_all : (count head : ℕ) (vs : List Value) → length vs ≡ count → rows_from count (slice_set columns head vs) members ≡ rows_held head (rows_from count columns members) vs
  rows_held_all count head vs long =
      tabulated_held head count vs long (row_of columns members) (row_of (slice_set columns head vs) members)
      (λ i l. let here = map-set (item i) columns head vs in λ j. record { values = here j; flags = map (λ has. has i) members })

  -- one element enters or leaves one group
  pub rows_flag : (count group e : ℕ) (old new : ℕ → Bool) (on : Bool) → old ≡ get_or members group none → new e ≡ on → ((i : ℕ) → i ≢ e → new i ≡ old i) → rows_from count columns (slice_set members group new) ≡ changed_at (with_flag group on) (rows_from count columns members) e
  rows_flag count group e old new on at here others =
      tabulated_changed (with_flag group on) count e (row_of columns members) (row_of columns (slice_set members group new))
      (λ l. let there = map-set (λ (has : ℕ → Bool). has e) members group new ∙ ap (set (map (λ (has : ℕ → Bool). has e) members) group) here in
      λ j. record { values = map (item e) columns; flags = there j })
      (λ i apart. let there = map-set_same (λ (has : ℕ → Bool). has i) members group new none (others i apart ∙ ap (λ (has : ℕ → Bool). has i) at) in
      λ j. record { values = map (item i) columns; flags = there j })

  -- a group without members is put behind the others
  pub rows_group : (count : ℕ) → rows_from count columns (members ++ none ∷ []) ≡ map (with_last_flag false) (rows_from count columns members)
  rows_group count =
      tabulated_map (with_last_flag false) count (row_of columns members) (row_of columns (members ++ none ∷ []))
      (λ i l. let here = map-append (λ (has : ℕ → Bool). has i) members (none ∷ []) in λ j. record { values = map (item i) columns; flags = here j })

  -- OTHER ELEMENTS

  -- the same rows from members that agree on the elements
  pub rows_members : (count : ℕ) (others : List (ℕ → Bool)) → ((i : ℕ) → i < count → map (λ (has : ℕ → Bool). has i) others ≡ map (λ (has : ℕ → Bool). has i) members) → rows_from count columns others ≡ rows_from count columns members
  rows_members count others same =
      tabulated_same count (row_of columns others) (row_of columns members) (λ i l. let here = same i l in λ j. record { values = map (item i) columns; flags = here j })

  -- the elements of these numbers, in this order
  pub rows_picked : (count : ℕ) (numbers : List ℕ) (others : List (ℕ → Bool)) → All (λ i. i < count) numbers
      → ((j : ℕ) → j < length numbers → map (λ (has : ℕ → Bool). has j) others ≡ map (λ (has : ℕ → Bool). has (get_or numbers j 0)) members)
      → rows_from (length numbers) (map (items_at numbers) columns) others ≡ picked (rows_from count columns members) empty_row numbers
  rows_picked count numbers others within same =
      tabulated_list (row_of columns members) numbers (row_of (map (items_at numbers) columns) others) 0
      (λ j l. let here = values_at j l columns in let there = same j l in λ k. record { values = here k; flags = there k })
      ∙ sym (read numbers within)
    where
      values_at : (j : ℕ) → j < length numbers → (cs : List (List Value)) → map (item j) (map (items_at numbers) cs) ≡ map (item (get_or numbers j 0)) cs
      values_at j l [] = refl
      values_at j l (vs ∷ cs) =
          let first = get_or-map (λ i. item i vs) numbers j 0 (value.Int (pos 0)) l in
          let rest = values_at j l cs in
          λ k. first k ∷ rest k

      read : (ns : List ℕ) → All (λ i. i < count) ns → picked (rows_from count columns members) empty_row ns ≡ map (row_of columns members) ns
      read [] all = refl
      read (n ∷ ns) all =
          let first = get_or-tabulated count n (row_of columns members) empty_row (All-head (λ i. i < count) n ns all) in
          let rest = read ns (All-tail (λ i. i < count) n ns all) in
          λ k. first k ∷ rest k

-- MORE ELEMENTS

-- columns of so many values
abbrev pub AreOf : ℕ → List (List Value) → Type 0
AreOf count columns = All (λ vs. length vs ≡ count) columns

-- elements behind the others: each column has the values of the further elements behind its own
module _ (n m : ℕ) (members : List (ℕ → Bool)) where
  first_values : (i : ℕ) → i < n → (columns others : List (List Value)) → AreOf n columns → length others ≡ length columns → map (item i) (append_each columns others) ≡ map (item i) columns
  first_values i l [] others all many = refl
  first_values i l (vs ∷ columns) [] all many = absurd (omega arith)
  first_values i l (vs ∷ columns) (ws ∷ others) all many =
      let long = All-head (λ us. length us ≡ n) vs columns all in
      let here = get_or_append_left vs ws (value.Int (pos 0)) i (omega arith) in
      let rest = first_values i l columns others (All-tail (λ us. length us ≡ n) vs columns all) (omega arith) in
      λ j. here j ∷ rest j

  later_values : (i : ℕ) → (columns others : List (List Value)) → AreOf n columns → length others ≡ length columns → map (item (n + i)) (append_each columns others) ≡ map (item i) others
  later_values i [] [] all many = refl
  later_values i [] (ws ∷ others) all many = absurd (omega arith)
  later_values i (vs ∷ columns) [] all many = absurd (omega arith)
  later_values i (vs ∷ columns) (ws ∷ others) all many =
      let long = All-head (λ us. length us ≡ n) vs columns all in
      let left = get_or-append_right vs ws n (n + i) (value.Int (pos 0)) long (omega arith) in
      let here = left ∙ (let place : n + i - n ≡ i = omega arith in ap (λ k. get_or ws k (value.Int (pos 0))) place) in
      let rest = later_values i columns others (All-tail (λ us. length us ≡ n) vs columns all) (omega arith) in
      λ j. here j ∷ rest j

  abbrev pub later_members : List (ℕ → Bool)
  later_members = map (λ (has : ℕ → Bool) (i : ℕ). has (n + i)) members

  flags_later : (i : ℕ) (ms : List (ℕ → Bool)) → map (λ (has : ℕ → Bool). has (n + i)) ms ≡ map (λ (has : ℕ → Bool). has i) (map (λ (has : ℕ → Bool) (i : ℕ). has (n + i)) ms)
  flags_later i [] = refl
  flags_later i (has ∷ ms) = ap (λ r. has (n + i) ∷ r) (flags_later i ms)

  pub rows_both : (columns others : List (List Value)) → AreOf n columns → length others ≡ length columns → rows_from (n + m) (append_each columns others) members ≡ rows_from n columns members ++ rows_from m others later_members
  rows_both columns others all many =
      tabulated-append n m (n + m) (row_of (append_each columns others) members) refl
      ∙ ap (λ r. r ++ tabulated m (λ i. row_of (append_each columns others) members (n + i)))
      (tabulated_same n (row_of (append_each columns others) members) (row_of columns members) (λ i l. let here = first_values i l columns others all many in λ j. record { values = here j; flags = map (λ (has : ℕ → Bool). has i) members }))
      ∙ ap (λ r. rows_from n columns members ++ r)
      (tabulated_same m (λ i. row_of (append_each columns others) members (n + i)) (row_of others later_members)
      (λ i l. let here = later_values i columns others all many in let there = flags_later i members in λ j. record { values = here j; flags = there j }))

-- defaults behind the others, and in no group
module _ (n m : ℕ) (set : HeadSet) (members : List (ℕ → Bool)) where
  pub rows_longer : (columns : List (List Value)) → AreOf n columns → length columns ≡ length set.heads → ((i : ℕ) → i < m → map (λ (has : ℕ → Bool). has (n + i)) members ≡ map (λ group. false) set.groups)
      → rows_from (n + m) (append_each columns (filled_each m (map (λ h. default_of h.kind) set.heads))) members ≡ rows_from n columns members ++ replicate m (default_row set)
  rows_longer columns all many off =
      let ds = map (λ (h : Head). default_of h.kind) set.heads in
      let long = length-map ds (replicate m) in
      let longer = length-map set.heads (λ h. default_of h.kind) in
      rows_both n m members columns (filled_each m ds) all (omega arith)
      ∙ ap (λ r. rows_from n columns members ++ r)
      (tabulated_replicate m (row_of (filled_each m ds) (later_members n m members)) (default_row set)
      (λ i l. let here = each i l ds in let there = sym (flags_later n m members i members) ∙ off i l in λ j. record { values = here j; flags = there j }))
    where
      each : (i : ℕ) → i < m → (ds : List Value) → map (item i) (filled_each m ds) ≡ ds
      each i l [] = refl
      each i l (d ∷ ds) =
          let here = get_or-replicate m i d (value.Int (pos 0)) l in
          let rest = each i l ds in
          λ j. here j ∷ rest j

-- ROWS OF TWO

-- further heads with defaults, and further groups without members
module _ (n : ℕ) (A B : HeadSet) (columns : List (List Value)) (members : List (ℕ → Bool)) where
  pub rows_widened : rows_from n (columns ++ filled_each n (map (λ h. default_of h.kind) (more_heads A B))) (members ++ map (λ name. none) (more_groups A B)) ≡ map (row_widened A B) (rows_from n columns members)
  rows_widened =
      let ds = map (λ (h : Head). default_of h.kind) (more_heads A B) in
      tabulated_map (row_widened A B) n (row_of columns members) (row_of (columns ++ filled_each n ds) (members ++ map (λ name. none) (more_groups A B)))
      (λ i l. let here = map-append (item i) columns (filled_each n ds) ∙ ap (λ r. map (item i) columns ++ r) (filled i l ds) in
      let there = map-append (λ (has : ℕ → Bool). has i) members (map (λ name. none) (more_groups A B)) ∙ ap (λ r. map (λ (has : ℕ → Bool). has i) members ++ r) (off i (more_groups A B)) in
      λ j. record { values = here j; flags = there j })
    where
      filled : (i : ℕ) → i < n → (ds : List Value) → map (item i) (filled_each n ds) ≡ ds
      filled i l [] = refl
      filled i l (d ∷ ds) =
          let here = get_or-replicate n i d (value.Int (pos 0)) l in
          let rest = filled i l ds in
          λ j. here j ∷ rest j

      off : (i : ℕ) → (gs : List (List ℕ)) → map (λ (has : ℕ → Bool). has i) (map (λ name. none) gs) ≡ map (λ name. false) gs
      off i [] = refl
      off i (g ∷ gs) = ap (λ r. false ∷ r) (off i gs)

-- a value of a column under a name is the value under that name
pub item_fitted : (m i : ℕ) → i < m → (h : Head) (heads : List Head) (columns : List (List Value)) → AreOf m columns → item i (fitted_column m h (column_under heads columns h.name)) ≡ fitted h (value_under heads (map (item i) columns) h.name)
item_fitted m i l h [] columns all = get_or-replicate m i (default_of h.kind) (value.Int (pos 0)) l
item_fitted m i l h (k ∷ heads) [] all = get_or-replicate m i (default_of h.kind) (value.Int (pos 0)) l
item_fitted m i l h (k ∷ heads) (vs ∷ columns) all =
    by (bytes_eq k.name h.name) (get_or-map (λ v. fitted h (Some v)) vs i (value.Int (pos 0)) (value.Int (pos 0)) (let long = All-head (λ us. length us ≡ m) vs columns all in omega arith))
    (item_fitted m i l h heads columns (All-tail (λ us. length us ≡ m) vs columns all))
  where
    by : (same : Bool) → item i (map (λ v. fitted h (Some v)) vs) ≡ fitted h (Some (item i vs)) → item i (fitted_column m h (column_under heads columns h.name)) ≡ fitted h (value_under heads (map (item i) columns) h.name)
        → item i (fitted_column m h (if same then Some vs else column_under heads columns h.name)) ≡ fitted h (if same then Some (item i vs) else value_under heads (map (item i) columns) h.name)
    by true here rest = here
    by false here rest = rest

has_under : (i : ℕ) (groups : List (List ℕ)) (members : List (ℕ → Bool)) (name : List ℕ) → members_under groups members name i ≡ flag_under groups (map (λ (has : ℕ → Bool). has i) members) name
has_under i [] members name = refl
has_under i (g ∷ groups) [] name = refl
has_under i (g ∷ groups) (has ∷ members) name = by (bytes_eq g name) (has_under i groups members name)
  where
    by : (same : Bool) → members_under groups members name i ≡ flag_under groups (map (λ (on : ℕ → Bool). on i) members) name
        → (if same then has i else members_under groups members name i) ≡ (if same then has i else flag_under groups (map (λ (on : ℕ → Bool). on i) members) name)
    by true rest = refl
    by false rest = rest

-- the columns of a class under other heads, and its members under other groups
module _ (m : ℕ) (new old : HeadSet) (columns : List (List Value)) (members : List (ℕ → Bool)) (all : AreOf m columns) where
  abbrev pub columns_under : List (List Value)
  columns_under = map (λ (h : Head). fitted_column m h (column_under old.heads columns h.name)) new.heads

  abbrev pub groups_under : List (ℕ → Bool)
  groups_under = map (members_under old.groups members) new.groups

  pub values_under_all : (i : ℕ) → i < m → (hs : List Head) → map (item i) (map (λ (h : Head). fitted_column m h (column_under old.heads columns h.name)) hs) ≡ map (λ (h : Head). fitted h (value_under old.heads (map (item i) columns) h.name)) hs
  values_under_all i l [] = refl
  values_under_all i l (h ∷ hs) =
      let here = item_fitted m i l h old.heads columns all in
      let rest = values_under_all i l hs in
      λ j. here j ∷ rest j

  flags_under : (i : ℕ) → (gs : List (List ℕ)) → map (λ (has : ℕ → Bool). has i) (map (members_under old.groups members) gs) ≡ map (flag_under old.groups (map (λ (has : ℕ → Bool). has i) members)) gs
  flags_under i [] = refl
  flags_under i (g ∷ gs) =
      let here = has_under i old.groups members g in
      let rest = flags_under i gs in
      λ j. here j ∷ rest j

  pub rows_under : rows_from m columns_under groups_under ≡ map (row_under new old) (rows_from m columns members)
  rows_under =
      tabulated_map (row_under new old) m (row_of columns members) (row_of columns_under groups_under)
      (λ i l. let here = values_under_all i l new.heads in let there = flags_under i new.groups in λ j. record { values = here j; flags = there j })

AreOf-filled : (n : ℕ) (ds : List Value) → AreOf n (filled_each n ds)
AreOf-filled n [] = All-nil (λ vs. length vs ≡ n)
AreOf-filled n (d ∷ ds) = All-cons (λ vs. length vs ≡ n) (replicate n d) (filled_each n ds) (length-replicate n d) (AreOf-filled n ds)

-- the elements of two, those of the first widened and those of the second under the heads and groups of both
module _ (n m : ℕ) (A B : HeadSet) (firsts seconds : List (List Value)) (ins others : List (ℕ → Bool)) (of_first : AreOf n firsts) (of_second : AreOf m seconds) (many : length firsts ≡ length A.heads) (members : List (ℕ → Bool))
    (before : (i : ℕ) → i < n → map (λ (has : ℕ → Bool). has i) members ≡ map (λ (has : ℕ → Bool). has i) (ins ++ map (λ name. none) (more_groups A B)))
    (behind : (i : ℕ) → i < m → map (λ (has : ℕ → Bool). has (n + i)) members ≡ map (λ (has : ℕ → Bool). has i) (map (members_under B.groups others) (both_sets A B).groups)) where
  abbrev wide : List (List Value)
  wide = firsts ++ filled_each n (map (λ (h : Head). default_of h.kind) (more_heads A B))

  abbrev under : List (List Value)
  under = map (λ (h : Head). fitted_column m h (column_under B.heads seconds h.name)) (both_sets A B).heads

  pub rows_appended : rows_from (n + m) (append_each wide under) members ≡ map (row_widened A B) (rows_from n firsts ins) ++ map (row_under (both_sets A B) B) (rows_from m seconds others)
  rows_appended =
      let ds = map (λ (h : Head). default_of h.kind) (more_heads A B) in
      let one = length-map (more_heads A B) (λ (h : Head). default_of h.kind) in
      let two = length-map ds (replicate n) in
      let three = length-append firsts (filled_each n ds) in
      let four = length-append A.heads (more_heads A B) in
      let five = length-map (both_sets A B).heads (λ (h : Head). fitted_column m h (column_under B.heads seconds h.name)) in
      rows_both n m members wide under (All-append (λ vs. length vs ≡ n) firsts (filled_each n ds) of_first (AreOf-filled n ds)) (omega arith)
      ∙ ap (λ r. r ++ rows_from m under (later_members n m members)) (rows_members wide (ins ++ map (λ name. none) (more_groups A B)) n members before ∙ rows_widened n A B firsts ins)
      ∙ ap (λ r. map (row_widened A B) (rows_from n firsts ins) ++ r)
      (rows_members under (map (members_under B.groups others) (both_sets A B).groups) m (later_members n m members) (λ i l. sym (flags_later n m members i members) ∙ behind i l)
      ∙ rows_under m (both_sets A B) B seconds others of_second)
