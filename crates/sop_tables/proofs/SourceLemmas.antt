-- A table of which a new one is made stays as it is while columns and members come.
use Rattle.std.proofs.Common.{◌≡◌, ℕ, zero, suc, ◌+◌, ◌<◌, ◌≤◌, Bool, List, [], ◌∷◌, ◌++◌, length, map, take, get_or, replicate, refl, ap, sym, ◌∙◌, subst, arith}
use Rattle.std.specs.Prelude.{◌-◌, nat_lt, if◌then◌else◌, All, Option, Some, None, slice_get, slice_index_or, unwrap_or}
use Rattle.std.proofs.lemmas.List.{length-take, get_or_read}
use Rattle.sop_model.specs.declared.geo.HeadSet.{HeadSet}
use Rattle.sop_model.specs.declared.geo.Head.{Head}
use Rattle.sop_model.specs.declared.value.Value.{Value}
use Rattle.sop_model.specs.Limits.{most_vertices, most_heads, most_groups}
use Rattle.sop_model.specs.Values.{default_of}
use Rattle.sop_model.specs.Geometry.{AreKept, IsRowOf, set_bounds}
use Rattle.sop_cells.specs.declared.place.Place.{Place}
use Rattle.sop_cells.specs.Shelves.{ShelfPages, Shifts}
use Rattle.sop_columns.specs.Names.{NameTable, Grows}
use Rattle.sop_columns.specs.Bits.{flag, placed}
use Rattle.sop_tables.specs.Transposed.{items_at, column_under, fitted_column, members_under}
use Rattle.sop_tables.specs.Tables.{TableLists, flat, places_in, held, rows, IsHeld, IsTable, IsTableMade}
use Rattle.sop_tables.specs.Changes.{no_head, head_at, group_at, all_flags_after, rows_after, rows_wanted, IsNewMembers, AreNewMembers, set_after, count_after, all_values_after, IsNewColumn, AreNewColumns, values_or, values_after, values_under, has_or, first_flag, flag_named, flag_after, Fits, IsOther, IsSource}
use Rattle.sop_tables.specs.declared.changed.Change.{Change}
use Rattle.sop_tables.specs.declared.changed.Change.TheVariants.{Longer, Picked, Appended, Widened}
use Rattle.sop_columns.proofs.NameLemmas.{grows_none}
use Rattle.sop_tables.proofs.TabulatedLemmas.{tabulated_same}
use Rattle.sop_tables.proofs.KeptLemmas.{Beside, held_kept, all_flags_kept, front_beside, back_beside, table_kept, rows_kept}
use Rattle.sop_tables.proofs.MadeLemmas.{still_held, stays_beside, next_column, next_group, table_made, rows_made}

values_or_held : (s : ShelfPages) (n : NameTable) (size : ℕ) (others : List Value) (cs : List (List Place)) (k : ℕ) → values_or s n size others (slice_get cs k) ≡ unwrap_or (slice_get (map (held s n size) cs) k) others
values_or_held s n size others [] k = refl
values_or_held s n size others (c ∷ cs) zero = refl
values_or_held s n size others (c ∷ cs) (suc k) = values_or_held s n size others cs k

abbrev has_at : Option (ℕ → Bool) → ℕ → Bool
has_at None i = Bool.false
has_at (Some has) i = has i

has_or_flag : (s : ShelfPages) (ms : List (List (Option Place))) (k i : ℕ) → has_or s (slice_get ms k) i ≡ has_at (slice_get (map (flag s) ms) k) i
has_or_flag s [] k i = refl
has_or_flag s (p ∷ ms) zero i = refl
has_or_flag s (p ∷ ms) (suc k) i = has_or_flag s ms k i

module _ (s t : ShelfPages) (n m : NameTable) (come : List Place) (shifts : Shifts s t [] come) (grows : Grows n m) where
  -- ONE TABLE

  module _ (tb : TableLists) (is : IsTable s n tb) (hd : IsHeld s (places_in tb)) where
    beside : Beside s t [] come n m (places_in tb)
    beside = stays_beside s t come n m (places_in tb) hd

    pub table_stays : IsTable t m tb
    table_stays = table_kept s t [] come n m shifts grows tb is beside

    pub table_held_still : IsHeld t (places_in tb)
    table_held_still = still_held s t come (places_in tb) shifts hd

    pub rows_stay : rows t m tb ≡ rows s n tb
    rows_stay = rows_kept s t [] come n m shifts grows tb is beside

    held_stays : map (held t m tb.count) tb.columns ≡ map (held s n tb.count) tb.columns
    held_stays = held_kept s t [] come n m shifts grows tb.count tb.set.heads tb.columns (front_beside s t [] come n m shifts grows (flat tb.columns) (flat (map placed tb.members)) beside) is.columns

    flags_stay : map (flag t) tb.members ≡ map (flag s) tb.members
    flags_stay = all_flags_kept s t [] come n m shifts grows tb.members (back_beside s t [] come n m shifts grows (flat tb.columns) (flat (map placed tb.members)) beside)

    pub values_or_stay : (others : List Value) (k : ℕ) → values_or t m tb.count others (slice_get tb.columns k) ≡ values_or s n tb.count others (slice_get tb.columns k)
    values_or_stay others k =
        values_or_held t m tb.count others tb.columns k ∙ ap (λ (vs : List (List Value)). unwrap_or (slice_get vs k) others) held_stays ∙ sym (values_or_held s n tb.count others tb.columns k)

    pub first_flag_stays : (k i : ℕ) → first_flag t tb k i ≡ first_flag s tb k i
    first_flag_stays k i = has_or_flag t tb.members k i ∙ ap (λ (fs : List (ℕ → Bool)). has_at (slice_get fs k) i) flags_stay ∙ sym (has_or_flag s tb.members k i)

    -- what stands under a name stays
    pub values_under_stay : (h : Head) → values_under t m tb h ≡ values_under s n tb h
    values_under_stay h = ap (λ (vs : List (List Value)). fitted_column tb.count h (column_under tb.set.heads vs h.name)) held_stays

    pub flag_named_stays : (name : List ℕ) (i : ℕ) → flag_named t tb name i ≡ flag_named s tb name i
    flag_named_stays name i = ap (λ (fs : List (ℕ → Bool)). members_under tb.set.groups fs name i) flags_stay

  pub other_stays : (tb : TableLists) → IsOther s n tb → IsOther t m tb
  other_stays tb o = record { table = table_stays tb o.table o.held; held = table_held_still tb o.table o.held; kinds = subst (All (IsRowOf tb.set)) (sym (rows_stay tb o.table o.held)) o.kinds }

  -- THE SOURCE

  module _ (tb : TableLists) where
    fits_still : (change : Change) → Fits s n tb change → Fits t m tb change
    fits_still (Longer more) f = f
    fits_still (Picked numbers) f = f
    fits_still (Appended other) f = record { other = other_stays other.now f.other; few = f.few; most = f.most }
    fits_still (Widened other) f = record { other = other_stays other.now f.other; few = f.few; one = f.one; other_one = f.other_one; no_groups = f.no_groups; no_other_groups = f.no_other_groups }

    pub source_stays : (change : Change) → IsSource s n tb change → IsSource t m tb change
    source_stays change is = record { table = table_stays tb is.table is.held; held = table_held_still tb is.table is.held; fits = fits_still change is.fits }

    values_stay_by : (change : Change) (k : ℕ) (h : Head) → IsTable s n tb → IsHeld s (places_in tb) → Fits s n tb change → values_after t m tb change k h ≡ values_after s n tb change k h
    values_stay_by (Longer more) k h is hd f = ap (λ (vs : List Value). vs ++ replicate more (default_of h.kind)) (values_or_stay tb is hd (replicate tb.count (default_of h.kind)) k)
    values_stay_by (Picked numbers) k h is hd f = ap (items_at numbers.now) (values_or_stay tb is hd (replicate tb.count (default_of h.kind)) k)
    values_stay_by (Appended other) k h is hd f =
        let a = values_or_stay tb is hd (replicate tb.count (default_of h.kind)) k in let b = values_under_stay other.now f.other.table f.other.held h in λ j. a j ++ b j
    values_stay_by (Widened other) k h is hd f =
        ap (λ (vs : List Value). values_or t m tb.count vs (slice_get tb.columns k)) (values_under_stay other.now f.other.table f.other.held h) ∙ values_or_stay tb is hd (values_under s n other.now h) k

    pub values_stay : (change : Change) (k : ℕ) (h : Head) → IsSource s n tb change → values_after t m tb change k h ≡ values_after s n tb change k h
    values_stay change k h is = values_stay_by change k h is.table is.held is.fits

    flag_stays_by : (change : Change) (k : ℕ) (name : List ℕ) (i : ℕ) → IsTable s n tb → IsHeld s (places_in tb) → Fits s n tb change → flag_after t tb change k name i ≡ flag_after s tb change k name i
    flag_stays_by (Longer more) k name i is hd f = first_flag_stays tb is hd k i
    flag_stays_by (Picked numbers) k name i is hd f = first_flag_stays tb is hd k (slice_index_or numbers.now i 0)
    flag_stays_by (Appended other) k name i is hd f =
        let a = first_flag_stays tb is hd k i in let b = flag_named_stays other.now f.other.table f.other.held name (i - tb.count) in λ j. if nat_lt i tb.count then a j else b j
    flag_stays_by (Widened other) k name i is hd f = first_flag_stays tb is hd k i

    pub flag_stays : (change : Change) (k : ℕ) (name : List ℕ) (i : ℕ) → IsSource s n tb change → flag_after t tb change k name i ≡ flag_after s tb change k name i
    flag_stays change k name i is = flag_stays_by change k name i is.table is.held is.fits

    pub flags_stay_after : (change : Change) (groups : List (List ℕ)) (many i : ℕ) → IsSource s n tb change → all_flags_after t tb change groups many i ≡ all_flags_after s tb change groups many i
    flags_stay_after change groups many i is =
        tabulated_same many (λ k. flag_after t tb change k (group_at groups k) i) (λ k. flag_after s tb change k (group_at groups k) i) (λ k l. flag_stays change k (group_at groups k) i is)

-- how much the new table has
module _ (s : ShelfPages) (n : NameTable) (tb : TableLists) where
  most_by : (change : Change) → tb.count ≤ most_vertices → Fits s n tb change → count_after tb.count change ≤ most_vertices
  most_by (Longer more) m f = f
  most_by (Picked numbers) m f = f.few
  most_by (Appended other) m f = f.most
  most_by (Widened other) m f = m

  pub after_most : (change : Change) → IsSource s n tb change → count_after tb.count change ≤ most_vertices
  after_most change is = most_by change is.table.most is.fits

  few_by : (change : Change) → AreKept (set_bounds tb.set) → Fits s n tb change → AreKept (set_bounds (set_after tb.set change))
  few_by (Longer more) k f = k
  few_by (Picked numbers) k f = k
  few_by (Appended other) k f = f.few
  few_by (Widened other) k f = f.few

  pub after_few : (change : Change) → IsSource s n tb change → AreKept (set_bounds (set_after tb.set change))
  after_few change is = few_by change is.table.few is.fits

  pub few_heads_after : (change : Change) (set : HeadSet) (heads : List Head) (k : ℕ) → IsSource s n tb change → set ≡ set_after tb.set change → heads ≡ set.heads → length (take k heads) ≤ most_heads
  few_heads_after change set heads k is same of =
      let f = after_few change is in let a = ap (λ (x : HeadSet). length x.heads) same in let b = ap (λ (x : List Head). length x) of in let l = length-take k heads in let g = f.0 in omega arith

  pub all_heads_few : (change : Change) (set : HeadSet) → IsSource s n tb change → set ≡ set_after tb.set change → length set.heads ≤ most_heads
  all_heads_few change set is same = let f = after_few change is in let a = ap (λ (x : HeadSet). length x.heads) same in let g = f.0 in omega arith

  pub few_groups_after : (change : Change) (set : HeadSet) (groups : List (List ℕ)) (k : ℕ) → IsSource s n tb change → set ≡ set_after tb.set change → groups ≡ set.groups → k < length groups → k ≤ most_groups
  few_groups_after change set groups k is same of within =
      let f = after_few change is in let a = ap (λ (x : HeadSet). length x.groups) same in let b = ap (λ (x : List (List ℕ)). length x) of in let g = f.1.0 in omega arith

-- the new columns of the first heads, and the next
module _ (s t u : ShelfPages) (n m o : NameTable) (tb : TableLists) (change : Change) (heads : List Head) (k : ℕ) (made : List (List Place)) (is : IsSource s n tb change) (within : k < length heads) where
  pub source_next : (h : Head) (places : List Place) (more : List (List Place)) → h ≡ get_or heads k h → AreNewColumns s t n m (count_after tb.count change) (take k heads) (all_values_after s n tb change heads k) made
      → IsNewColumn t u m o (count_after tb.count change) h (values_after t m tb change k h) places → more ≡ made ++ places ∷ []
      → AreNewColumns s u n o (count_after tb.count change) (take (k + 1) heads) (all_values_after s n tb change heads (k + 1)) more
  source_next h places more at are new so =
      let there : h ≡ head_at heads k = get_or_read heads k h within at no_head in
      let vs = values_stay s t n m (flat made) are.shifts are.grows tb change k h is ∙ ap (values_after s n tb change k) there in
      next_column s t u n m o (count_after tb.count change) heads k (λ (i : ℕ). values_after s n tb change i (head_at heads i)) made within h no_head places at are
      (subst (λ (w : List Value). IsNewColumn t u m o (count_after tb.count change) h w places) vs new) more so

-- the new members of the first groups, and the next
module _ (s t u : ShelfPages) (n : NameTable) (tb : TableLists) (change : Change) (groups : List (List ℕ)) (k : ℕ) (made : List (List (Option Place))) (is : IsSource s n tb change) (within : k < length groups) where
  pub source_next_group : (g : List ℕ) (places : List (Option Place)) (more : List (List (Option Place))) → g ≡ get_or groups k g → AreNewMembers s t (count_after tb.count change) k (all_flags_after s tb change groups k) made
      → IsNewMembers t u (count_after tb.count change) (flag_after t tb change k g) places → more ≡ made ++ places ∷ []
      → AreNewMembers s u (count_after tb.count change) (k + 1) (all_flags_after s tb change groups (k + 1)) more
  source_next_group g places more at are new so =
      let there : g ≡ group_at groups k = get_or_read groups k g within at [] in
      next_group s t u n (count_after tb.count change) k (λ (j i : ℕ). flag_after s tb change j (group_at groups j) i) made places are
      (record { shifts = new.shifts; members = new.members; flags = λ i l. new.flags i l ∙ flag_stays s t n n (flat (map placed made)) are.shifts (grows_none n) tb change k g i is ∙ ap (λ (name : List ℕ). flag_after s tb change k name i) there }) more so

-- the new table
module _ (s t u : ShelfPages) (n m : NameTable) (tb : TableLists) (change : Change) (set : HeadSet) (is : IsSource s n tb change) (same : set ≡ set_after tb.set change) (cs : List (List Place)) (ms : List (List (Option Place)))
    (are : AreNewColumns s t n m (count_after tb.count change) set.heads (all_values_after s n tb change set.heads (length set.heads)) cs)
    (in' : AreNewMembers t u (count_after tb.count change) (length set.groups) (all_flags_after t tb change set.groups (length set.groups)) ms) where
  abbrev size : ℕ
  size = count_after tb.count change

  made_as : IsTableMade s u n m (record { set = set; columns = cs; members = ms; count = size })
  made_as =
      table_made s t u n m size set _ _ cs ms are in' (subst (λ (x : HeadSet). AreKept (set_bounds x)) (sym same) (after_few s n tb change is)) (after_most s n tb change is)

  rows_as : rows u m (record { set = set; columns = cs; members = ms; count = size }) ≡ rows_after s n tb change
  rows_as =
      rows_made s t u n m size set _ _ cs ms are in'
      ∙ ap (λ (f : ℕ → List Bool). rows_wanted size (all_values_after s n tb change set.heads (length set.heads)) f)
      (λ j i. flags_stay_after s t n m (flat cs) are.shifts are.grows tb change set.groups (length set.groups) i is j)
      ∙ ap (λ (x : HeadSet). rows_wanted size (all_values_after s n tb change x.heads (length x.heads)) (all_flags_after s tb change x.groups (length x.groups))) same

  pub changed_made : (count : ℕ) → count ≡ size → IsTableMade s u n m (record { set = set; columns = cs; members = ms; count = count })
  changed_made count e = subst (λ (k : ℕ). IsTableMade s u n m (record { set = set; columns = cs; members = ms; count = k })) (sym e) made_as

  pub changed_rows : (count : ℕ) → count ≡ size → rows u m (record { set = set; columns = cs; members = ms; count = count }) ≡ rows_after s n tb change
  changed_rows count e = ap (λ (k : ℕ). rows u m (record { set = set; columns = cs; members = ms; count = k })) e ∙ rows_as

-- the members of all groups
pub all_groups : (s t : ShelfPages) (size k : ℕ) (groups all : List (List ℕ)) (f : List (List ℕ) → ℕ → ℕ → List Bool) (made : List (List (Option Place))) → groups ≡ all → k ≡ length all
    → AreNewMembers s t size k (f groups k) made → AreNewMembers s t size (length all) (f all (length all)) made
all_groups s t size k groups all f made same whole are =
    subst (λ (j : ℕ). AreNewMembers s t size j (f all j) made) whole (subst (λ (gs : List (List ℕ)). AreNewMembers s t size k (f gs k) made) same are)
