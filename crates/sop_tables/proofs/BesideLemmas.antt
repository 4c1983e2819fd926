-- One column, or the members of one group, made beside others: what they hold.
use Rattle.std.proofs.Common.{◌≡◌, ℕ, zero, suc, ◌+◌, ◌*◌, ◌^◌, ◌<◌, ◌≤◌, Bool, false, List, [], ◌∷◌, ◌++◌, length, map, take, drop, replicate, refl, ap, sym, ◌∙◌, subst, arith, append-nil}
use Rattle.std.specs.Prelude.{All, Option, Some, Result, Ok, Err, IfOk, OnOk, pos, slice_index_or, slice_get}
use denote.Bor.{Bor}
use Rattle.sop_tables.specs.declared.changed.Change.{Change}
use Rattle.sop_tables.specs.declared.changed.Change.TheVariants.{Longer, Picked, Appended, Widened}
use Rattle.sop_rows.specs.Both.{more_heads, both_sets}
use Rattle.std.proofs.lemmas.List.{get_or_append_left, length-map, take_all, get_or-take, drop-drop, drop-append-le}
use Rattle.std.proofs.lemmas.List.Elements.{All-append, All-head, All-tail, All-replicate, All-drop}
use Rattle.sop_model.specs.declared.geo.Head.{Head}
use Rattle.sop_model.specs.declared.value.Value.{Value}
use Rattle.sop_model.specs.declared.value.Value.TheVariants as value
use Rattle.sop_model.specs.Values.{default_of}
use Rattle.sop_model.specs.Limits.{most_vertices}
use Rattle.sop_pages.specs.declared.page.TheConstants.{MOST_CELLS}
use Rattle.sop_pages.specs.Pages.{count}
use Rattle.sop_pages.specs.Moves.{times}
use Rattle.sop_cells.specs.declared.place.Place.{Place}
use Rattle.sop_cells.specs.Places.{own}
use Rattle.sop_cells.specs.Shelves.{ShelfPages, column, Shifts}
use Rattle.sop_columns.specs.Names.{NameTable, value_of, Grows}
use Rattle.sop_columns.specs.Values.{values, values_at, Continues, IsColumn}
use Rattle.sop_columns.specs.Bits.{flag, placed, AreBits}
use Rattle.sop_cells.proofs.PlaceLemmas.{held-append}
use Rattle.sop_columns.proofs.NameLemmas.{grows_none}
use Rattle.sop_tables.specs.Transposed.{items_at}
use Rattle.sop_tables.specs.Tables.{TableLists, flat, places_in, held, IsHeld, HasRoomFor, IsColumnOf, AreColumns, AreMembers, IsTable}
use Rattle.sop_tables.specs.Changes.{no_head, head_at, set_after, count_after, values_or, values_after, has_or, flag_after, Fits, IsSource, ArePicks, ComesBehind, ComesBeside, IsNewColumn, IsNewMembers}
use Rattle.sop_tables.proofs.RoomLemmas.{length_placed}
use Rattle.sop_tables.proofs.FlatLemmas.{held_by}
use Rattle.sop_tables.proofs.KeptLemmas.{values_kept, column_of_kept, flags_kept}
use Rattle.sop_tables.proofs.ColumnLemmas.{column_made, column_whole, length-columns}
use Rattle.sop_tables.proofs.MadeLemmas.{times_few, still_held, stays_beside}

-- LISTS

constant : (d : Value) (ws : List Value) (m : ℕ) → All (λ w. w ≡ d) ws → m ≤ length ws → take m ws ≡ replicate m d
constant d ws zero all l = refl
constant d [] (suc m) all l = absurd (omega arith)
constant d (w ∷ ws) (suc m) all l =
    let here = All-head (λ v. v ≡ d) w ws all in let rest = constant d ws m (All-tail (λ v. v ≡ d) w ws all) (omega arith) in λ j. here j ∷ rest j

-- defaults stand behind the first values
pub take_on : (count more k : ℕ) (d : Value) (vs : List Value) → count ≤ length vs → All (λ v. v ≡ d) (drop count vs) → count + more ≤ length (vs ++ replicate k d) → take (count + more) (vs ++ replicate k d) ≡ take count vs ++ replicate more d
take_on zero more k d vs l all enough =
    let e : zero + more ≡ more = omega arith in
    ap (λ (n : ℕ). take n (vs ++ replicate k d)) e ∙ constant d (vs ++ replicate k d) more (All-append (λ v. v ≡ d) vs (replicate k d) all (All-replicate (λ v. v ≡ d) k d refl)) (omega arith)
take_on (suc count) more k d [] l all enough = absurd (omega arith)
take_on (suc count) more k d (v ∷ vs) l all enough =
    let e : suc count + more ≡ suc (count + more) = omega arith in
    ap (λ (n : ℕ). take n (v ∷ (vs ++ replicate k d))) e ∙ ap (λ (r : List Value). v ∷ r) (take_on count more k d vs (omega arith) all (omega arith))

pub spare_on : (count more k : ℕ) (d : Value) (vs : List Value) → count ≤ length vs → All (λ v. v ≡ d) (drop count vs) → All (λ v. v ≡ d) (drop (count + more) (vs ++ replicate k d))
spare_on count more k d vs l all =
    subst (All (λ v. v ≡ d)) (drop-drop more count (vs ++ replicate k d))
    (All-drop (λ v. v ≡ d) more (drop count (vs ++ replicate k d))
    (subst (All (λ v. v ≡ d)) (sym (drop-append-le count vs (replicate k d) l)) (All-append (λ v. v ≡ d) (drop count vs) (replicate k d) all (All-replicate (λ v. v ≡ d) k d refl))))

items_of_first : (count : ℕ) (vs : List Value) (numbers : List ℕ) → All (λ i. i < count) numbers → items_at numbers (take count vs) ≡ values_at vs numbers
items_of_first count vs [] all = refl
items_of_first count vs (i ∷ numbers) all =
    let here = get_or-take count vs i (value.Int (pos 0)) (All-head (λ i. i < count) i numbers all) in
    let rest = items_of_first count vs numbers (All-tail (λ i. i < count) i numbers all) in λ j. here j ∷ rest j

-- FEW PLACES

module _ (s : ShelfPages) (n : NameTable) (size : ℕ) (d : Value) (places : List Place) (is : IsColumnOf s n size d places) where
  pub column_few : size ≤ most_vertices → length places ≤ 4096
  column_few most = let t = is.tight in omega arith

  pub column_is : IsHeld s places → IsColumn s n places
  column_is hd = column_whole s n size d places is hd.covered

pub column_room : (s : ShelfPages) (places : List Place) → length places ≤ 4096 → HasRoomFor s (2 ^ 20) → (id : ℕ) → count s.own id + times id (own places) < 2 ^ 128
column_room s places few room id = let a = room.each id in let b = times_few id places in omega arith

pub column_room_as : (s : ShelfPages) (places made : List Place) → made ≡ places → length places ≤ 4096 → HasRoomFor s (2 ^ 20) → (id : ℕ) → count s.own id + times id (own made) < 2 ^ 128
column_room_as s places made same few room id = let a = column_room s places few room id in let e = ap (λ (ps : List Place). times id (own ps)) same in omega arith

pub group_room : (s : ShelfPages) (places made : List (Option Place)) → made ≡ places → length places ≤ 32 → HasRoomFor s (2 ^ 20) → (id : ℕ) → count s.own id + times id (own (placed made)) < 2 ^ 128
group_room s places made same few room id =
    let a = room.each id in let b = times_few id (placed places) in let c = length_placed places in let e = ap (λ (ps : List (Option Place)). times id (own (placed ps))) same in omega arith

-- MEMBERS

-- flags as they are wanted, and off beyond
pub group_made : (s t : ShelfPages) (size : ℕ) (wanted : ℕ → Bool) (new : List (Option Place)) → size ≤ most_vertices → Shifts s t [] (placed new) → AreBits t new → ((i : ℕ) → i < size → flag t new i ≡ wanted i) → ((i : ℕ) → size ≤ i → flag t new i ≡ false)
    → length new ≤ 31 → IsNewMembers s t size wanted new
group_made s t size wanted new most shifts bits here off few = record { shifts = shifts; members = record { based = bits.based; off = off; few = omega arith }; flags = here }

-- the same members, of no fewer elements
module _ (s t : ShelfPages) (size more : ℕ) (old new : List (Option Place)) (is : AreMembers s size old) (bits : AreBits s old) (same : new ≡ old) (shifts : Shifts s t [] (placed old)) where
  pub shared_group : size ≤ more → IsNewMembers s t more (flag s old) new
  shared_group l =
      let hd : IsHeld s (placed old) = record { covered = bits.covered; based = bits.based } in
      let kept = flags_kept s t [] (placed old) shifts old (λ x h. let a = bits.covered.each x in omega arith) in
      subst (IsNewMembers s t more (flag s old)) (sym same) (record {
        shifts = shifts;
        members = record { based = (still_held s t (placed old) (placed old) shifts hd).based; off = λ i h. kept i ∙ is.off i (omega arith); few = is.few };
        flags = λ i h. kept i;
      })

-- A LONGER COLUMN

module _ (s t : ShelfPages) (n m : NameTable) (size more : ℕ) (h : Head) (old new : List Place) (is : IsColumnOf s n size (default_of h.kind) old) (shifts : Shifts s t [] new) (grows : Grows n m) where
  pub longer_made : IsColumn t m new → Continues (values s n old) (values t m new) (default_of h.kind) → size + more ≤ length (column t new) → MOST_CELLS * length new < size + more + MOST_CELLS
      → IsNewColumn s t n m (size + more) h (held s n size old ++ replicate more (default_of h.kind)) new
  longer_made made goes enough tight =
      let d = default_of h.kind in
      let long = length-map (column s old) (value_of n) in
      let longer = length-map (column t new) (value_of m) in
      let first = is.enough in
      let all = ap (λ (vs : List Value). length vs) goes.is in
      record {
        shifts = shifts;
        grows = grows;
        column = record {
          based = made.kept.based;
          paged = made.kept.paged;
          numbered = made.numbered;
          enough = enough;
          tight = tight;
          spare = subst (λ (vs : List Value). All (λ v. v ≡ d) (drop (size + more) vs)) (sym goes.is) (spare_on size more goes.more d (values s n old) (omega arith) is.spare);
        };
        values = ap (take (size + more)) goes.is ∙ take_on size more goes.more d (values s n old) (omega arith) is.spare (omega arith);
      }

-- the same pages, with cells enough
module _ (s t : ShelfPages) (n : NameTable) (size more : ℕ) (h : Head) (old new : List Place) (is : IsColumnOf s n size (default_of h.kind) old) (hd : IsHeld s old) (same : new ≡ old) (shifts : Shifts s t [] old) where
  pub shared_longer : size + more ≤ length (column s old) → IsNewColumn s t n n (size + more) h (held s n size old ++ replicate more (default_of h.kind)) new
  shared_longer enough =
      let beside = stays_beside s t old n n old hd in
      let now = column_of_kept s t [] old n n shifts (grows_none n) size (default_of h.kind) old beside is in
      let vs = values_kept s t [] old n n shifts (grows_none n) old beside is.numbered in
      let a = length-map (column s old) (value_of n) in let b = length-map (column t old) (value_of n) in let c = ap (λ (ws : List Value). length ws) vs in
      let w = is.tight in
      subst (IsNewColumn s t n n (size + more) h (held s n size old ++ replicate more (default_of h.kind))) (sym same)
      (longer_made s t n n size more h old old is shifts (grows_none n) (column_whole t n size (default_of h.kind) old now (still_held s t old old shifts hd).covered)
      (record { more = 0; is = vs ∙ sym (append-nil (values s n old)) }) (omega arith) (omega arith))

-- PICKED VALUES

module _ (s t : ShelfPages) (n : NameTable) (size : ℕ) (h : Head) (numbers : List ℕ) (old new : List Place) (is : IsColumnOf s n size (default_of h.kind) old) (picks : ArePicks size numbers) (shifts : Shifts s t [] new) where
  pub picked_made : IsColumn t n new → values t n new ≡ values_at (values s n old) numbers → IsNewColumn s t n n (length numbers) h (items_at numbers (held s n size old)) new
  picked_made made vs =
      let a = ap (λ (ws : List Value). length ws) vs in let b = length-map numbers (λ (i : ℕ). slice_index_or (values s n old) i (value.Int (pos 0))) in let c = length-map (column t new) (value_of n) in
      record {
        shifts = shifts;
        grows = grows_none n;
        column = column_made t n (length numbers) (default_of h.kind) new made (omega arith);
        values = take_all (length numbers) (values t n new) (omega arith) ∙ vs ∙ sym (items_of_first size (values s n old) numbers picks.within);
      }

pub picks_within : (s : ShelfPages) (n : NameTable) (size : ℕ) (d : Value) (places : List Place) (numbers : List ℕ) → IsColumnOf s n size d places → ArePicks size numbers → All (λ i. i < length (column s places)) numbers
picks_within s n size d places numbers is picks = λ k e l. let a = picks.within k e l in let b = is.enough in omega arith

-- A COLUMN AND THE MEMBERS OF A GROUP OF A TABLE

pub some_same : {X : Type 0} (x y : X) → Some x ≡ Some y → x ≡ y
some_same x y e = cc

pub column_found : (s : ShelfPages) (n : NameTable) (size : ℕ) (heads : List Head) (cs : List (List Place)) (k : ℕ) (p : List Place) → AreColumns s n size heads cs → slice_get cs k ≡ Some p → IsColumnOf s n size (default_of (head_at heads k).kind) p
column_found s n size [] [] k p all e = absurd cc
column_found s n size [] (c ∷ cs) k p all e = absurd all
column_found s n size (h ∷ heads) [] k p all e = absurd all
column_found s n size (h ∷ heads) (c ∷ cs) zero p all e = subst (IsColumnOf s n size (default_of h.kind)) (some_same c p e) all.0
column_found s n size (h ∷ heads) (c ∷ cs) (suc k) p all e = column_found s n size heads cs k p all.1 e

places_found : (cs : List (List Place)) (k x : ℕ) (p : List Place) → slice_get cs k ≡ Some p → held_by x p ≤ held_by x (flat cs)
places_found [] k x p e = absurd cc
places_found (c ∷ cs) zero x p e = let a = held-append x c (flat cs) in let b = ap (held_by x) (some_same c p e) in omega arith
places_found (c ∷ cs) (suc k) x p e = let a = held-append x c (flat cs) in let r = places_found cs k x p e in omega arith

members_found : (s : ShelfPages) (size : ℕ) (ms : List (List (Option Place))) (k : ℕ) (p : List (Option Place)) → All (AreMembers s size) ms → slice_get ms k ≡ Some p → AreMembers s size p
members_found s size [] k p all e = absurd cc
members_found s size (m ∷ ms) zero p all e = subst (AreMembers s size) (some_same m p e) (All-head (AreMembers s size) m ms all)
members_found s size (m ∷ ms) (suc k) p all e = members_found s size ms k p (All-tail (AreMembers s size) m ms all) e

placed_found : (ms : List (List (Option Place))) (k x : ℕ) (p : List (Option Place)) → slice_get ms k ≡ Some p → held_by x (placed p) ≤ held_by x (flat (map placed ms))
placed_found [] k x p e = absurd cc
placed_found (m ∷ ms) zero x p e = let a = held-append x (placed m) (flat (map placed ms)) in let b = ap (λ (q : List (Option Place)). held_by x (placed q)) (some_same m p e) in omega arith
placed_found (m ∷ ms) (suc k) x p e = let a = held-append x (placed m) (flat (map placed ms)) in let r = placed_found ms k x p e in omega arith

module _ (s : ShelfPages) (n : NameTable) (tb : TableLists) (is : IsTable s n tb) (hd : IsHeld s (places_in tb)) (k : ℕ) where
  module _ (p : List Place) (at : slice_get tb.columns k ≡ Some p) where
    pub table_column : (h : Head) (size : ℕ) → size ≡ tb.count → h ≡ head_at tb.set.heads k → IsColumnOf s n size (default_of h.kind) p
    table_column h size same e =
        subst (λ (c : ℕ). IsColumnOf s n c (default_of h.kind) p) (sym same) (subst (λ (g : Head). IsColumnOf s n tb.count (default_of g.kind) p) (sym e) (column_found s n tb.count tb.set.heads tb.columns k p is.columns at))

    pub table_column_held : IsHeld s p
    table_column_held = record {
      covered = record { each = λ x. let a = hd.covered.each x in let b = held-append x (flat tb.columns) (flat (map placed tb.members)) in let c = places_found tb.columns k x p at in omega arith };
      based = (column_found s n tb.count tb.set.heads tb.columns k p is.columns at).based;
    }

  module _ (p : List (Option Place)) (at : slice_get tb.members k ≡ Some p) where
    pub table_group : AreMembers s tb.count p
    table_group = members_found s tb.count tb.members k p is.members at

    pub table_group_held : AreBits s p
    table_group_held = record {
      covered = record { each = λ x. let a = hd.covered.each x in let b = held-append x (flat tb.columns) (flat (map placed tb.members)) in let c = placed_found tb.members k x p at in omega arith };
      based = table_group.based;
    }

    pub group_few : length p ≤ 32
    group_few = let f = table_group.few in omega arith

-- WHAT IS WANTED OF A COLUMN, CHANGE BY CHANGE

module _ (s : ShelfPages) (n : NameTable) (tb : TableLists) (change : Change) (k : ℕ) (is : IsSource s n tb change) where
  module _ (more : ℕ) (e : change ≡ Longer more) where
    pub longer_fits : (size : ℕ) → size ≡ tb.count → size + more ≤ most_vertices
    longer_fits size same = let f = subst (Fits s n tb) e is.fits in omega arith

    pub longer_number : k < length (set_after tb.set change).heads → k < length tb.columns
    longer_number l = let l' = subst (λ (c : Change). k < length (set_after tb.set c).heads) e l in let a = length-columns s n tb.count tb.set.heads tb.columns is.table.columns in omega arith

    pub longer_head : (h : Head) → h ≡ head_at (set_after tb.set change).heads k → h ≡ head_at tb.set.heads k
    longer_head h at = subst (λ (c : Change). h ≡ head_at (set_after tb.set c).heads k) e at

    longer_wanted : (t : ShelfPages) (m : NameTable) (h : Head) (p new : List Place) (size : ℕ) → size ≡ tb.count → slice_get tb.columns k ≡ Some p
        → IsNewColumn s t n m (size + more) h (held s n size p ++ replicate more (default_of h.kind)) new → IsNewColumn s t n m (count_after tb.count change) h (values_after s n tb change k h) new
    longer_wanted t m h p new size same at first =
        let made = subst (λ (c : ℕ). IsNewColumn s t n m (c + more) h (held s n c p ++ replicate more (default_of h.kind)) new) same first in
        subst (λ (c : Change). IsNewColumn s t n m (count_after tb.count c) h (values_after s n tb c k h) new) (sym e)
        (subst (λ (o : Option (List Place)). IsNewColumn s t n m (tb.count + more) h (values_or s n tb.count (replicate tb.count (default_of h.kind)) o ++ replicate more (default_of h.kind)) new) (sym at) made)

    pub longer_result : {E : Type 0} (r : Result (List Place) E) (t : ShelfPages) (m : NameTable) (h : Head) (p : List Place) (size : ℕ) → size ≡ tb.count → slice_get tb.columns k ≡ Some p
        → IfOk r (IsNewColumn s t n m (size + more) h (held s n size p ++ replicate more (default_of h.kind))) → IfOk r (IsNewColumn s t n m (count_after tb.count change) h (values_after s n tb change k h))
    longer_result (Ok new) t m h p size same at made = longer_wanted t m h p new size same at made
    longer_result (Err x) t m h p size same at made = tt

  module _ (numbers : Bor (List ℕ)) (e : change ≡ Picked numbers) where
    pub picked_fits : (size : ℕ) → size ≡ tb.count → ArePicks size numbers.now
    picked_fits size same = subst (λ (c : ℕ). ArePicks c numbers.now) (sym same) (subst (Fits s n tb) e is.fits)

    pub picked_number : k < length (set_after tb.set change).heads → k < length tb.columns
    picked_number l = let l' = subst (λ (c : Change). k < length (set_after tb.set c).heads) e l in let a = length-columns s n tb.count tb.set.heads tb.columns is.table.columns in omega arith

    pub picked_head : (h : Head) → h ≡ head_at (set_after tb.set change).heads k → h ≡ head_at tb.set.heads k
    picked_head h at = subst (λ (c : Change). h ≡ head_at (set_after tb.set c).heads k) e at

    picked_wanted : (t : ShelfPages) (m : NameTable) (h : Head) (p new : List Place) (size : ℕ) → size ≡ tb.count → slice_get tb.columns k ≡ Some p
        → IsNewColumn s t n m (length numbers.now) h (items_at numbers.now (held s n size p)) new → IsNewColumn s t n m (count_after tb.count change) h (values_after s n tb change k h) new
    picked_wanted t m h p new size same at first =
        let made = subst (λ (c : ℕ). IsNewColumn s t n m (length numbers.now) h (items_at numbers.now (held s n c p)) new) same first in
        subst (λ (c : Change). IsNewColumn s t n m (count_after tb.count c) h (values_after s n tb c k h) new) (sym e)
        (subst (λ (o : Option (List Place)). IsNewColumn s t n m (length numbers.now) h (items_at numbers.now (values_or s n tb.count (replicate tb.count (default_of h.kind)) o)) new) (sym at) made)

    pub picked_result : {E : Type 0} (r : Result (List Place) E) (t : ShelfPages) (m : NameTable) (h : Head) (p : List Place) (size : ℕ) → size ≡ tb.count → slice_get tb.columns k ≡ Some p
        → IfOk r (IsNewColumn s t n m (length numbers.now) h (items_at numbers.now (held s n size p))) → IfOk r (IsNewColumn s t n m (count_after tb.count change) h (values_after s n tb change k h))
    picked_result (Ok new) t m h p size same at made = picked_wanted t m h p new size same at made
    picked_result (Err x) t m h p size same at made = tt

  -- a further table: the first heads are those of before
  module _ (other : TableLists) where
    both_head : (h : Head) → h ≡ head_at (both_sets tb.set other.set).heads k → k < length tb.columns → h ≡ head_at tb.set.heads k
    both_head h at within =
        let many = length-columns s n tb.count tb.set.heads tb.columns is.table.columns in
        at ∙ get_or_append_left tb.set.heads (more_heads tb.set other.set) no_head k (omega arith)

  module _ (other : Bor TableLists) where
    pub appended_head : (h : Head) → change ≡ Appended other → h ≡ head_at (set_after tb.set change).heads k → k < length tb.columns → h ≡ head_at tb.set.heads k
    appended_head h e at = both_head other.now h (subst (λ (c : Change). h ≡ head_at (set_after tb.set c).heads k) e at)

    pub widened_head : (h : Head) → change ≡ Widened other → h ≡ head_at (set_after tb.set change).heads k → k < length tb.columns → h ≡ head_at tb.set.heads k
    widened_head h e at = both_head other.now h (subst (λ (c : Change). h ≡ head_at (set_after tb.set c).heads k) e at)

    pub appended_fits : change ≡ Appended other → ComesBehind s n tb other.now
    appended_fits e = subst (Fits s n tb) e is.fits

    pub widened_fits : change ≡ Widened other → ComesBeside s n tb other.now
    widened_fits e = subst (Fits s n tb) e is.fits

-- MEMBERS, CHANGE BY CHANGE

module _ (s : ShelfPages) (n : NameTable) (tb : TableLists) (change : Change) (k : ℕ) (is : IsSource s n tb change) where
  module _ (more : ℕ) (e : change ≡ Longer more) where
    pub longer_group : k < length (set_after tb.set change).groups → k < length tb.members
    longer_group l = let l' = subst (λ (c : Change). k < length (set_after tb.set c).groups) e l in let g = is.table.groups in omega arith

    pub longer_members : {E : Type 0} (r : Result (List (Option Place)) E) (t : ShelfPages) (name : List ℕ) (p : List (Option Place)) → slice_get tb.members k ≡ Some p → IfOk r (λ new. new ≡ p) → OnOk r (Shifts s t [] (placed p))
        → IfOk r (IsNewMembers s t (count_after tb.count change) (flag_after s tb change k name))
    longer_members (Ok new) t name p at same shifts =
        let made = shared_group s t tb.count (tb.count + more) p new (table_group s n tb is.table is.held k p at) (table_group_held s n tb is.table is.held k p at) same shifts (omega arith) in
        subst (λ (c : Change). IsNewMembers s t (count_after tb.count c) (flag_after s tb c k name) new) (sym e)
        (subst (λ (o : Option (List (Option Place))). IsNewMembers s t (tb.count + more) (λ i. has_or s o i) new) (sym at) made)
    longer_members (Err x) t name p at same shifts = tt

  module _ (numbers : Bor (List ℕ)) (e : change ≡ Picked numbers) where
    pub picked_group : k < length (set_after tb.set change).groups → k < length tb.members
    picked_group l = let l' = subst (λ (c : Change). k < length (set_after tb.set c).groups) e l in let g = is.table.groups in omega arith

    pub picked_members : {E : Type 0} (r : Result (List (Option Place)) E) (t : ShelfPages) (name : List ℕ) (p : List (Option Place)) → slice_get tb.members k ≡ Some p → IfOk r (IsNewMembers s t (length numbers.now) (λ i. flag s p (slice_index_or numbers.now i 0)))
        → IfOk r (IsNewMembers s t (count_after tb.count change) (flag_after s tb change k name))
    picked_members (Ok new) t name p at made =
        subst (λ (c : Change). IsNewMembers s t (count_after tb.count c) (flag_after s tb c k name) new) (sym e)
        (subst (λ (o : Option (List (Option Place))). IsNewMembers s t (length numbers.now) (λ i. has_or s o (slice_index_or numbers.now i 0)) new) (sym at) made)
    picked_members (Err x) t name p at made = tt

-- LESS ROOM

pub less_room : (s : ShelfPages) (a b : ℕ) → b ≤ a → HasRoomFor s a → HasRoomFor s b
less_room s a b l room = record { each = λ id. let r = room.each id in omega arith }

-- room that is left behind a column that came
pub room_after : (s t : ShelfPages) (come : List Place) (a b : ℕ) → Shifts s t [] come → length come ≤ 4096 → b + 4096 ≤ a → HasRoomFor s a → HasRoomFor t b
room_after s t come a b shifts few l room = record { each = λ id. let r = room.each id in let c = shifts.moves.counts id in let d = times_few id come in omega arith }
