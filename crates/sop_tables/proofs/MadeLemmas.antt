-- New columns and members that are made one after the other beside the old ones.
use Rattle.std.proofs.Common.{◌≡◌, ℕ, ◌+◌, ◌*◌, ◌^◌, ◌<◌, ◌≤◌, Bool, List, [], ◌∷◌, ◌++◌, length, map, take, get_or, refl, ap, sym, ◌∙◌, subst, arith, length-append}
use Rattle.std.specs.Prelude.{All, Option, Result, Ok, Err, IfOk, OnErr}
use Rattle.std.proofs.lemmas.Bool.Decides.{nat_tests}
use Rattle.std.proofs.lemmas.List.{map-append, take_more, take_all, get_or_read}
use Rattle.std.proofs.lemmas.List.Elements.{All-nil, All-cons, All-append}
use Rattle.sop_model.specs.declared.geo.Head.{Head}
use Rattle.sop_model.specs.declared.geo.HeadSet.{HeadSet}
use Rattle.sop_model.specs.Geometry.{AreKept, set_bounds}
use Rattle.sop_model.specs.declared.value.Value.{Value}
use Rattle.sop_model.specs.Limits.{most_vertices, most_heads, most_groups}
use Rattle.sop_pages.specs.Pages.{count}
use Rattle.sop_pages.specs.Moves.{times}
use Rattle.sop_cells.specs.declared.place.Place.{Place}
use Rattle.sop_cells.specs.declared.place.Place.TheVariants.{Own, Base}
use Rattle.sop_cells.specs.Places.{own}
use Rattle.sop_cells.specs.Shelves.{ShelfPages, Shifts}
use Rattle.sop_cells.proofs.PlaceLemmas.{held-append, shifts_then, shifts_more, stays}
use Rattle.sop_columns.specs.Names.{NameTable, Grows}
use Rattle.sop_columns.specs.Bits.{flag, placed}
use Rattle.sop_columns.proofs.NameLemmas.{grows_none, grows_then}
use Rattle.sop_tables.specs.Transposed.{tabulated, item, row_of}
use Rattle.sop_tables.specs.Tables.{TableLists, flat, held, rows, IsTableMade, IsHeld, HasRoomFor, table_room, AreColumns, AreMembers, IsNoStep}
use Rattle.sop_tables.specs.Changes.{IsNewColumn, AreNewColumns, IsNewMembers, AreNewMembers, rows_wanted}
use Rattle.sop_tables.proofs.TabulatedLemmas.{tabulated-append, tabulated_same}
use Rattle.sop_tables.proofs.RoomLemmas.{few_columns, few_members}
use Rattle.sop_tables.proofs.FlatLemmas.{held_by, flat_last}
use Rattle.sop_tables.proofs.KeptLemmas.{Beside, columns_kept, held_kept, members_kept, all_flags_kept}
use Rattle.sop_tables.proofs.ColumnLemmas.{columns_based, columns_last}
use Rattle.sop_tables.proofs.StepLemmas.{members_based}

-- NO STEP

pub no_shift : (s : ShelfPages) → Shifts s s [] []
no_shift s = stays s s [] refl

pub no_step : (s t : ShelfPages) (n m : NameTable) → t ≡ s → Grows n m → IsNoStep s t n m
no_step s t n m same g = record { shifts = stays s t [] same; grows = g }

pub on_err : {T E P : Type 0} (r : Result T E) → P → OnErr r P
on_err (Ok x) p = tt
on_err (Err e) p = p

pub ok_of : {T E : Type 0} {P : T → Type 0} (r : Result T E) → ((x : T) → r ≡ Ok x → P x) → IfOk r P
ok_of (Ok x) f = f x refl
ok_of (Err e) f = tt

-- what came is let go
pub undone : (s t u : ShelfPages) (come : List Place) → Shifts s t [] come → Shifts t u come [] → Shifts s u [] []
undone s t u come p q = record {
  base = q.base ∙ p.base;
  moves = record {
    counts = λ x. let a = p.moves.counts x in let b = q.moves.counts x in omega arith;
    kept = λ x h. q.moves.kept x (let a = p.moves.counts x in omega arith) ∙ p.moves.kept x h;
  };
}

-- nothing, and then what comes
pub after_none : (s t u : ShelfPages) (come : List Place) → Shifts s t [] [] → Shifts t u [] come → Shifts s u [] come
after_none s t u come p q = shifts_then s t u [] [] [] come p q

pub steps_none : (s t u : ShelfPages) (n m o : NameTable) → IsNoStep s t n m → IsNoStep t u m o → IsNoStep s u n o
steps_none s t u n m o p q = record { shifts = after_none s t u [] p.shifts q.shifts; grows = grows_then n m o p.grows q.grows }

-- what came, and then nothing
pub before_none : (s t u : ShelfPages) (come : List Place) → Shifts s t [] come → Shifts t u [] [] → Shifts s u [] come
before_none s t u come p q = shifts_more s u [] (come ++ []) [] come (shifts_then s t u [] [] come [] p q) (λ x. omega arith) (λ x. let a = held-append x come [] in omega arith)

-- places that came stay while nothing goes
pub still_held : (s t : ShelfPages) (come places : List Place) → Shifts s t [] come → IsHeld s places → IsHeld t places
still_held s t come places p h = record {
  covered = record { each = λ x. let a = p.moves.counts x in let b = h.covered.each x in omega arith };
  based = subst (λ (base : Rattle.sop_pages.specs.Pages.Store). Rattle.sop_cells.specs.Places.AreBased base places) (sym p.base) h.based;
}

-- what is held has pages that stay where nothing goes
pub stays_beside : (s t : ShelfPages) (come : List Place) (n m : NameTable) (places : List Place) → IsHeld s places → Beside s t [] come n m places
stays_beside s t come n m places h = record { free = λ x l. let a = h.covered.each x in omega arith }

tabulated_more : {X : Type 0} (n : ℕ) (f : ℕ → X) → tabulated (n + 1) f ≡ tabulated n f ++ f n ∷ []
tabulated_more n f = tabulated-append n 1 (n + 1) f refl ∙ (let e : n + 0 ≡ n = omega arith in ap (λ (k : ℕ). tabulated n f ++ f k ∷ []) e)

-- FEW PLACES

pub times_few : (x : ℕ) (places : List Place) → times x (own places) ≤ length places
times_few x [] = omega arith
times_few x (Own id ∷ places) = let r = times_few x places in grind (arith, nat_tests)
times_few x (Base id ∷ places) = let r = times_few x places in omega arith

columns_few : (x : ℕ) (s : ShelfPages) (n : NameTable) (size : ℕ) → size ≤ most_vertices → (heads : List Head) (cs : List (List Place)) → AreColumns s n size heads cs → held_by x (flat cs) ≤ 4000 * length heads
columns_few x s n size most heads cs all = let a = few_columns s n size most heads cs all in let b = times_few x (flat cs) in omega arith

members_few : (x : ℕ) (s : ShelfPages) (size : ℕ) (ms : List (List (Option Place))) → All (AreMembers s size) ms → held_by x (flat (map placed ms)) ≤ 32 * length ms
members_few x s size ms all = let a = few_members s size ms all in let b = times_few x (flat (map placed ms)) in omega arith

-- COLUMNS

pub no_columns : (s : ShelfPages) (n : NameTable) (size : ℕ) (made : List (List Place)) → made ≡ [] → AreNewColumns s s n n size [] [] made
no_columns s n size made is = subst (AreNewColumns s s n n size [] []) (sym is) (record { shifts = no_shift s; grows = grows_none n; columns = tt; values = refl })

module _ (s t : ShelfPages) (n m : NameTable) (size : ℕ) (heads : List Head) (wanted : List (List Value)) (made : List (List Place)) (are : AreNewColumns s t n m size heads wanted made) where
  pub columns_held : IsHeld t (flat made)
  columns_held = record { covered = record { each = λ x. let c = are.shifts.moves.counts x in omega arith }; based = columns_based t m size heads made are.columns }

  pub columns_room : size ≤ most_vertices → length heads ≤ most_heads → HasRoomFor s table_room → HasRoomFor t (2 ^ 31)
  columns_room most few room = record { each = λ x. let a = room.each x in let b = columns_few x t m size most heads made are.columns in let c = are.shifts.moves.counts x in omega arith }

  -- the new columns go on
  module _ (u : ShelfPages) (o : NameTable) where
    -- one more
    pub one_more_column : (h : Head) (vs : List Value) (places : List Place) → IsNewColumn t u m o size h vs places → AreNewColumns s u n o size (heads ++ h ∷ []) (wanted ++ vs ∷ []) (made ++ places ∷ [])
    one_more_column h vs places new =
        let beside : Beside t u [] places m o (flat made) = stays_beside t u places m o (flat made) columns_held in
        record {
          shifts = shifts_more s u [] (flat made ++ places) [] (flat (made ++ places ∷ [])) (shifts_then s t u [] [] (flat made) places are.shifts new.shifts)
              (λ x. omega arith) (λ x. let a = flat_last made places x in let b = held-append x (flat made) places in omega arith);
          grows = grows_then n m o are.grows new.grows;
          columns = columns_last u o size heads made h places (columns_kept t u [] places m o new.shifts new.grows size heads made beside are.columns) new.column;
          values =
              map-append (held u o size) made (places ∷ [])
              ∙ (λ j. (held_kept t u [] places m o new.shifts new.grows size heads made beside are.columns ∙ are.values) j ++ new.values j ∷ []);
        }

    -- a step that fails, and all of them are let go
    pub columns_gone : (v : ShelfPages) → IsNoStep t u m o → Shifts u v (flat made) [] → IsNoStep s v n o
    columns_gone v step gone = record { shifts = undone s u v (flat made) (before_none s t u (flat made) are.shifts step.shifts) gone; grows = grows_then n m o are.grows step.grows }

-- the new columns of the first heads, and the next
module _ (s t u : ShelfPages) (n m o : NameTable) (size : ℕ) (heads : List Head) (k : ℕ) (f : ℕ → List Value) (made : List (List Place)) (within : k < length heads) where
  pub next_column : (h other : Head) (places : List Place) → h ≡ get_or heads k h → AreNewColumns s t n m size (take k heads) (tabulated k f) made → IsNewColumn t u m o size h (f k) places → (more : List (List Place)) → more ≡ made ++ places ∷ []
      → AreNewColumns s u n o size (take (k + 1) heads) (tabulated (k + 1) f) more
  next_column h other places at are new more is =
      let e : take (k + 1) heads ≡ take k heads ++ h ∷ [] = take_more heads k other within ∙ ap (λ (g : Head). take k heads ++ g ∷ []) (sym (get_or_read heads k h within at other)) in
      let d = sym (tabulated_more k f) in
      subst (λ (x : List Head). AreNewColumns s u n o size x (tabulated (k + 1) f) more) (sym e)
      (subst (λ (x : List (List Value)). AreNewColumns s u n o size (take k heads ++ h ∷ []) x more) d
      (subst (λ (x : List (List Place)). AreNewColumns s u n o size (take k heads ++ h ∷ []) (tabulated k f ++ f k ∷ []) x) (sym is)
      (one_more_column s t n m size (take k heads) (tabulated k f) made are u o h (f k) places new)))

-- the columns of all heads
pub all_columns : (s t : ShelfPages) (n m : NameTable) (size k : ℕ) (heads all : List Head) (f : List Head → ℕ → List Value) (made : List (List Place)) → heads ≡ all → k ≡ length all
    → AreNewColumns s t n m size (take k heads) (tabulated k (f heads)) made → AreNewColumns s t n m size all (tabulated (length all) (f all)) made
all_columns s t n m size k heads all f made same whole are =
    subst (λ (hs : List Head). AreNewColumns s t n m size hs (tabulated (length all) (f all)) made) (take_all (length all) all (omega arith))
    (subst (λ (j : ℕ). AreNewColumns s t n m size (take j all) (tabulated j (f all)) made) whole
    (subst (λ (hs : List Head). AreNewColumns s t n m size (take k hs) (tabulated k (f hs)) made) same are))

-- MEMBERS

pub no_members : (s : ShelfPages) (size : ℕ) (made : List (List (Option Place))) → made ≡ [] → (f : ℕ → ℕ → Bool) → AreNewMembers s s size 0 (λ i. tabulated 0 (λ k. f k i)) made
no_members s size made is f = subst (AreNewMembers s s size 0 (λ i. tabulated 0 (λ k. f k i))) (sym is) (record { shifts = no_shift s; many = refl; members = All-nil (AreMembers s size); flags = λ i l. refl })

module _ (s t : ShelfPages) (size many : ℕ) (wanted : ℕ → List Bool) (made : List (List (Option Place))) (are : AreNewMembers s t size many wanted made) where
  pub new_members_held : IsHeld t (flat (map placed made))
  new_members_held = record { covered = record { each = λ x. let c = are.shifts.moves.counts x in omega arith }; based = members_based t size made are.members }

  pub members_room : many ≤ most_groups → HasRoomFor s (2 ^ 31) → HasRoomFor t (2 ^ 30)
  members_room few room = record { each = λ x. let a = room.each x in let b = members_few x t size made are.members in let c = are.shifts.moves.counts x in let d = are.many in omega arith }

  module _ (u : ShelfPages) (n : NameTable) where
    -- one more
    pub one_more_group : (f : ℕ → Bool) (places : List (Option Place)) → IsNewMembers t u size f places → AreNewMembers s u size (many + 1) (λ i. wanted i ++ f i ∷ []) (made ++ places ∷ [])
    one_more_group f places new =
        let beside : Beside t u [] (placed places) n n (flat (map placed made)) = stays_beside t u (placed places) n n (flat (map placed made)) new_members_held in
        let split : map placed (made ++ places ∷ []) ≡ map placed made ++ placed places ∷ [] = map-append placed made (places ∷ []) in
        record {
          shifts = shifts_more s u [] (flat (map placed made) ++ placed places) [] (flat (map placed (made ++ places ∷ []))) (shifts_then s t u [] [] (flat (map placed made)) (placed places) are.shifts new.shifts)
              (λ x. omega arith)
              (λ x. let a = flat_last (map placed made) (placed places) x in let b = held-append x (flat (map placed made)) (placed places) in let c = ap (λ (ps : List (List Place)). held_by x (flat ps)) split in omega arith);
          many = let a = length-append made (places ∷ []) in let b = are.many in omega arith;
          members = All-append (AreMembers u size) made (places ∷ []) (members_kept t u [] (placed places) n n new.shifts (grows_none n) size made beside are.members)
              (All-cons (AreMembers u size) places [] new.members (All-nil (AreMembers u size)));
          flags = λ i l.
              let kept = all_flags_kept t u [] (placed places) n n new.shifts (grows_none n) made beside in
              let old = ap (λ (fs : List (ℕ → Bool)). map (λ (has : ℕ → Bool). has i) fs) kept ∙ are.flags i l in
              let now = new.flags i l in
              ap (λ (fs : List (ℕ → Bool)). map (λ (has : ℕ → Bool). has i) fs) (map-append (flag u) made (places ∷ []))
              ∙ map-append (λ (has : ℕ → Bool). has i) (map (flag u) made) (flag u places ∷ [])
              ∙ (λ j. old j ++ now j ∷ []);
        }

    -- a step that fails, and all of them are let go
    pub members_gone : (v : ShelfPages) → Shifts t u [] [] → Shifts u v (flat (map placed made)) [] → Shifts s v [] []
    members_gone v step gone = undone s u v (flat (map placed made)) (before_none s t u (flat (map placed made)) are.shifts step) gone

-- the new members of the first groups, and the next
module _ (s t u : ShelfPages) (n : NameTable) (size k : ℕ) (f : ℕ → ℕ → Bool) (made : List (List (Option Place))) where
  pub next_group : (places : List (Option Place)) → AreNewMembers s t size k (λ i. tabulated k (λ j. f j i)) made → IsNewMembers t u size (f k) places → (more : List (List (Option Place))) → more ≡ made ++ places ∷ []
      → AreNewMembers s u size (k + 1) (λ i. tabulated (k + 1) (λ j. f j i)) more
  next_group places are new more is =
      subst (AreNewMembers s u size (k + 1) (λ i. tabulated (k + 1) (λ j. f j i))) (sym is)
      (let one = one_more_group s t size k (λ i. tabulated k (λ j. f j i)) made are u n (f k) places new in
      record { shifts = one.shifts; many = one.many; members = one.members; flags = λ i l. one.flags i l ∙ sym (tabulated_more k (λ (j : ℕ). f j i)) })

-- A WHOLE TABLE

module _ (s t u : ShelfPages) (n m : NameTable) (size : ℕ) (set : HeadSet) (wanted : List (List Value)) (flags : ℕ → List Bool) (cs : List (List Place)) (ms : List (List (Option Place)))
    (are : AreNewColumns s t n m size set.heads wanted cs) (in' : AreNewMembers t u size (length set.groups) flags ms) where
  abbrev pub new_table : TableLists
  new_table = record { set = set; columns = cs; members = ms; count = size }

  columns_beside : Beside t u [] (flat (map placed ms)) m m (flat cs)
  columns_beside = stays_beside t u (flat (map placed ms)) m m (flat cs) (columns_held s t n m size set.heads wanted cs are)

  pub table_made : AreKept (set_bounds set) → size ≤ most_vertices → IsTableMade s u n m new_table
  table_made few most = record {
    shifts = shifts_then s t u [] [] (flat cs) (flat (map placed ms)) are.shifts in'.shifts;
    grows = are.grows;
    table = record {
      columns = columns_kept t u [] (flat (map placed ms)) m m in'.shifts (grows_none m) size set.heads cs columns_beside are.columns;
      groups = in'.many;
      members = in'.members;
      few = few;
      most = most;
    };
  }

  pub rows_made : rows u m new_table ≡ rows_wanted size wanted flags
  rows_made =
      let vs : map (held u m size) cs ≡ wanted = held_kept t u [] (flat (map placed ms)) m m in'.shifts (grows_none m) size set.heads cs columns_beside are.columns ∙ are.values in
      tabulated_same size (row_of (map (held u m size) cs) (map (flag u) ms)) (λ i. record { values = map (item i) wanted; flags = flags i })
      (λ i l. let a = ap (λ (ws : List (List Value)). map (item i) ws) vs in let b = in'.flags i l in λ j. record { values = a j; flags = b j })
