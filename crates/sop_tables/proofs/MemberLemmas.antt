-- A table where the members of one group are others, or a group comes: it is a table, and its rows.
use Rattle.std.proofs.Common.{length-set, ◌≡◌, ◌≢◌, ℕ, zero, suc, ◌/◌, ◌<◌, ◌≤◌, Bool, false, List, [], ◌∷◌, ◌++◌, length, map, set, get_or, refl, ap, sym, ◌∙◌, arith, length-append}
use Rattle.std.specs.Prelude.{All, Option}
use Rattle.std.proofs.lemmas.List.{length-map, map-append, map-set, get_or-map}
use Rattle.std.proofs.lemmas.List.Elements.{All-nil, All-cons, All-head, All-tail, All-append}
use Rattle.sop_model.specs.Limits.{most_groups}
use Rattle.sop_model.specs.Rows.{changed_at, with_flag, with_last_flag, with_last_group}
use Rattle.sop_pages.specs.Pages.{count}
use Rattle.sop_cells.specs.declared.place.Place.{Place}
use Rattle.sop_cells.specs.Shelves.{ShelfPages, Shifts}
use Rattle.sop_cells.proofs.PlaceLemmas.{held-append, shifts_more, stays}
use Rattle.sop_columns.specs.Names.{NameTable}
use Rattle.sop_columns.specs.Bits.{flag, placed, AreBits}
use Rattle.sop_columns.proofs.NameLemmas.{grows_none}
use Rattle.sop_tables.specs.Transposed.{rows_from}
use Rattle.sop_tables.specs.Tables.{TableLists, flat, places_in, held, rows, members_at, with_members, IsHeld, AreMembers, IsTable, IsTableStep}
use Rattle.sop_tables.proofs.RowLemmas.{none, rows_flag, rows_group}
use Rattle.sop_tables.proofs.FlatLemmas.{held_by, flat_at, flat_set, flat_last}
use Rattle.sop_tables.proofs.KeptLemmas.{flags_kept, Beside, columns_kept, held_kept, members_kept, all_flags_kept}
use Rattle.sop_tables.proofs.StepLemmas.{members_of_at, flag_off}

-- MEMBERS WHERE THOSE OF ONE GROUP ARE OTHERS

module _ (s t : ShelfPages) (n : NameTable) (gone : List Place) (new : List (Option Place)) (shifts : Shifts s t gone (placed new)) (size : ℕ) where
  abbrev Covered : List (List (Option Place)) → Type 0
  Covered ms = (x : ℕ) → held_by x (flat (map placed ms)) ≤ count s.own x

  rest_beside : (p : List (Option Place)) (ms : List (List (Option Place))) → placed p ≡ gone → Covered (p ∷ ms) → Beside s t gone (placed new) n n (flat (map placed ms))
  rest_beside p ms at covered = record { free = λ x l. let a = covered x in let b = held-append x (placed p) (flat (map placed ms)) in let e = ap (held_by x) at in omega arith }

  first_beside : (p : List (Option Place)) (ms : List (List (Option Place))) (k : ℕ) → get_or (map placed ms) k [] ≡ gone → Covered (p ∷ ms) → Beside s t gone (placed new) n n (placed p ++ [])
  first_beside p ms k at covered = record {
    free = λ x l. let a = covered x in let b = held-append x (placed p) (flat (map placed ms)) in let c = held-append x (placed p) [] in let e = ap (held_by x) at in let f = flat_at (map placed ms) k x in omega arith;
  }

  rest_covered : (p : List (Option Place)) (ms : List (List (Option Place))) → Covered (p ∷ ms) → Covered ms
  rest_covered p ms covered x = let a = covered x in let b = held-append x (placed p) (flat (map placed ms)) in omega arith

  pub all_members_set : (ms : List (List (Option Place))) (k : ℕ) → k < length ms → get_or (map placed ms) k [] ≡ gone → Covered ms → All (AreMembers s size) ms → AreMembers t size new → All (AreMembers t size) (set ms k new)
  all_members_set [] k l at covered all made = absurd (omega arith)
  all_members_set (p ∷ ms) zero l at covered all made =
      All-cons (AreMembers t size) new ms made (members_kept s t gone (placed new) n n shifts (grows_none n) size ms (rest_beside p ms at covered) (All-tail (AreMembers s size) p ms all))
  all_members_set (p ∷ ms) (suc k) l at covered all made =
      let here = members_kept s t gone (placed new) n n shifts (grows_none n) size (p ∷ []) (first_beside p ms k at covered) (All-cons (AreMembers s size) p [] (All-head (AreMembers s size) p ms all) (All-nil (AreMembers s size))) in
      All-cons (AreMembers t size) p (set ms k new) (All-head (AreMembers t size) p [] here) (all_members_set ms k (omega arith) at (rest_covered p ms covered) (All-tail (AreMembers s size) p ms all) made)

  pub all_flags_set : (ms : List (List (Option Place))) (k : ℕ) → k < length ms → get_or (map placed ms) k [] ≡ gone → Covered ms → map (flag t) (set ms k new) ≡ set (map (flag s) ms) k (flag t new)
  all_flags_set [] k l at covered = absurd (omega arith)
  all_flags_set (p ∷ ms) zero l at covered =
      let rest = all_flags_kept s t gone (placed new) n n shifts (grows_none n) ms (rest_beside p ms at covered) in λ j. flag t new ∷ rest j
  all_flags_set (p ∷ ms) (suc k) l at covered =
      let here = flags_kept s t gone (placed new) shifts p (λ x h. (first_beside p ms k at covered).free x (let c = held-append x (placed p) [] in omega arith)) in
      let rest = all_flags_set ms k (omega arith) at (rest_covered p ms covered) in
      λ j. (λ i. here i j) ∷ rest j

module _ (s : ShelfPages) (n : NameTable) (tb : TableLists) (is : IsTable s n tb) (hd : IsHeld s (places_in tb)) where
  in_members : (x : ℕ) → held_by x (flat (map placed tb.members)) ≤ count s.own x
  in_members x = let a = held-append x (flat tb.columns) (flat (map placed tb.members)) in let b = hd.covered.each x in omega arith

  module _ (group : ℕ) (there : group < length tb.set.groups) where
    in_many : group < length tb.members
    in_many = let l = is.groups in omega arith

    pub members_of_table : AreMembers s tb.count (members_at tb group)
    members_of_table = members_of_at s tb.count tb.members group in_many is.members

    at : get_or (map placed tb.members) group [] ≡ placed (members_at tb group)
    at = get_or-map placed tb.members group [] [] in_many

    inside : (x : ℕ) → held_by x (placed (members_at tb group)) ≤ held_by x (flat (map placed tb.members))
    inside x = let a = flat_at (map placed tb.members) group x in let e = ap (held_by x) at in omega arith

    pub members_there : AreBits s (members_at tb group)
    members_there = record {
      covered = record { each = λ x. let a = inside x in let b = in_members x in omega arith };
      based = members_of_table.based;
    }

    -- one flag is set
    pub members_set : (t : ShelfPages) (e : ℕ) (on : Bool) (new : List (Option Place)) → e < tb.count → AreBits t new → ((k : ℕ) → length (members_at tb group) ≤ k → e / 131072 < k → length new ≤ k)
        → ((i : ℕ) → i ≢ e → flag t new i ≡ flag s (members_at tb group) i) → AreMembers t tb.count new
    members_set t e on new within bits long others = record {
      based = bits.based;
      off = λ i l. others i (λ q. omega arith) ∙ members_of_table.off i l;
      few = let f = members_of_table.few in let m = is.most in let a = long 31 (omega arith) (omega arith) in omega arith;
    }

    module _ (t : ShelfPages) (new : List (Option Place)) (shifts : Shifts s t (placed (members_at tb group)) (placed new)) where
      columns_beside : Beside s t (placed (members_at tb group)) (placed new) n n (flat tb.columns)
      columns_beside = record { free = λ x l. let a = held-append x (flat tb.columns) (flat (map placed tb.members)) in let b = hd.covered.each x in let c = inside x in omega arith }

      pub members_step : AreMembers t tb.count new → IsTableStep s t n n tb (with_members tb group new)
      members_step made = record {
        shifts = shifts_more s t (placed (members_at tb group)) (placed new) (places_in tb) (places_in (with_members tb group new)) shifts
            (λ x. let a = held-append x (flat tb.columns) (flat (map placed tb.members)) in let c = inside x in omega arith)
            (λ x. let a = held-append x (flat tb.columns) (flat (map placed tb.members)) in let b = held-append x (flat tb.columns) (flat (map placed (set tb.members group new))) in
            let c = flat_set (map placed tb.members) group x (placed new) (let l = length-map tb.members placed in let k = in_many in omega arith) in
            let d = ap (λ (ps : List (List Place)). held_by x (flat ps)) (map-set placed tb.members group new) in let e = ap (held_by x) at in omega arith);
        grows = grows_none n;
        table = record {
          columns = columns_kept s t (placed (members_at tb group)) (placed new) n n shifts (grows_none n) tb.count tb.set.heads tb.columns columns_beside is.columns;
          groups = length-set tb.members group new ∙ is.groups;
          members = all_members_set s t n (placed (members_at tb group)) new shifts tb.count tb.members group in_many at in_members is.members made;
          few = is.few;
          most = is.most;
        };
      }

      pub members_rows : (e : ℕ) (on : Bool) → flag t new e ≡ on → ((i : ℕ) → i ≢ e → flag t new i ≡ flag s (members_at tb group) i) → rows t n (with_members tb group new) ≡ changed_at (with_flag group on) (rows s n tb) e
      members_rows e on here others =
          let a = held_kept s t (placed (members_at tb group)) (placed new) n n shifts (grows_none n) tb.count tb.set.heads tb.columns columns_beside is.columns in
          let f = all_flags_set s t n (placed (members_at tb group)) new shifts tb.count tb.members group in_many at in_members in
          (λ j. rows_from tb.count (a j) (f j))
          ∙ rows_flag (map (held s n tb.count) tb.columns) (map (flag s) tb.members) tb.count group e (flag s (members_at tb group)) (flag t new) on
          (sym (get_or-map (flag s) tb.members group [] none in_many)) here others

-- A GROUP COMES

-- a table with one more group, without members
abbrev pub with_last_members : TableLists → List ℕ → TableLists
with_last_members tb name = record { set = with_last_group tb.set name; columns = tb.columns; members = tb.members ++ [] ∷ []; count = tb.count }

module _ (s : ShelfPages) (n : NameTable) (tb : TableLists) (name : List ℕ) where
  same_places : (x : ℕ) → held_by x (places_in (with_last_members tb name)) ≡ held_by x (places_in tb)
  same_places x =
      let a = held-append x (flat tb.columns) (flat (map placed tb.members)) in let b = held-append x (flat tb.columns) (flat (map placed (tb.members ++ [] ∷ []))) in
      let c = flat_last (map placed tb.members) [] x in let d = ap (λ (ps : List (List Place)). held_by x (flat ps)) (map-append placed tb.members ([] ∷ [])) in omega arith

  pub group_step : IsTable s n tb → length tb.set.groups < most_groups → IsTableStep s s n n tb (with_last_members tb name)
  group_step is few = record {
    shifts = shifts_more s s (places_in tb) (places_in tb) (places_in tb) (places_in (with_last_members tb name)) (stays s s (places_in tb) refl) (λ x. omega arith) (λ x. let a = same_places x in omega arith);
    grows = grows_none n;
    table = record {
      columns = is.columns;
      groups = let a = length-append tb.members ([] ∷ []) in let b = length-append tb.set.groups (name ∷ []) in let c = is.groups in omega arith;
      members = All-append (AreMembers s tb.count) tb.members ([] ∷ []) is.members (All-cons (AreMembers s tb.count) [] [] (record { based = tt; off = λ i l. flag_off s i; few = omega arith }) (All-nil (AreMembers s tb.count)));
      few = (is.few.0, (let a = length-append tb.set.groups (name ∷ []) in omega arith, tt));
      most = is.most;
    };
  }

  pub group_rows : rows s n (with_last_members tb name) ≡ map (with_last_flag false) (rows s n tb)
  group_rows =
      let a = map-append (flag s) tb.members ([] ∷ []) in
      let b : map (flag s) (tb.members ++ [] ∷ []) ≡ map (flag s) tb.members ++ none ∷ [] = a ∙ (λ j. map (flag s) tb.members ++ (λ i. flag_off s i j) ∷ []) in
      ap (λ (ms : List (ℕ → Bool)). rows_from tb.count (map (held s n tb.count) tb.columns) ms) b ∙ rows_group (map (held s n tb.count) tb.columns) (map (flag s) tb.members) tb.count
