-- What stands under a name, by the number of the head or group that has it.
use Rattle.std.proofs.Common.{◌≡◌, ℕ, zero, suc, ◌+◌, ◌<◌, ◌≤◌, Bool, true, false, List, [], ◌∷◌, ◌++◌, length, map, take, get_or, replicate, cond, append-nil, refl, ap, sym, ◌∙◌, subst, arith}
use Rattle.std.specs.Prelude.{nat_le, IsTrue, All, Option, Some, None, pos, position, filter, slice_get, unwrap_or, if◌then◌else◌}
use Rattle.std.specs.Option.{option_map, option_and_then}
use Rattle.std.specs.List.{list_any}
use Rattle.std.specs.Str.{bytes_eq}
use Rattle.std.proofs.lemmas.Bool.{or_parts}
use Rattle.std.proofs.lemmas.Bool.Decides.{nat_tests}
use Rattle.std.proofs.lemmas.Option.{slice_get-map, slice_get-get_or}
use Rattle.std.proofs.lemmas.List.{length-map}
use Rattle.std.proofs.lemmas.List.Quantifiers.{position-Some}
use Rattle.std.proofs.lemmas.List.Elements.{All-from_get_or, filter-append}
use Rattle.sop_model.specs.declared.geo.Head.{Head}
use Rattle.sop_model.specs.declared.value.Value.{Value}
use Rattle.sop_model.specs.declared.value.Value.TheVariants as value
use Rattle.sop_model.specs.Values.{kind_of, default_of}
use Rattle.sop_rows.proofs.HeadLemmas.{none_from_position}
use Rattle.sop_cells.specs.declared.place.Place.{Place}
use Rattle.sop_cells.specs.Shelves.{ShelfPages}
use Rattle.sop_columns.specs.Names.{NameTable}
use Rattle.sop_columns.specs.Bits.{flag, AreBits}
use Rattle.sop_columns.specs.Fitted.{fitted_to}
use Rattle.sop_tables.specs.Transposed.{item, row_of, column_under, fitted_column, members_under}
use Rattle.sop_tables.specs.Tables.{TableLists, places_in, held, IsHeld, AreMembers, IsTable}
use Rattle.sop_tables.specs.Changes.{no_head, head_at, has_or, first_flag, values_under, flag_named, IsOther}
use Rattle.sop_tables.proofs.TabulatedLemmas.{length-tabulated, get_or-tabulated}
use Rattle.sop_tables.proofs.ColumnLemmas.{length-columns, length-held}
use Rattle.sop_tables.proofs.BesideLemmas.{column_found, table_group, table_group_held}
use Rattle.sop_tables.proofs.StepLemmas.{flag_off}
use Rattle.sop_tables.proofs.FreshLemmas.{first_more}

-- COLUMNS BY THE NAMES OF THEIR HEADS

module _ (name : List ℕ) where
  column_first : (heads : List Head) (cs : List (List Value)) (k : ℕ) → length cs ≡ length heads → k < length heads → bytes_eq (get_or heads k no_head).name name ≡ true
      → ((j : ℕ) → j < k → bytes_eq (get_or heads j no_head).name name ≡ false) → column_under heads cs name ≡ slice_get cs k
  column_first [] cs k long within here before = absurd (omega arith)
  column_first (h ∷ heads) [] k long within here before = absurd (omega arith)
  column_first (h ∷ heads) (vs ∷ cs) zero long within here before = ap (λ (b : Bool). if b then Some vs else column_under heads cs name) here
  column_first (h ∷ heads) (vs ∷ cs) (suc k) long within here before =
      ap (λ (b : Bool). if b then Some vs else column_under heads cs name) (before 0 (omega arith))
      ∙ column_first heads cs k (omega arith) (omega arith) here (λ j l. before (suc j) (omega arith))

  column_none : (heads : List Head) (cs : List (List Value)) → list_any (λ h. bytes_eq h.name name) heads ≡ false → column_under heads cs name ≡ None
  column_none [] cs none = refl
  column_none (h ∷ heads) [] none = refl
  column_none (h ∷ heads) (vs ∷ cs) none =
      let both = or_parts (bytes_eq h.name name) (list_any (λ k. bytes_eq k.name name) heads) none in
      ap (λ (b : Bool). if b then Some vs else column_under heads cs name) both.0 ∙ column_none heads cs both.1

  -- MEMBERS BY THE NAMES OF THEIR GROUPS

  members_first : (groups : List (List ℕ)) (ms : List (ℕ → Bool)) (has : ℕ → Bool) (k i : ℕ) → bytes_eq (get_or groups k []) name ≡ true
      → ((j : ℕ) → j < k → bytes_eq (get_or groups j []) name ≡ false) → k < length groups → slice_get ms k ≡ Some has → members_under groups ms name i ≡ has i
  members_first [] ms has k i here before within at = absurd (omega arith)
  members_first (g ∷ groups) [] has k i here before within at = cc
  members_first (g ∷ groups) (on ∷ ms) has zero i here before within at =
      let same : on ≡ has = cc in
      ap (λ (b : Bool). if b then on i else members_under groups ms name i) here ∙ ap (λ (f : ℕ → Bool). f i) same
  members_first (g ∷ groups) (on ∷ ms) has (suc k) i here before within at =
      ap (λ (b : Bool). if b then on i else members_under groups ms name i) (before 0 (omega arith))
      ∙ members_first groups ms has k i here (λ j l. before (suc j) (omega arith)) (omega arith) at

  members_none : (groups : List (List ℕ)) (ms : List (ℕ → Bool)) (i : ℕ) → list_any (λ g. bytes_eq g name) groups ≡ false → members_under groups ms name i ≡ false
  members_none [] ms i none = refl
  members_none (g ∷ groups) [] i none = refl
  members_none (g ∷ groups) (has ∷ ms) i none =
      let both = or_parts (bytes_eq g name) (list_any (λ k. bytes_eq k name) groups) none in
      ap (λ (b : Bool). if b then has i else members_under groups ms name i) both.0 ∙ members_none groups ms i both.1

-- THE SAME OF A TABLE

module _ (s : ShelfPages) (n : NameTable) (tb : TableLists) (is : IsTable s n tb) where
  pub values_found : (h : Head) (k : ℕ) (p : List Place) → position (λ g. bytes_eq g.name h.name) tb.set.heads ≡ Some k → slice_get tb.columns k ≡ Some p → values_under s n tb h ≡ map (fitted_to h.kind) (held s n tb.count p)
  values_found h k p found at =
      let it = position-Some (λ (g : Head). bytes_eq g.name h.name) tb.set.heads k no_head found in
      let long = length-map tb.columns (held s n tb.count) in let many = length-columns s n tb.count tb.set.heads tb.columns is.columns in
      ap (fitted_column tb.count h) (column_first h.name tb.set.heads (map (held s n tb.count) tb.columns) k (omega arith) it.0 it.1 it.2 ∙ slice_get-map (held s n tb.count) tb.columns k ∙ ap (option_map (held s n tb.count)) at)

  pub values_missing : (h : Head) → position (λ g. bytes_eq g.name h.name) tb.set.heads ≡ None → values_under s n tb h ≡ replicate tb.count (default_of h.kind)
  values_missing h missing = ap (fitted_column tb.count h) (column_none h.name tb.set.heads (map (held s n tb.count) tb.columns) (none_from_position (λ (g : Head). bytes_eq g.name h.name) tb.set.heads missing))

  pub flag_found : (name : List ℕ) (k i : ℕ) (p : List (Option Place)) → position (λ g. bytes_eq g name) tb.set.groups ≡ Some k → slice_get tb.members k ≡ Some p → flag_named s tb name i ≡ flag s p i
  flag_found name k i p found at =
      let it = position-Some (λ (g : List ℕ). bytes_eq g name) tb.set.groups k [] found in
      members_first name tb.set.groups (map (flag s) tb.members) (flag s p) k i it.1 it.2 it.0 (slice_get-map (flag s) tb.members k ∙ ap (option_map (flag s)) at)

  pub flag_missing : (name : List ℕ) (i : ℕ) → position (λ g. bytes_eq g name) tb.set.groups ≡ None → flag_named s tb name i ≡ false
  flag_missing name i missing = members_none name tb.set.groups (map (flag s) tb.members) i (none_from_position (λ (g : List ℕ). bytes_eq g name) tb.set.groups missing)

  -- what was found is there
  pub head_within : (name : List ℕ) (k : ℕ) → position (λ g. bytes_eq g.name name) tb.set.heads ≡ Some k → k < length tb.set.heads
  head_within name k found = (position-Some (λ (g : Head). bytes_eq g.name name) tb.set.heads k no_head found).0

  pub place_within : (name : List ℕ) (k : ℕ) → position (λ g. bytes_eq g.name name) tb.set.heads ≡ Some k → k < length tb.columns
  place_within name k found = let l = head_within name k found in let many = length-columns s n tb.count tb.set.heads tb.columns is.columns in omega arith

  pub group_within : (name : List ℕ) (k : ℕ) → position (λ g. bytes_eq g name) tb.set.groups ≡ Some k → k < length tb.members
  group_within name k found = let it = position-Some (λ (g : List ℕ). bytes_eq g name) tb.set.groups k [] found in let many = is.groups in let l = it.0 in omega arith

-- KINDS

kind_at : (cs : List (List Value)) (heads : List Head) (i k : ℕ) (vs : List Value) → map kind_of (map (item i) cs) ≡ map (λ h. h.kind) heads → slice_get cs k ≡ Some vs → kind_of (item i vs) ≡ (head_at heads k).kind
kind_at [] heads i k vs kinds at = cc
kind_at (c ∷ cs) [] i k vs kinds at = cc
kind_at (c ∷ cs) (h ∷ heads) i zero vs kinds at = cc
kind_at (c ∷ cs) (h ∷ heads) i (suc k) vs kinds at = let rest : map kind_of (map (item i) cs) ≡ map (λ g. g.kind) heads = cc in kind_at cs heads i k vs rest at

-- the values of a column are of the kind of its head
pub column_kinds : (s : ShelfPages) (n : NameTable) (tb : TableLists) → IsOther s n tb → (k : ℕ) (p : List Place) → slice_get tb.columns k ≡ Some p → All (λ v. kind_of v ≡ (head_at tb.set.heads k).kind) (held s n tb.count p)
column_kinds s n tb is k p at =
    let cs = map (held s n tb.count) tb.columns in
    let members = map (flag s) tb.members in
    let column = column_found s n tb.count tb.set.heads tb.columns k p is.table.columns at in
    let long = length-held s n tb.count (default_of (head_at tb.set.heads k).kind) p column in
    let there : slice_get cs k ≡ Some (held s n tb.count p) = slice_get-map (held s n tb.count) tb.columns k ∙ ap (option_map (held s n tb.count)) at in
    All-from_get_or (λ v. kind_of v ≡ (head_at tb.set.heads k).kind) (held s n tb.count p) (value.Int (pos 0)) (λ i l.
    let many = length-tabulated tb.count (row_of cs members) in
    let row = is.kinds i (row_of cs members i) (omega arith) in
    let at_row = get_or-tabulated tb.count i (row_of cs members) (row_of cs members i) (omega arith) in
    kind_at cs tb.set.heads i k (held s n tb.count p) (subst (λ r. map kind_of r.values ≡ map (λ (h : Head). h.kind) tb.set.heads) at_row row.kinds) there)

-- MEMBERS BY NUMBER AND BY NAME

-- members of a group of a table, and which elements they are
pub record IsGroup (s : ShelfPages) (size : ℕ) (has : ℕ → Bool) (places : List (Option Place)) : Type 0 where
  pub members : AreMembers s size places
  pub bits : AreBits s places
  pub flags : (i : ℕ) → flag s places i ≡ has i

none_group : (s : ShelfPages) (size : ℕ) (has : ℕ → Bool) → ((i : ℕ) → has i ≡ false) → IsGroup s size has []
none_group s size has off = record {
  members = record { based = tt; off = λ i l. flag_off s i; few = omega arith };
  bits = record { covered = record { each = λ x. omega arith }; based = tt };
  flags = λ i. flag_off s i ∙ sym (off i);
}

module _ (s : ShelfPages) (n : NameTable) (tb : TableLists) (is : IsTable s n tb) (hd : IsHeld s (places_in tb)) where
  group_at_place : (k : ℕ) (o : Option (List (Option Place))) → slice_get tb.members k ≡ o → IsGroup s tb.count (has_or s o) (unwrap_or o [])
  group_at_place k None e = none_group s tb.count (has_or s None) (λ i. refl)
  group_at_place k (Some q) e = record { members = table_group s n tb is hd k q e; bits = table_group_held s n tb is hd k q e; flags = λ i. refl }

  pub first_group : (k : ℕ) (places : List (Option Place)) → places ≡ unwrap_or (slice_get tb.members k) [] → IsGroup s tb.count (first_flag s tb k) places
  first_group k places same = subst (IsGroup s tb.count (first_flag s tb k)) (sym same) (group_at_place k (slice_get tb.members k) refl)

  named_at : (name : List ℕ) (o : Option ℕ) → position (λ g. bytes_eq g name) tb.set.groups ≡ o → IsGroup s tb.count (flag_named s tb name) (unwrap_or (option_and_then (slice_get tb.members) o) [])
  named_at name None e = none_group s tb.count (flag_named s tb name) (λ i. flag_missing s n tb is name i e)
  named_at name (Some k) e =
      let there = slice_get-get_or tb.members k [] (group_within s n tb is name k e) in
      let it = group_at_place k (Some (get_or tb.members k [])) there in
      subst (λ (o : Option (List (Option Place))). IsGroup s tb.count (flag_named s tb name) (unwrap_or o [])) (sym there)
      (record { members = it.members; bits = it.bits; flags = λ i. sym (flag_found s n tb is name k i (get_or tb.members k []) e there) })

  pub named_group : (name : List ℕ) (places : List (Option Place)) → places ≡ unwrap_or (option_and_then (slice_get tb.members) (position (λ g. bytes_eq g name) tb.set.groups)) [] → IsGroup s tb.count (flag_named s tb name) places
  named_group name places same = subst (IsGroup s tb.count (flag_named s tb name)) (sym same) (named_at name (position (λ g. bytes_eq g name) tb.set.groups) refl)

-- FILTERS, ITEM BY ITEM

pub filter_next : {X : Type 0} (p : X → Bool) (xs : List X) (k : ℕ) (x : X) → k < length xs → x ≡ get_or xs k x → p x ≡ true → filter p (take (k + 1) xs) ≡ filter p (take k xs) ++ x ∷ []
filter_next p xs k x within at passes = ap (filter p) (first_more xs k x within at) ∙ filter-append p (take k xs) (x ∷ []) ∙ ap (λ (b : Bool). filter p (take k xs) ++ cond b (x ∷ []) []) passes

pub filter_skipped : {X : Type 0} (p : X → Bool) (xs : List X) (k : ℕ) (x : X) → k < length xs → x ≡ get_or xs k x → p x ≡ false → filter p (take (k + 1) xs) ≡ filter p (take k xs)
filter_skipped p xs k x within at fails = ap (filter p) (first_more xs k x within at) ∙ filter-append p (take k xs) (x ∷ []) ∙ ap (λ (b : Bool). filter p (take k xs) ++ cond b (x ∷ []) []) fails ∙ append-nil (filter p (take k xs))

-- NUMBERS COMPARED

pub le_true : (x m : ℕ) → x ≤ m → IsTrue (nat_le x m)
le_true x m l = grind (arith, nat_tests)

pub true_le : (x m : ℕ) → IsTrue (nat_le x m) → x ≤ m
true_le x m t = grind (arith, nat_tests, t)
