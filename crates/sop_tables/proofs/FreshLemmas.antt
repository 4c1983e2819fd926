-- Columns made one after the other beside those that a shelf has, and the new table of them.
use Rattle.std.proofs.Common.{◌≡◌, ℕ, zero, suc, pos, ◌+◌, ◌<◌, ◌≤◌, Bool, false, List, [], ◌∷◌, ◌++◌, length, map, take, get_or, replicate, refl, ap, sym, ◌∙◌, subst, arith, append-nil}
use Rattle.std.specs.Prelude.{All}
use Rattle.std.proofs.lemmas.List.{length-map, length-replicate, get_or-map, get_or-replicate, map-append, take_more}
use Rattle.std.proofs.lemmas.List.Elements.{All-nil, All-cons}
use Rattle.sop_model.specs.declared.geo.Head.{Head}
use Rattle.sop_model.specs.declared.geo.HeadSet.{HeadSet}
use Rattle.sop_model.specs.declared.value.Value.{Value}
use Rattle.sop_model.specs.declared.value.Value.TheVariants as value
use Rattle.sop_model.specs.Values.{default_of}
use Rattle.sop_model.specs.Limits.{most_vertices}
use Rattle.sop_model.specs.Geometry.{AreKept, set_bounds}
use Rattle.sop_model.specs.Rows.{default_row}
use Rattle.sop_cells.specs.declared.place.Place.{Place}
use Rattle.sop_cells.specs.Places.{AreBased}
use Rattle.sop_cells.specs.Shelves.{ShelfPages, Shifts}
use Rattle.sop_cells.proofs.PlaceLemmas.{held-append, based-append, based_beside, shifts_then, stays}
use Rattle.sop_columns.specs.Names.{NameTable, Grows}
use Rattle.sop_columns.specs.Bits.{flag, placed}
use Rattle.sop_columns.proofs.NameLemmas.{grows_none, grows_then}
use Rattle.sop_tables.specs.Transposed.{item, row_of, rows_from, filled_each}
use Rattle.sop_tables.specs.Tables.{TableLists, flat, held, rows, IsHeld, IsColumnOf, AreMembers, IsTableMade, IsNoStep}
use Rattle.sop_tables.specs.Fresh.{AreBeside, AreMade}
use Rattle.sop_tables.proofs.TabulatedLemmas.{tabulated_replicate}
use Rattle.sop_tables.proofs.FlatLemmas.{flat_joined}
use Rattle.sop_tables.proofs.KeptLemmas.{Beside, columns_kept, held_kept}
use Rattle.sop_tables.proofs.ColumnLemmas.{columns_last}
use Rattle.sop_tables.proofs.StepLemmas.{flag_off}
use Rattle.sop_tables.proofs.SwapLemmas.{undone_shifts}

pub none_beside : (s : ShelfPages) (n : NameTable) → AreBeside s s n n []
none_beside s n = record { shifts = stays s s [] refl; held = record { covered = record { each = λ x. omega arith }; based = tt }; grows = grows_none n }

pub none_made : (s : ShelfPages) (n : NameTable) (size : ℕ) → AreMade s s n n size [] [] []
none_made s n size = record { beside = none_beside s n; columns = tt; values = refl }

-- names may come
pub beside_grows : (s a : ShelfPages) (n m k : NameTable) (cs : List (List Place)) → AreBeside s a n m cs → Grows m k → AreBeside s a n k cs
beside_grows s a n m k cs b g = record { shifts = b.shifts; held = b.held; grows = grows_then n m k b.grows g }

-- what was made is let go again
pub beside_undone : (s a t : ShelfPages) (n m : NameTable) (cs : List (List Place)) → AreBeside s a n m cs → Shifts a t (flat cs) [] → IsNoStep s t n m
beside_undone s a t n m cs b gone = record { shifts = undone_shifts s a t (flat cs) b.shifts gone; grows = b.grows }

-- one column more
module _ (s a t : ShelfPages) (n m k : NameTable) (cs : List (List Place)) (c : List Place) (shifts : Shifts a t [] c) (grows : Grows m k) where
  last_is : flat (cs ++ c ∷ []) ≡ flat cs ++ c
  last_is = flat_joined cs (c ∷ []) ∙ ap (λ (places : List Place). flat cs ++ places) (append-nil c)

  pub beside_more : AreBased t.base c → AreBeside s a n m cs → AreBeside s t n k (cs ++ c ∷ [])
  beside_more based b = record {
    shifts = subst (λ (places : List Place). Shifts s t [] places) (sym last_is) (shifts_then s a t [] [] (flat cs) c b.shifts shifts);
    held = subst (IsHeld t) (sym last_is) (record {
      covered = record { each = λ x. let p = b.held.covered.each x in let q = shifts.moves.counts x in let r = held-append x (flat cs) c in omega arith };
      based = based-append t.base (flat cs) c (based_beside a t [] c (flat cs) shifts b.held.based) based;
    });
    grows = grows_then n m k b.grows grows;
  }

  pub made_more : (size : ℕ) (heads : List Head) (vs : List (List Value)) (h : Head) (v : List Value) → AreMade s a n m size heads vs cs → IsColumnOf t k size (default_of h.kind) c → held t k size c ≡ v
      → AreMade s t n k size (heads ++ h ∷ []) (vs ++ v ∷ []) (cs ++ c ∷ [])
  made_more size heads vs h v made is same =
      let free : Beside a t [] c m k (flat cs) = record { free = λ x l. let p = made.beside.held.covered.each x in omega arith } in
      let before = held_kept a t [] c m k shifts grows size heads cs free made.columns ∙ made.values in
      record {
        beside = beside_more is.based made.beside;
        columns = columns_last t k size heads cs h c (columns_kept a t [] c m k shifts grows size heads cs free made.columns) is;
        values = map-append (held t k size) cs (c ∷ []) ∙ (λ j. before j ++ same j ∷ []);
      }

pub made_as : (s t : ShelfPages) (n m : NameTable) (size : ℕ) (heads heads' : List Head) (vs vs' : List (List Value)) (cs cs' : List (List Place)) → heads ≡ heads' → vs ≡ vs' → cs ≡ cs' → AreMade s t n m size heads vs cs → AreMade s t n m size heads' vs' cs'
made_as s t n m size heads heads' vs vs' cs cs' eh ev ec made =
    subst (λ (hs : List Head). AreMade s t n m size hs vs' cs') eh (subst (λ (ws : List (List Value)). AreMade s t n m size heads ws cs') ev (subst (AreMade s t n m size heads vs) ec made))

-- one more of a list
pub first_more : {X : Type 0} (xs : List X) (k : ℕ) (x : X) → k < length xs → x ≡ get_or xs k x → take (k + 1) xs ≡ take k xs ++ x ∷ []
first_more xs k x l at = take_more xs k x l ∙ ap (λ y. take k xs ++ y ∷ []) (sym at)

-- the columns of defaults of some heads
abbrev pub defaults_of : ℕ → List Head → List (List Value)
defaults_of size heads = filled_each size (map (λ (h : Head). default_of h.kind) heads)

pub default_more : (size : ℕ) (heads : List Head) (k : ℕ) (h : Head) → k < length heads → h ≡ get_or heads k h → take (k + 1) (defaults_of size heads) ≡ take k (defaults_of size heads) ++ replicate size (default_of h.kind) ∷ []
default_more size heads k h l at =
    let ds = map (λ (g : Head). default_of g.kind) heads in
    let a = length-map heads (λ (g : Head). default_of g.kind) in
    let b = length-map ds (replicate size) in
    first_more (filled_each size ds) k (replicate size (default_of h.kind)) (omega arith)
    (ap (λ (g : Head). replicate size (default_of g.kind)) at
    ∙ ap (replicate size) (sym (get_or-map (λ (g : Head). default_of g.kind) heads k h (default_of h.kind) l))
    ∙ sym (get_or-map (replicate size) ds k (default_of h.kind) (replicate size (default_of h.kind)) (omega arith)))

pub no_step : (s : ShelfPages) (n : NameTable) → IsNoStep s s n n
no_step s n = record { shifts = stays s s [] refl; grows = grows_none n }

-- THE NEW TABLE

no_places : (n : ℕ) → flat (map placed (replicate n [])) ≡ []
no_places zero = refl
no_places (suc n) = no_places n

no_members : (t : ShelfPages) (size n : ℕ) → All (AreMembers t size) (replicate n [])
no_members t size zero = All-nil (AreMembers t size)
no_members t size (suc n) = All-cons (AreMembers t size) [] (replicate n []) (record { based = tt; off = λ i l. flag_off t i; few = omega arith }) (no_members t size n)

flags_none : (t : ShelfPages) (i : ℕ) (groups : List (List ℕ)) → map (λ (has : ℕ → Bool). has i) (map (flag t) (replicate (length groups) [])) ≡ map (λ group. false) groups
flags_none t i [] = refl
flags_none t i (g ∷ groups) = let here = flag_off t i in let rest = flags_none t i groups in λ j. here j ∷ rest j

pub values_filled : (n i : ℕ) → i < n → (ds : List Value) → map (item i) (filled_each n ds) ≡ ds
values_filled n i l [] = refl
values_filled n i l (d ∷ ds) = let here = get_or-replicate n i d (value.Int (pos 0)) l in let rest = values_filled n i l ds in λ j. here j ∷ rest j

module _ (s t : ShelfPages) (n m : NameTable) (set : HeadSet) (size : ℕ) (cs : List (List Place)) (few : AreKept (set_bounds set)) (most : size ≤ most_vertices)
    (made : AreMade s t n m size set.heads (filled_each size (map (λ (h : Head). default_of h.kind) set.heads)) cs) where
  abbrev pub new_table : TableLists
  new_table = record { set = set; columns = cs; members = replicate (length set.groups) []; count = size }

  pub new_made : IsTableMade s t n m new_table
  new_made = record {
    shifts = subst (λ (places : List Place). Shifts s t [] places) (sym (ap (λ (places : List Place). flat cs ++ places) (no_places (length set.groups)) ∙ append-nil (flat cs))) made.beside.shifts;
    grows = made.beside.grows;
    table = record {
      columns = made.columns;
      groups = length-replicate (length set.groups) [];
      members = no_members t size (length set.groups);
      few = few;
      most = most;
    };
  }

  pub new_rows : rows t m new_table ≡ replicate size (default_row set)
  new_rows =
      ap (λ (vs : List (List Value)). rows_from size vs (map (flag t) (replicate (length set.groups) []))) made.values
      ∙ tabulated_replicate size (row_of (filled_each size (map (λ (h : Head). default_of h.kind) set.heads)) (map (flag t) (replicate (length set.groups) []))) (default_row set)
      (λ i l. let a = values_filled size i l (map (λ (h : Head). default_of h.kind) set.heads) in let b = flags_none t i set.groups in λ j. record { values = a j; flags = b j })
