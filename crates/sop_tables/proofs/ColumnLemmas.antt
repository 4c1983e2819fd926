-- One column of a table, and columns where one is another, comes or goes.
use Rattle.std.proofs.Common.{length-set, ◌≡◌, ℕ, zero, suc, ◌<◌, ◌≤◌, List, [], ◌∷◌, ◌++◌, length, map, take, drop, set, get_or, remove, replicate, refl, ap, sym, ◌∙◌, subst, arith}
use Rattle.std.specs.Prelude.{All}
use Rattle.std.proofs.lemmas.List.{length-replicate, length-map, length-take-le, drop_all, take_all, drop-set-lt}
use Rattle.std.proofs.lemmas.List.Elements.{All-nil}
use Rattle.std.proofs.Math.Seq.{take-set-lt}
use Rattle.sop_model.specs.declared.geo.Head.{Head}
use Rattle.sop_model.specs.declared.value.Value.{Value}
use Rattle.sop_model.specs.Values.{default_of}
use Rattle.sop_pages.specs.Pages.{count}
use Rattle.sop_pages.specs.Moves.{Covers}
use Rattle.sop_cells.specs.declared.place.Place.{Place}
use Rattle.sop_cells.specs.Places.{own, AreBased}
use Rattle.sop_cells.specs.Shelves.{ShelfPages, cells_at, blocks, column, Shifts}
use Rattle.sop_cells.proofs.PageLists.{tight}
use Rattle.sop_cells.proofs.PlaceLemmas.{held-append, based-append}
use Rattle.sop_columns.specs.Names.{NameTable, value_of, Grows}
use Rattle.sop_columns.specs.Values.{values, IsColumn}
use Rattle.sop_tables.specs.Tables.{flat, held, default_at, IsColumnOf, AreColumns}
use Rattle.sop_tables.proofs.FlatLemmas.{held_by, flat_at}
use Rattle.sop_tables.proofs.KeptLemmas.{Beside, column_of_kept, columns_kept, held_kept, values_kept}

-- the default of a head among others
abbrev pub default_in : List Head → ℕ → Value
default_in heads k = default_at (record { heads = heads; groups = [] }) k

-- WHAT A COLUMN OF A TABLE IS

module _ (s : ShelfPages) (n : NameTable) (size : ℕ) where
  pub length-columns : (heads : List Head) (cs : List (List Place)) → AreColumns s n size heads cs → length cs ≡ length heads
  length-columns [] [] all = refl
  length-columns [] (c ∷ cs) all = absurd all
  length-columns (h ∷ heads) [] all = absurd all
  length-columns (h ∷ heads) (c ∷ cs) all = ap suc (length-columns heads cs all.1)

  pub column_of_at : (heads : List Head) (cs : List (List Place)) (k : ℕ) → k < length heads → AreColumns s n size heads cs → IsColumnOf s n size (default_in heads k) (get_or cs k [])
  column_of_at [] cs k l all = absurd (omega arith)
  column_of_at (h ∷ heads) [] k l all = absurd all
  column_of_at (h ∷ heads) (c ∷ cs) zero l all = all.0
  column_of_at (h ∷ heads) (c ∷ cs) (suc k) l all = column_of_at heads cs k (omega arith) all.1

  -- a column of so many values is one of a table
  pub column_made : (d : Value) (places : List Place) → IsColumn s n places → length (column s places) ≡ size → IsColumnOf s n size d places
  column_made d places is long = record {
    based = is.kept.based;
    paged = is.kept.paged;
    numbered = is.numbered;
    enough = omega arith;
    tight = let a = tight (blocks s places) is.kept.paged in let e = length-map places (cells_at s) in omega arith;
    spare = subst (All (λ v. v ≡ d)) (sym (drop_all size (values s n places) (let e = length-map (column s places) (value_of n) in omega arith))) (All-nil (λ v. v ≡ d));
  }

  -- one whose values are all the default
  pub column_filled : (d : Value) (places : List Place) → IsColumn s n places → values s n places ≡ replicate size d → IsColumnOf s n size d places
  column_filled d places is all = column_made d places is (let a = ap (λ (vs : List Value). length vs) all in let b = length-map (column s places) (value_of n) in let c = length-replicate size d in omega arith)

  pub held_filled : (d : Value) (places : List Place) → values s n places ≡ replicate size d → held s n size places ≡ replicate size d
  held_filled d places all = ap (take size) all ∙ take_all size (replicate size d) (let l = length-replicate size d in omega arith)

  -- what a call on a column wants
  pub column_whole : (d : Value) (places : List Place) → IsColumnOf s n size d places → Covers s.own (own places) → IsColumn s n places
  column_whole d places is covered = record { kept = record { covered = covered; based = is.based; paged = is.paged }; numbered = is.numbered }

  pub columns_based : (heads : List Head) (cs : List (List Place)) → AreColumns s n size heads cs → AreBased s.base (flat cs)
  columns_based [] [] all = tt
  columns_based [] (c ∷ cs) all = absurd all
  columns_based (h ∷ heads) [] all = absurd all
  columns_based (h ∷ heads) (c ∷ cs) all = based-append s.base c (flat cs) all.0.based (columns_based heads cs all.1)

  -- the values of a column of a table
  pub length-held : (d : Value) (places : List Place) → IsColumnOf s n size d places → length (held s n size places) ≡ size
  length-held d places is = length-take-le size (values s n places) (let e = length-map (column s places) (value_of n) in let l = is.enough in omega arith)

-- one value of a column is set
pub column_set : (s t : ShelfPages) (n m : NameTable) (size e : ℕ) (d v : Value) (old new : List Place) → IsColumnOf s n size d old → IsColumn t m new → e < size → length new ≡ length old
    → values t m new ≡ set (values s n old) e v → IsColumnOf t m size d new
column_set s t n m size e d v old new is now within long same = record {
  based = now.kept.based;
  paged = now.kept.paged;
  numbered = now.numbered;
  enough = let l = is.enough in let a = ap (λ (vs : List Value). length vs) same in let b = length-map (column t new) (value_of m) in let c = length-map (column s old) (value_of n) in let f = length-set (values s n old) e v in omega arith;
  tight = let l = is.tight in omega arith;
  spare = subst (All (λ w. w ≡ d)) (sym (ap (drop size) same ∙ drop-set-lt size (values s n old) e v within)) is.spare;
}

pub held_set : (s t : ShelfPages) (n m : NameTable) (size e : ℕ) (v : Value) (old new : List Place) → e < size → values t m new ≡ set (values s n old) e v → held t m size new ≡ set (held s n size old) e v
held_set s t n m size e v old new within same = ap (take size) same ∙ take-set-lt size (values s n old) e v within

-- COLUMNS WHERE ONE IS ANOTHER

module _ (s t : ShelfPages) (n m : NameTable) (gone new : List Place) (shifts : Shifts s t gone new) (grows : Grows n m) (size : ℕ) where
  abbrev Covered : List (List Place) → Type 0
  Covered cs = (x : ℕ) → held_by x (flat cs) ≤ count s.own x

  rest_beside : (c : List Place) (cs : List (List Place)) → c ≡ gone → Covered (c ∷ cs) → Beside s t gone new n m (flat cs)
  rest_beside c cs at covered = record { free = λ x l. let a = covered x in let b = held-append x c (flat cs) in let e = ap (held_by x) at in omega arith }

  first_beside : (c : List Place) (cs : List (List Place)) (k : ℕ) → get_or cs k [] ≡ gone → Covered (c ∷ cs) → Beside s t gone new n m c
  first_beside c cs k at covered = record { free = λ x l. let a = covered x in let b = held-append x c (flat cs) in let e = ap (held_by x) at in let f = flat_at cs k x in omega arith }

  rest_covered : (c : List Place) (cs : List (List Place)) → Covered (c ∷ cs) → Covered cs
  rest_covered c cs covered x = let a = covered x in let b = held-append x c (flat cs) in omega arith

  pub columns_set : (heads : List Head) (cs : List (List Place)) (k : ℕ) → k < length heads → get_or cs k [] ≡ gone → Covered cs → AreColumns s n size heads cs
      → IsColumnOf t m size (default_in heads k) new → AreColumns t m size heads (set cs k new)
  columns_set [] cs k l at covered all made = absurd (omega arith)
  columns_set (h ∷ heads) [] k l at covered all made = absurd all
  columns_set (h ∷ heads) (c ∷ cs) zero l at covered all made = (made, columns_kept s t gone new n m shifts grows size heads cs (rest_beside c cs at covered) all.1)
  columns_set (h ∷ heads) (c ∷ cs) (suc k) l at covered all made =
      (column_of_kept s t gone new n m shifts grows size (default_of h.kind) c (first_beside c cs k at covered) all.0, columns_set heads cs k (omega arith) at (rest_covered c cs covered) all.1 made)

  pub all_held_set : (heads : List Head) (cs : List (List Place)) (k : ℕ) → k < length heads → get_or cs k [] ≡ gone → Covered cs → AreColumns s n size heads cs
      → map (held t m size) (set cs k new) ≡ set (map (held s n size) cs) k (held t m size new)
  all_held_set [] cs k l at covered all = absurd (omega arith)
  all_held_set (h ∷ heads) [] k l at covered all = refl
  all_held_set (h ∷ heads) (c ∷ cs) zero l at covered all =
      let rest = held_kept s t gone new n m shifts grows size heads cs (rest_beside c cs at covered) all.1 in λ j. held t m size new ∷ rest j
  all_held_set (h ∷ heads) (c ∷ cs) (suc k) l at covered all =
      let here = values_kept s t gone new n m shifts grows c (first_beside c cs k at covered) all.0.numbered in
      let rest = all_held_set heads cs k (omega arith) at (rest_covered c cs covered) all.1 in
      λ j. take size (here j) ∷ rest j

  -- COLUMNS WHERE ONE GOES

  pub columns_remove : (heads : List Head) (cs : List (List Place)) (k : ℕ) → k < length heads → get_or cs k [] ≡ gone → Covered cs → AreColumns s n size heads cs
      → AreColumns t m size (remove heads k) (remove cs k)
  columns_remove [] cs k l at covered all = absurd (omega arith)
  columns_remove (h ∷ heads) [] k l at covered all = absurd all
  columns_remove (h ∷ heads) (c ∷ cs) zero l at covered all = columns_kept s t gone new n m shifts grows size heads cs (rest_beside c cs at covered) all.1
  columns_remove (h ∷ heads) (c ∷ cs) (suc k) l at covered all =
      (column_of_kept s t gone new n m shifts grows size (default_of h.kind) c (first_beside c cs k at covered) all.0, columns_remove heads cs k (omega arith) at (rest_covered c cs covered) all.1)

  pub held_remove : (heads : List Head) (cs : List (List Place)) (k : ℕ) → k < length heads → get_or cs k [] ≡ gone → Covered cs → AreColumns s n size heads cs
      → map (held t m size) (remove cs k) ≡ remove (map (held s n size) cs) k
  held_remove [] cs k l at covered all = absurd (omega arith)
  held_remove (h ∷ heads) [] k l at covered all = absurd all
  held_remove (h ∷ heads) (c ∷ cs) zero l at covered all = held_kept s t gone new n m shifts grows size heads cs (rest_beside c cs at covered) all.1
  held_remove (h ∷ heads) (c ∷ cs) (suc k) l at covered all =
      let here = values_kept s t gone new n m shifts grows c (first_beside c cs k at covered) all.0.numbered in
      let rest = held_remove heads cs k (omega arith) at (rest_covered c cs covered) all.1 in
      λ j. take size (here j) ∷ rest j

-- a column behind the others
pub columns_last : (s : ShelfPages) (n : NameTable) (size : ℕ) (heads : List Head) (cs : List (List Place)) (h : Head) (c : List Place) → AreColumns s n size heads cs → IsColumnOf s n size (default_of h.kind) c → AreColumns s n size (heads ++ h ∷ []) (cs ++ c ∷ [])
columns_last s n size [] [] h c all made = (made, tt)
columns_last s n size [] (d ∷ cs) h c all made = absurd all
columns_last s n size (g ∷ heads) [] h c all made = absurd all
columns_last s n size (g ∷ heads) (d ∷ cs) h c all made = (all.0, columns_last s n size heads cs h c all.1 made)
