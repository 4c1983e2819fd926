-- Cells are cut, joined, picked and written, and the values that they stand for with them.
use Rattle.std.proofs.Common.{◌≡◌, ℕ, zero, suc, ◌+◌, ◌<◌, ◌≤◌, List, [], ◌∷◌, ◌++◌, length, map, take, drop, set, replicate, get_or, refl, ap, sym, ◌∙◌, subst, arith, length-append}
use Rattle.std.specs.Prelude.{All, pos, slice_index_or, slice_get, Some}
use Rattle.std.proofs.lemmas.List.{map-append, take-map}
use Rattle.std.proofs.lemmas.List.Elements.{All-nil, All-cons, All-head, All-tail, All-append, All-take, All-get_or, All-replicate}
use Rattle.sop_pages.specs.declared.cell.Cell.{Cell}
use Rattle.sop_pages.specs.declared.cell.Cell.TheVariants as cell
use Rattle.sop_model.specs.declared.value.Value.{Value}
use Rattle.sop_model.specs.declared.value.Value.TheVariants as value
use Rattle.sop_cells.specs.declared.place.Place.{Place}
use Rattle.sop_pages.specs.Pages.{count}
use Rattle.sop_pages.specs.Moves.{times}
use Rattle.sop_cells.specs.Places.{own}
use Rattle.sop_cells.specs.Shelves.{ShelfPages, blocks, joined, column, IsPaged, IsKept, Shifts}
use Rattle.sop_cells.proofs.PlaceLemmas.{kept_beside, covered_beside, based_beside}
use Rattle.sop_columns.specs.Names.{NameTable, value_of, IsNumbered, Grows}
use Rattle.sop_columns.specs.Values.{values, values_at, Continues, IsColumn}
use Rattle.sop_columns.proofs.NameLemmas.{values_grow, all_numbered_grow}

pub map_replicate : {A B : Type 0} (f : A → B) (n : ℕ) (a : A) → map f (replicate n a) ≡ replicate n (f a)
map_replicate f zero a = refl
map_replicate f (suc n) a = ap (λ r. f a ∷ r) (map_replicate f n a)

-- the table has grown, and the column stands for the same values
pub column_grows : (s : ShelfPages) (old new : NameTable) (places : List Place) → Grows old new → IsColumn s old places → IsColumn s new places
column_grows s old new places g c = record { kept = c.kept; numbered = all_numbered_grow old new (column s places) g c.numbered }

pub column_values_grow : (s : ShelfPages) (old new : NameTable) (places : List Place) → Grows old new → IsColumn s old places → values s new places ≡ values s old places
column_values_grow s old new places g c = values_grow old new (column s places) g c.numbered

-- two columns are joined, each from its first cells
module _ (a b c : List Cell) (m n : ℕ) (is : c ≡ take m a ++ take n b) where
  pub values_joined : (names : NameTable) → map (value_of names) c ≡ take m (map (value_of names) a) ++ take n (map (value_of names) b)
  values_joined names =
      ap (map (value_of names)) is ∙ map-append (value_of names) (take m a) (take n b)
      ∙ (λ i. sym (take-map (value_of names) m a) i ++ sym (take-map (value_of names) n b) i)

  pub numbered_joined : (names : NameTable) → All (IsNumbered names) a → All (IsNumbered names) b → All (IsNumbered names) c
  numbered_joined names h k =
      subst (All (IsNumbered names)) (sym is) (All-append (IsNumbered names) (take m a) (take n b) (All-take (IsNumbered names) m a h) (All-take (IsNumbered names) n b k))

read_map : {A B : Type 0} (f : A → B) (xs : List A) (i : ℕ) (d : A) (e : B) → i < length xs → f (get_or xs i d) ≡ get_or (map f xs) i e
read_map f [] i d e h = absurd (omega arith)
read_map f (x ∷ xs) zero d e h = refl
read_map f (x ∷ xs) (suc i) d e h = read_map f xs i d e (omega arith)

picked_values : (a : List Cell) (d : Cell) (numbers : List ℕ) (names : NameTable) → All (λ i. i < length a) numbers → map (value_of names) (map (λ i. slice_index_or a i d) numbers) ≡ values_at (map (value_of names) a) numbers
picked_values a d [] names w = refl
picked_values a d (k ∷ numbers) names w =
    let here = read_map (value_of names) a k d (value.Int (pos 0)) (All-head (λ i. i < length a) k numbers w) in
    let rest = picked_values a d numbers names (All-tail (λ i. i < length a) k numbers w) in λ i. here i ∷ rest i

picked_numbered : (a : List Cell) (d : Cell) (numbers : List ℕ) (names : NameTable) → All (λ i. i < length a) numbers → All (IsNumbered names) a → All (IsNumbered names) (map (λ i. slice_index_or a i d) numbers)
picked_numbered a d [] names w h = All-nil (IsNumbered names)
picked_numbered a d (k ∷ numbers) names w h =
    All-cons (IsNumbered names) _ _ (All-get_or (IsNumbered names) a k d (All-head (λ i. i < length a) k numbers w) h)
    (picked_numbered a d numbers names (All-tail (λ i. i < length a) k numbers w) h)

-- the cells at these numbers are read
module _ (a c : List Cell) (d : Cell) (numbers : List ℕ) (within : All (λ i. i < length a) numbers) (is : c ≡ map (λ i. slice_index_or a i d) numbers) where
  pub values_picked : (names : NameTable) → map (value_of names) c ≡ values_at (map (value_of names) a) numbers
  values_picked names = ap (map (value_of names)) is ∙ picked_values a d numbers names within

  pub numbered_picked : (names : NameTable) → All (IsNumbered names) a → All (IsNumbered names) c
  numbered_picked names h = subst (All (IsNumbered names)) (sym is) (picked_numbered a d numbers names within h)

-- a column goes on with the same cell
module _ (old new : NameTable) (a c : List Cell) (n : ℕ) (more : Cell) (is : c ≡ a ++ replicate n more) (g : Grows old new) (h : All (IsNumbered old) a) where
  pub values_continue : (v : Value) → value_of new more ≡ v → Continues (map (value_of old) a) (map (value_of new) c) v
  values_continue v e = record {
    more = n;
    is =
        ap (map (value_of new)) is ∙ map-append (value_of new) a (replicate n more)
        ∙ (λ i. values_grow old new a g h i ++ (map_replicate (value_of new) n more ∙ ap (replicate n) e) i);
  }

  pub numbered_continue : IsNumbered new more → All (IsNumbered new) c
  numbered_continue k =
      subst (All (IsNumbered new)) (sym is) (All-append (IsNumbered new) a (replicate n more) (all_numbered_grow old new a g h) (All-replicate (IsNumbered new) n more k))

-- a step of the shelf beside the column: each of its pages has a place beside those that go, so it stands for the same values
module _ (s t : ShelfPages) (gone come places : List Place) (m : Shifts s t gone come) (beside : (x : ℕ) → times x (own gone) + times x (own places) ≤ count s.own x) where
  same_blocks : blocks t places ≡ blocks s places
  same_blocks = kept_beside s t gone come places m (λ x h. let b = beside x in omega arith)

  pub kept_stays : IsKept s places → IsKept t places
  kept_stays k = record {
    covered = covered_beside s t gone come places m beside;
    based = based_beside s t gone come places m k.based;
    paged = subst IsPaged (sym same_blocks) k.paged;
  }

  pub column_stays : (old new : NameTable) → Grows old new → IsColumn s old places → IsColumn t new places
  column_stays old new g c = record {
    kept = kept_stays c.kept;
    numbered = subst (λ (pages : List (List Cell)). All (IsNumbered new) (joined pages)) (sym same_blocks) (all_numbered_grow old new (column s places) g c.numbered);
  }

  pub values_stay : (old new : NameTable) → Grows old new → IsColumn s old places → values t new places ≡ values s old places
  values_stay old new g c = ap (λ (pages : List (List Cell)). map (value_of new) (joined pages)) same_blocks ∙ values_grow old new (column s places) g c.numbered
