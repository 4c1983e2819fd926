-- The first places of a column, and those behind them.
use Rattle.std.proofs.Common.{◌≡◌, ℕ, zero, suc, ◌+◌, ◌-◌, ◌*◌, ◌^◌, ◌<◌, ◌≤◌, List, [], ◌∷◌, ◌++◌, length, map, take, drop, get_or, replicate, refl, ap, sym, ◌∙◌, subst, arith, append_assoc, length-append, length-drop, inl, inr}
use Rattle.std.specs.Prelude.{◌⊎◌, Option, None}
use Rattle.std.proofs.lemmas.List.{length-map, take-append-drop, map-append, length-take-le, get_or-take, get_or_default}
use Rattle.std.proofs.Math.ListN.{get_or-append}
use Rattle.std.proofs.Math.Seq.{take-suc, take-length, get_or-append_seam}
use Rattle.sop_pages.specs.declared.cell.Cell.{Cell}
use Rattle.sop_pages.specs.Pages.{Store, count}
use Rattle.sop_pages.specs.Moves.{times}
use Rattle.sop_cells.specs.declared.place.Place.{Place}
use Rattle.sop_cells.specs.declared.place.Place.TheVariants.{Own, Base}
use Rattle.sop_cells.specs.Places.{own, AreBased}
use Rattle.sop_cells.specs.Shelves.{ShelfPages, cells_at, blocks, joined, column, IsPaged, IsKept, Shifts}
use Rattle.sop_cells.specs.Layouts.{AreFull, CanHold, IsLaid, IsCopy, AreCopies}
use Rattle.sop_cells.proofs.PlaceLemmas.{held-append, based-append, kept_beside}
use Rattle.sop_cells.proofs.HeldLemmas.{take_next, drop_next, first_held, first_based}
use Rattle.sop_cells.proofs.PageLists.{joined-append, joined_parts, paged-append, full_first, tight}
use Rattle.sop_cells.proofs.CutLemmas.{length_first, first_within, rest_length, count_last, take_part, le_or}
use Rattle.sop_cells.proofs.LaidLemmas.{laid_kept}

pub first_blocks : (s : ShelfPages) (xs : List Place) (k : ℕ) → blocks s (take k xs) ≡ take k (blocks s xs)
first_blocks s [] zero = refl
first_blocks s [] (suc k) = refl
first_blocks s (x ∷ xs) zero = refl
first_blocks s (x ∷ xs) (suc k) = ap (λ r. cells_at s x ∷ r) (first_blocks s xs k)

pub rest_blocks : (s : ShelfPages) (xs : List Place) (k : ℕ) → blocks s (drop k xs) ≡ drop k (blocks s xs)
rest_blocks s [] zero = refl
rest_blocks s [] (suc k) = refl
rest_blocks s (x ∷ xs) zero = refl
rest_blocks s (x ∷ xs) (suc k) = rest_blocks s xs k

pub rest_held : (xs : List Place) (k x : ℕ) → times x (own (drop k xs)) ≤ times x (own xs)
rest_held xs k x = let a = held-append x (take k xs) (drop k xs) in let b = ap (λ (ps : List Place). times x (own ps)) (take-append-drop k xs) in omega arith

pub rest_based : (base : Store) (xs : List Place) (k : ℕ) → AreBased base xs → AreBased base (drop k xs)
rest_based base [] zero b = tt
rest_based base [] (suc k) b = tt
rest_based base (x ∷ xs) zero b = b
rest_based base (Own x ∷ xs) (suc k) b = rest_based base xs k b
rest_based base (Base x ∷ xs) (suc k) b = rest_based base xs k b.1

-- the places of a column that is kept are live
pub kept_live : (s : ShelfPages) (xs : List Place) → IsKept s xs → (x : ℕ) → 1 ≤ times x (own xs) → 1 ≤ count s.own x
kept_live s xs kept x h = let c = kept.covered.each x in omega arith

pub rest_live : (s : ShelfPages) (xs : List Place) (k : ℕ) → IsKept s xs → (x : ℕ) → 1 ≤ times x (own (drop k xs)) → 1 ≤ count s.own x
rest_live s xs k kept x h = let a = rest_held xs k x in kept_live s xs kept x (omega arith)

pub first_can : (s : ShelfPages) (xs : List Place) (k : ℕ) → IsKept s xs → ((x : ℕ) → count s.own x + times x (own xs) < 2 ^ 128) → CanHold s (take k xs)
first_can s xs k kept room = record {
  live = λ x h. let a = first_held xs k x in kept_live s xs kept x (omega arith);
  based = first_based s.base xs k kept.based;
  room = λ x h. let a = first_held xs k x in let r = room x in omega arith;
}

-- first places of two columns
pub both_can : (s : ShelfPages) (xs ys : List Place) (k j : ℕ) → IsKept s xs → IsKept s ys → ((x : ℕ) → count s.own x + times x (own xs) + times x (own ys) < 2 ^ 128) → CanHold s (take k xs ++ take j ys)
both_can s xs ys k j p q room = record {
  live = λ x h. let a = held-append x (take k xs) (take j ys) in let b = first_held xs k x in let d = first_held ys j x in let e = p.covered.each x in let f = q.covered.each x in omega arith;
  based = based-append s.base (take k xs) (take j ys) (first_based s.base xs k p.based) (first_based s.base ys j q.based);
  room = λ x h. let a = held-append x (take k xs) (take j ys) in let b = first_held xs k x in let d = first_held ys j x in let r = room x in omega arith;
}

pub column_parts : (s : ShelfPages) (xs : List Place) (k : ℕ) → column s (take k xs) ++ column s (drop k xs) ≡ column s xs
column_parts s xs k = (λ i. joined (first_blocks s xs k i) ++ joined (rest_blocks s xs k i)) ∙ joined_parts (blocks s xs) k

pub column-append : (s : ShelfPages) (xs ys : List Place) → column s (xs ++ ys) ≡ column s xs ++ column s ys
column-append s [] ys = refl
column-append s (x ∷ xs) ys = ap (λ r. cells_at s x ++ r) (column-append s xs ys) ∙ sym (append_assoc (cells_at s x) (column s xs) (column s ys))

-- the first pages, as far as they are full
module _ (s : ShelfPages) (xs : List Place) (k : ℕ) (kept : IsKept s xs) (h : 1024 * k ≤ length (column s xs)) where
  pub part_full : AreFull (blocks s (take k xs))
  part_full = subst AreFull (sym (first_blocks s xs k)) (full_first (blocks s xs) k kept.paged h)

  pub part_length : length (column s (take k xs)) ≡ 1024 * k
  part_length = ap (λ (bs : List (List Cell)). length (joined bs)) (first_blocks s xs k) ∙ length_first (blocks s xs) k kept.paged h

  pub part_within : k ≤ length xs
  part_within = let a = first_within (blocks s xs) k kept.paged h in let b = length-map xs (cells_at s) in omega arith

  pub part_rest : length (column s (drop k xs)) + 1024 * k ≡ length (column s xs)
  part_rest = let a = rest_length (blocks s xs) k kept.paged h in let b = ap (λ (bs : List (List Cell)). length (joined bs)) (rest_blocks s xs k) in omega arith

  -- a column of these pages and of new ones
  module _ (t : ShelfPages) (c : List Place) (pages : List (List Cell)) (laid : IsLaid s t (take k xs) pages c) (paged : IsPaged pages) where
    pub part_column : column t c ≡ column s (take k xs) ++ joined pages
    part_column = ap joined laid.pages_are ∙ joined-append (blocks s (take k xs)) pages

    pub part_kept : IsKept t c
    part_kept = laid_kept s t (take k xs) c pages laid (paged-append (blocks s (take k xs)) pages part_full paged)

    pub part_tight : 1024 * length c < length (column t c) + 1024
    part_tight = let a = tight (blocks t c) part_kept.paged in let b = length-map c (cells_at t) in omega arith

    pub part_grown : (more : ℕ) (cell : Cell) → joined pages ≡ column s (drop k xs) ++ replicate more cell → column t c ≡ column s xs ++ replicate more cell
    part_grown more cell is =
        part_column ∙ ap (λ r. column s (take k xs) ++ r) is ∙ sym (append_assoc (column s (take k xs)) (column s (drop k xs)) (replicate more cell))
        ∙ ap (λ r. r ++ replicate more cell) (column_parts s xs k)

-- how many the first places are
pub part_count : (s : ShelfPages) (xs places : List Place) (k : ℕ) → IsKept s xs → 1024 * k ≤ length (column s xs) → places ≡ take k xs → length places ≡ k
part_count s xs places k kept h e = ap (λ (ps : List Place). length ps) e ∙ length-take-le k xs (part_within s xs k kept h)

-- a column that is held once more
pub again_blocks : (s t : ShelfPages) (xs : List Place) → IsKept s xs → Shifts s t [] xs → blocks t xs ≡ blocks s xs
again_blocks s t xs kept m = kept_beside s t [] xs xs m (λ x h. let c = kept.covered.each x in omega arith)

pub again_kept : (s t : ShelfPages) (xs : List Place) → IsKept s xs → Shifts s t [] xs → IsKept t xs
again_kept s t xs kept m = record {
  covered = record { each = λ x. let a = m.moves.counts x in omega arith };
  based = subst (λ (b : Store). AreBased b xs) (sym m.base) kept.based;
  paged = subst IsPaged (sym (again_blocks s t xs kept m)) kept.paged;
}

-- how many cells a column has, by its last page
pub cells_by_last : (s : ShelfPages) (xs : List Place) (m : ℕ) → IsKept s xs → length xs ≡ m + 1 → m * 1024 + length (get_or (blocks s xs) m []) ≡ length (column s xs)
cells_by_last s xs m kept e = let a = count_last (blocks s xs) m kept.paged (length-map xs (cells_at s) ∙ e) in omega arith

pub places_few : (s : ShelfPages) (xs : List Place) → IsKept s xs → 1024 * length xs < length (column s xs) + 1024
places_few s xs kept = let a = tight (blocks s xs) kept.paged in let b = length-map xs (cells_at s) in omega arith

-- the cells of one page more are set behind others
pub push_step : (s : ShelfPages) (xs : List Place) (k : ℕ) (p : Place) (page old new all : List Cell) (left part : ℕ) → k < length xs → p ≡ get_or xs k p → page ≡ cells_at s p → part ≤ length page → part ≤ left → (part ≡ length page) ⊎ (part ≡ left) → new ≡ old ++ take part page → old ++ take left (column s (drop k xs)) ≡ all → new ++ take (left - part) (column s (drop (k + 1) xs)) ≡ all
push_step s xs k p page old new all left part h at value a b one is was =
    ap (λ r. r ++ take (left - part) rest) is ∙ append_assoc old (take part page) (take (left - part) rest)
    ∙ ap (λ r. old ++ r) (sym (take_part page rest left part a b one))
    ∙ ap (λ (b : List Cell). old ++ take left (b ++ rest)) value
    ∙ ap (λ (ps : List Place). old ++ take left (column s ps)) (sym (drop_next xs k p h at)) ∙ was
  where
    rest : List Cell
    rest = column s (drop (k + 1) xs)

-- a part of a row of places up to its end
pub rest_slice : (xs ys : List Place) (k : ℕ) → xs ≡ ys → take (length xs - k) (drop k xs) ≡ drop k ys
rest_slice xs ys k e = all_of (drop k xs) (length xs - k) (length-drop k xs) ∙ ap (drop k) e
  where
    all_of : (zs : List Place) (n : ℕ) → length zs ≡ n → take n zs ≡ zs
    all_of zs n l = ap (λ (m : ℕ). take m zs) (sym l) ∙ take-length zs

-- the cells with these numbers, where the first numbers are those of the first cells in order
pub picked_first : (d : Cell) (cells : List Cell) (numbers : List ℕ) (n : ℕ) → n ≤ length numbers → n ≤ length cells → ((i : ℕ) → i < n → get_or numbers i 0 ≡ i) → take n cells ≡ map (λ i. get_or cells i d) (take n numbers)
picked_first d cells numbers zero h l each = refl
picked_first d cells numbers (suc n) h l each =
    take-suc cells n d (omega arith)
    ∙ (λ i. picked_first d cells numbers n (omega arith) (omega arith) (λ j k. each j (omega arith)) i ++ get_or cells (sym (each n (omega arith)) i) d ∷ [])
    ∙ sym (map-append (λ i. get_or cells i d) (take n numbers) (get_or numbers n 0 ∷ []))
    ∙ ap (map (λ i. get_or cells i d)) (sym (take-suc numbers n 0 (omega arith)))

-- what one place more yields
pub copies_next : (s : ShelfPages) (xs : List Place) (k : ℕ) (p : Place) (copies new : List (Option (List Cell))) (copy : Option (List Cell)) → AreCopies s (take k xs) copies → k < length xs → p ≡ get_or xs k p → IsCopy s p copy → new ≡ copies ++ copy ∷ [] → AreCopies s (take (k + 1) xs) new
copies_next s xs k p copies new copy was h at is e = subst (AreCopies s (take (k + 1) xs)) (sym e) record {
  as_many = let a = length-append copies (copy ∷ []) in let b = was.as_many in let c = length-take-le k xs (omega arith) in let d = length-take-le (k + 1) xs (omega arith) in omega arith;
  each = λ i q l w. let d = length-take-le (k + 1) xs (omega arith) in elim (le_or k i) [
    | inl g ↦ here i q (omega arith) w
    | inr g ↦ before i q g w
  ];
}
  where
    long : length copies ≡ k
    long = let b = was.as_many in let c = length-take-le k xs (omega arith) in omega arith

    before : (i : ℕ) (q : Place) → i < k → q ≡ get_or (take (k + 1) xs) i q → IsCopy s q (get_or (copies ++ copy ∷ []) i None)
    before i q g w = subst (IsCopy s q) (sym (get_or-append copies (copy ∷ []) None i (let l = long in omega arith)))
        (was.each i q (let c = length-take-le k xs (omega arith) in omega arith) (w ∙ get_or-take (k + 1) xs i q (omega arith) ∙ sym (get_or-take k xs i q g)))

    here : (i : ℕ) (q : Place) → i ≡ k → q ≡ get_or (take (k + 1) xs) i q → IsCopy s q (get_or (copies ++ copy ∷ []) i None)
    here i q g w =
        let same : q ≡ p = w ∙ get_or-take (k + 1) xs i q (omega arith) ∙ ap (λ (j : ℕ). get_or xs j q) g ∙ get_or_default xs k q p h ∙ sym at in
        let last : get_or (copies ++ copy ∷ []) i None ≡ copy = ap (λ (j : ℕ). get_or (copies ++ copy ∷ []) j None) (g ∙ sym long) ∙ get_or-append_seam copies copy [] None in
        subst (λ (o : Option (List Cell)). IsCopy s q o) (sym last) (subst (λ (r : Place). IsCopy s r copy) (sym same) is)

-- one more page is set behind those of the first places
pub blocks_next : (s : ShelfPages) (xs : List Place) (k : ℕ) (p : Place) (before pages new : List (List Cell)) (page : List Cell) → k < length xs → p ≡ get_or xs k p → page ≡ cells_at s p → new ≡ pages ++ page ∷ [] → pages ≡ before ++ blocks s (take k xs) → new ≡ before ++ blocks s (take (k + 1) xs)
blocks_next s xs k p before pages new page h at value is was =
    is ∙ (λ i. was i ++ value i ∷ []) ∙ append_assoc before (blocks s (take k xs)) (cells_at s p ∷ [])
    ∙ ap (λ r. before ++ r) (sym (ap (blocks s) (take_next xs k p h at) ∙ map-append (cells_at s) (take k xs) (p ∷ [])))
