-- Columns of the first cells of two columns, and of cells that are picked.
use Rattle.std.proofs.Common.{◌≡◌, ℕ, zero, suc, ◌-◌, ◌*◌, ◌/◌, ◌%◌, ◌<◌, ◌≤◌, List, [], ◌∷◌, ◌++◌, All, length, map, take, drop, get_or, refl, ap, sym, ◌∙◌, subst, arith, append_assoc, length-drop, inl, inr}
use Rattle.std.specs.Prelude.{◌⊎◌, ◌==◌, if◌then◌else◌}
use Rattle.std.proofs.lemmas.Bool.Decides.{nat_tests}
use Rattle.std.proofs.lemmas.List.{append-nil, map-append, take-append-drop}
use Rattle.std.proofs.lemmas.List.Elements.{All-get_or}
use Rattle.std.proofs.Math.Seq.{take-append_seam, take-length}
use Rattle.std.proofs.Math.Nat.{div-add-mod}
use Rattle.sop_pages.specs.declared.cell.Cell.{Cell}
use Rattle.sop_cells.specs.declared.place.Place.{Place}
use Rattle.sop_cells.specs.Shelves.{ShelfPages, cells_at, blocks, joined, column, IsPaged, IsKept}
use Rattle.sop_cells.specs.Layouts.{AreFull, AreWhole, IsLaid}
use Rattle.sop_cells.proofs.PageLists.{joined-append, full-append, paged-append, paged_first, no_pages}
use Rattle.sop_cells.proofs.CutLemmas.{take_over}
use Rattle.sop_cells.proofs.LaidLemmas.{laid_kept}
use Rattle.sop_cells.proofs.PartLemmas.{first_blocks, rest_blocks, column_parts, column-append, part_full, part_length, part_column, picked_first}

take_zero : {A : Type 0} (xs : List A) → take 0 xs ≡ []
take_zero [] = refl
take_zero (x ∷ xs) = refl

-- a part that is not there may stand before or behind another
swapped : (A B X Y L M new : List Cell) → (X ≡ []) ⊎ (B ≡ []) → new ≡ (A ++ B) ++ (X ++ Y) → A ++ X ≡ L → B ++ Y ≡ M → new ≡ L ++ M
swapped A B X Y L M new even is l m = is ∙ elim even [
  | inl e ↦ (λ i. (A ++ B) ++ (e i ++ Y)) ∙ append_assoc A B Y ∙ (λ i. (sym (append-nil A) ∙ (λ j. A ++ sym e j)) i ++ (B ++ Y))
  | inr e ↦ (λ i. (A ++ e i) ++ (X ++ Y)) ∙ (λ i. append-nil A i ++ (X ++ Y)) ∙ sym (append_assoc A X Y) ∙ (λ i. (A ++ X) ++ (sym e i ++ Y))
] ∙ (λ i. l i ++ m i)

module _ (s t : ShelfPages) (xs ys c : List Place) (len more_len j left : ℕ) (pages : List (List Cell)) (kept : IsKept s xs) (more_kept : IsKept s ys) (within : len ≤ length (column s xs)) (whole : AreWhole (blocks s ys) len more_len j) (left_is : left ≡ more_len - j * 1024) (laid : IsLaid s t (take (len / 1024) xs ++ take j ys) pages c) (paged : IsPaged pages) (is : joined pages ≡ take (len % 1024) (column s (drop (len / 1024) xs)) ++ take left (column s (drop j ys))) where
  below : 1024 * (len / 1024) ≤ length (column s xs)
  below = omega arith

  first_part : column s (take (len / 1024) xs) ++ take (len % 1024) (column s (drop (len / 1024) xs)) ≡ take len (column s xs)
  first_part =
      sym (take_over (column s (take (len / 1024) xs)) (column s (drop (len / 1024) xs)) len (len % 1024) (let a = part_length s xs (len / 1024) kept below in let b = div-add-mod len 1024 in omega arith))
      ∙ ap (λ (cs : List Cell). take len cs) (column_parts s xs (len / 1024))

  more_part : column s (take j ys) ++ take left (column s (drop j ys)) ≡ take more_len (column s ys)
  more_part = (λ i. joined (first_blocks s ys j i) ++ take (left_is i) (joined (rest_blocks s ys j i))) ∙ whole.parts

  even : (take (len % 1024) (column s (drop (len / 1024) xs)) ≡ []) ⊎ (column s (take j ys) ≡ [])
  even = elim whole.even [
    | inl e ↦ inl (ap (λ (n : ℕ). take n (column s (drop (len / 1024) xs))) e ∙ take_zero (column s (drop (len / 1024) xs)))
    | inr e ↦ inr (ap (λ (n : ℕ). column s (take n ys)) e ∙ ap (column s) (take_zero ys))
  ]

  pub joined_column : column t c ≡ take len (column s xs) ++ take more_len (column s ys)
  joined_column = swapped (column s (take (len / 1024) xs)) (column s (take j ys)) (take (len % 1024) (column s (drop (len / 1024) xs))) (take left (column s (drop j ys))) _ _ (column t c) even
      (ap joined laid.pages_are ∙ joined-append (blocks s (take (len / 1024) xs ++ take j ys)) pages ∙ (λ i. column-append s (take (len / 1024) xs) (take j ys) i ++ is i))
      first_part more_part

  full : AreFull (blocks s (take (len / 1024) xs))
  full = part_full s xs (len / 1024) kept below

  pages_as : blocks s (take (len / 1024) xs ++ take j ys) ≡ blocks s (take (len / 1024) xs) ++ blocks s (take j ys)
  pages_as = map-append (cells_at s) (take (len / 1024) xs) (take j ys)

  both : AreFull (blocks s (take j ys)) → IsPaged (blocks s (take (len / 1024) xs ++ take j ys) ++ pages)
  both f = subst (λ (bs : List (List Cell)). IsPaged (bs ++ pages)) (sym pages_as) (paged-append _ pages (full-append _ _ full f) paged)

  last : joined pages ≡ [] → IsPaged (blocks s (take (len / 1024) xs ++ take j ys) ++ pages)
  last none =
      subst (λ (bs : List (List Cell)). IsPaged bs) (sym ((λ i. pages_as i ++ no_pages pages paged none i) ∙ append-nil _))
      (paged-append _ (blocks s (take j ys)) full (subst IsPaged (sym (first_blocks s ys j)) (paged_first (blocks s ys) j more_kept.paged)))

  joined_paged : IsPaged (blocks s (take (len / 1024) xs ++ take j ys) ++ pages)
  joined_paged = elim whole.shape [
    | inl f ↦ both (subst AreFull (sym (first_blocks s ys j)) f)
    | inr n ↦ elim whole.even [
      | inl e ↦ last (is ∙ (λ i. (ap (λ (k : ℕ). take k (column s (drop (len / 1024) xs))) e ∙ take_zero (column s (drop (len / 1024) xs))) i
          ++ ((λ k. take (left_is k) (joined (rest_blocks s ys j k))) ∙ n) i))
      | inr e ↦ both (subst (λ (ps : List Place). AreFull (blocks s ps)) (sym (ap (λ (k : ℕ). take k ys) e ∙ take_zero ys)) tt)
    ]
  ]

  pub joined_kept : IsKept t c
  joined_kept = laid_kept s t (take (len / 1024) xs ++ take j ys) c pages laid joined_paged

-- how many whole pages can be shared behind other cells
pub shared_most : (len more_len first : ℕ) → (len % 1024 ≡ 0 → more_len / 1024 ≤ first) → (if len % 1024 == 0 then more_len / 1024 else 0) ≤ first
shared_most len more_len first most = grind (arith, nat_tests)

-- numbers that are all below a bound, the first of them in order
pub in_order_within : (bound : ℕ) (numbers : List ℕ) (n : ℕ) → All (λ i. i < bound) numbers → n ≤ length numbers → ((i : ℕ) → i < n → get_or numbers i 0 ≡ i) → n ≤ bound
in_order_within bound numbers zero a h each = omega arith
in_order_within bound numbers (suc n) a h each =
    let b : get_or numbers n 0 < bound = All-get_or (λ i. i < bound) numbers n 0 (omega arith) a in let e = each n (omega arith) in omega arith

-- a part of a list up to its end
pub numbers_slice : (xs : List ℕ) (k : ℕ) → take (length xs - k) (drop k xs) ≡ drop k xs
numbers_slice xs k = all_of (drop k xs) (length xs - k) (length-drop k xs)
  where
    all_of : (zs : List ℕ) (n : ℕ) → length zs ≡ n → take n zs ≡ zs
    all_of zs n l = ap (λ (m : ℕ). take m zs) (sym l) ∙ take-length zs

module _ (s t : ShelfPages) (xs c : List Place) (numbers : List ℕ) (j : ℕ) (d : Cell) (pages : List (List Cell)) (kept : IsKept s xs) (within : All (λ i. i < length (column s xs)) numbers) (few : j ≤ length numbers) (each : (i : ℕ) → i < j → get_or numbers i 0 ≡ i) where
  pub picked_below : 1024 * (j / 1024) ≤ length (column s xs)
  picked_below = let b = in_order_within (length (column s xs)) numbers j within few each in omega arith

  pub picked_column : IsLaid s t (take (j / 1024) xs) pages c → IsPaged pages → joined pages ≡ map (λ i. get_or (column s xs) i d) (drop (j / 1024 * 1024) numbers) → column t c ≡ map (λ i. get_or (column s xs) i d) numbers
  picked_column laid paged is =
      part_column s xs (j / 1024) kept picked_below t c pages laid paged
      ∙ (λ i. (first ∙ picked_first d (column s xs) numbers (j / 1024 * 1024) (omega arith) (let b = picked_below in omega arith) (λ i h. each i (omega arith))) i ++ is i)
      ∙ sym (map-append (λ i. get_or (column s xs) i d) (take (j / 1024 * 1024) numbers) (drop (j / 1024 * 1024) numbers))
      ∙ ap (map (λ i. get_or (column s xs) i d)) (take-append-drop (j / 1024 * 1024) numbers)
    where
      first : column s (take (j / 1024) xs) ≡ take (j / 1024 * 1024) (column s xs)
      first =
          sym (take-append_seam (column s (take (j / 1024) xs)) (column s (drop (j / 1024) xs)))
          ∙ (λ i. take ((let a = part_length s xs (j / 1024) kept picked_below in let z : length (column s (take (j / 1024) xs)) ≡ j / 1024 * 1024 = omega arith in z) i) (column_parts s xs (j / 1024) i))
