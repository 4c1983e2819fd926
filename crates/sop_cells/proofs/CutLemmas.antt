-- First cells of lists of pages, and of lists of cells.
use Rattle.std.proofs.Common.{◌≡◌, ℕ, zero, suc, ◌+◌, ◌-◌, ◌*◌, ◌/◌, ◌%◌, ◌^◌, ◌<◌, ◌≤◌, List, [], ◌∷◌, ◌++◌, length, take, drop, set, get_or, replicate, refl, ap, sym, ◌∙◌, arith, length-append, inl, inr}
use Rattle.std.specs.Prelude.{◌⊎◌}
use Rattle.std.proofs.lemmas.List.{append-nil, take-append-le, length-replicate, length-take-le}
use Rattle.std.proofs.Math.Seq.{take-append-add, take-length}
use Rattle.std.proofs.Math.Nat.{pow-le-pow_right, div-add-mod}
use Rattle.sop_pages.specs.declared.cell.Cell.{Cell}
use Rattle.sop_cells.specs.Shelves.{joined, IsPaged}
use Rattle.sop_cells.specs.Layouts.{AreWhole}
use Rattle.sop_cells.proofs.PageLists.{joined_parts, full_first}

pub le_or : (a b : ℕ) → (a ≤ b) ⊎ (b < a)
le_or zero b = inl (omega arith)
le_or (suc a) zero = inr (omega arith)
le_or (suc a) (suc b) = elim (le_or a b) [ inl h ↦ inl (omega arith) | inr h ↦ inr (omega arith) ]

-- a power of two whose half is below a page's cells is at most them
pub page_power : (p k : ℕ) → p ≡ 2 ^ k → p / 2 < 1024 → p ≤ 1024
page_power p k e h = elim (le_or k 10) [
  | inl l ↦ let a = pow-le-pow_right {n = 2} (omega arith) {i = k} {j = 10} l in let b : 2 ^ 10 ≡ 1024 = refl in omega arith
  | inr l ↦ let a = pow-le-pow_right {n = 2} (omega arith) {i = 11} {j = k} (omega arith) in let b : 2 ^ 11 ≡ 2048 = refl in absurd (omega arith)
]

-- where so many cells are there, so many first pages are, and they are full
pub length_first : (bs : List (List Cell)) (k : ℕ) → IsPaged bs → 1024 * k ≤ length (joined bs) → length (joined (take k bs)) ≡ 1024 * k
length_first [] zero p h = omega arith
length_first [] (suc k) p h = absurd (omega arith)
length_first (b ∷ bs) zero p h = omega arith
length_first (b ∷ []) (suc k) p h = let a = length-append b (joined []) in let e = p.0.1 in let f = length-append b (joined (take k [])) in let r = length_first [] k tt (omega arith) in omega arith
length_first (b ∷ c ∷ bs) (suc k) p h =
    let e = p.1 (omega arith) in let a = length-append b (joined (c ∷ bs)) in let f = length-append b (joined (take k (c ∷ bs))) in let r = length_first (c ∷ bs) k p.2 (omega arith) in omega arith

pub first_within : (bs : List (List Cell)) (k : ℕ) → IsPaged bs → 1024 * k ≤ length (joined bs) → k ≤ length bs
first_within [] zero p h = omega arith
first_within [] (suc k) p h = absurd (omega arith)
first_within (b ∷ bs) zero p h = omega arith
first_within (b ∷ bs) (suc k) p h = let a = length-append b (joined bs) in let e = p.0.1 in let r = first_within bs k p.2 (omega arith) in omega arith

pub rest_length : (bs : List (List Cell)) (k : ℕ) → IsPaged bs → 1024 * k ≤ length (joined bs) → length (joined (drop k bs)) + 1024 * k ≡ length (joined bs)
rest_length bs k p h = let a = length_first bs k p h in let b = ap (λ (cs : List Cell). length cs) (joined_parts bs k) in let c = length-append (joined (take k bs)) (joined (drop k bs)) in omega arith

-- how many cells there are, by the last page
pub count_last : (bs : List (List Cell)) (m : ℕ) → IsPaged bs → length bs ≡ m + 1 → length (joined bs) ≡ 1024 * m + length (get_or bs m [])
count_last [] m p e = absurd (omega arith)
count_last (b ∷ []) zero p e = let a = length-append b (joined []) in omega arith
count_last (b ∷ []) (suc m) p e = absurd (omega arith)
count_last (b ∷ c ∷ bs) zero p e = absurd (omega arith)
count_last (b ∷ c ∷ bs) (suc m) p e = let f = p.1 (omega arith) in let a = length-append b (joined (c ∷ bs)) in let r = count_last (c ∷ bs) m p.2 (omega arith) in omega arith

-- all that is wanted is there
pub take_all_of : (xs : List Cell) (n : ℕ) → length xs ≤ n → take n xs ≡ xs
take_all_of [] zero h = refl
take_all_of [] (suc n) h = refl
take_all_of (x ∷ xs) zero h = absurd (omega arith)
take_all_of (x ∷ xs) (suc n) h = ap (λ r. x ∷ r) (take_all_of xs n (omega arith))

pub take_over : (xs ys : List Cell) (n m : ℕ) → n ≡ length xs + m → take n (xs ++ ys) ≡ xs ++ take m ys
take_over xs ys n m e = ap (λ (k : ℕ). take k (xs ++ ys)) e ∙ take-append-add xs ys m

-- a part of the first cells, and then what is left of them
pub take_part : (xs ys : List Cell) (n part : ℕ) → part ≤ length xs → part ≤ n → (part ≡ length xs) ⊎ (part ≡ n) → take n (xs ++ ys) ≡ take part xs ++ take (n - part) ys
take_part xs ys n part h l one = elim one [
  | inl e ↦ take_over xs ys n (n - part) (omega arith) ∙ ap (λ r. r ++ take (n - part) ys) (sym (take_all_of xs part (omega arith)))
  | inr e ↦ let z : n - part ≡ 0 = omega arith in
      take-append-le n xs ys (omega arith) ∙ ap (λ (k : ℕ). take k xs) (sym e) ∙ sym (append-nil (take part xs)) ∙ ap (λ (k : ℕ). take part xs ++ take k ys) (sym z)
]

-- the last page is cut, so that so many cells are left
pub cut_last : (bs : List (List Cell)) (m keep len : ℕ) → IsPaged bs → length bs ≡ m + 1 → len ≡ 1024 * m + keep → len ≤ length (joined bs) → 1 ≤ keep → joined (set bs m (take keep (get_or bs m []))) ≡ take len (joined bs)
cut_last [] m keep len p e n l k = absurd (omega arith)
cut_last (b ∷ []) zero keep len p e n l k =
    let z : keep ≡ len = omega arith in
    append-nil (take keep b) ∙ ap (λ (j : ℕ). take j b) z ∙ ap (λ (cs : List Cell). take len cs) (sym (append-nil b))
cut_last (b ∷ []) (suc m) keep len p e n l k = absurd (omega arith)
cut_last (b ∷ c ∷ bs) zero keep len p e n l k = absurd (omega arith)
cut_last (b ∷ c ∷ bs) (suc m) keep len p e n l k =
    let f = p.1 (omega arith) in let a = length-append b (joined (c ∷ bs)) in
    ap (λ r. b ++ r) (cut_last (c ∷ bs) m keep (1024 * m + keep) p.2 (omega arith) refl (omega arith) k) ∙ sym (take_over b (joined (c ∷ bs)) len (1024 * m + keep) (omega arith))

pub cut_paged : (bs : List (List Cell)) (m keep : ℕ) → IsPaged bs → length bs ≡ m + 1 → 1 ≤ keep → keep ≤ length (get_or bs m []) → IsPaged (set bs m (take keep (get_or bs m [])))
cut_paged [] m keep p e k h = tt
cut_paged (b ∷ []) zero keep p e k h = let a = length-take-le keep b h in let q = p.0.1 in ((omega arith, omega arith), (λ z. absurd (omega arith)), tt)
cut_paged (b ∷ []) (suc m) keep p e k h = absurd (omega arith)
cut_paged (b ∷ c ∷ bs) zero keep p e k h = absurd (omega arith)
cut_paged (b ∷ c ∷ bs) (suc m) keep p e k h = let f = p.1 (omega arith) in (p.0, (λ z. f), cut_paged (c ∷ bs) m keep p.2 (omega arith) k h)

-- how many of the first pages can stand whole behind others: none
pub whole_none : (bs : List (List Cell)) (before len : ℕ) → 0 < before % 1024 → AreWhole bs before len 0
whole_none bs before len odd = record { within = omega arith; most = λ e. absurd (omega arith); few = omega arith; even = inr refl; parts = (let z : len - 0 * 1024 ≡ len = omega arith in ap (λ (n : ℕ). take n (joined bs)) z); shape = inl tt }

-- the full ones
pub whole_full : (bs : List (List Cell)) (before len k : ℕ) → IsPaged bs → before % 1024 ≤ 0 → 1024 * k ≤ len → len ≤ length (joined bs) → len / 1024 ≤ k → AreWhole bs before len k
whole_full bs before len k p even h l full = record {
  within = first_within bs k p (omega arith);
  most = λ e. full;
  few = omega arith;
  even = inl (omega arith);
  parts = sym (take_over (joined (take k bs)) (joined (drop k bs)) len (len - k * 1024) (let a = length_first bs k p (omega arith) in omega arith)) ∙ ap (λ (cs : List Cell). take len cs) (joined_parts bs k);
  shape = inl (full_first bs k p (omega arith));
}

-- all of them, where the last one ends with what is wanted
pub whole_all : (bs : List (List Cell)) (before len k : ℕ) → IsPaged bs → before % 1024 ≤ 0 → k < length bs → length (get_or bs k []) ≡ len % 1024 → 1024 * k ≤ len → len < 1024 * k + 1024 → AreWhole bs before len (k + 1)
whole_all bs before len k p even h e l m =
    let last : length bs ≡ k + 1 = last_is bs k p h (omega arith) in
    let long = count_last bs k p last in
    record {
      within = omega arith;
      most = λ e. omega arith;
      few = let s = some_at bs k p h in omega arith;
      even = inl (omega arith);
      parts = (λ i. joined (all_taken last i) ++ take (len - (k + 1) * 1024) (joined (none_left last i))) ∙ (λ i. joined bs ++ no_cells (len - (k + 1) * 1024) i) ∙ append-nil (joined bs) ∙ sym (take_all_of (joined bs) len (omega arith));
      shape = inr (ap (λ (cs : List (List Cell)). take (len - (k + 1) * 1024) (joined cs)) (none_left last) ∙ no_cells (len - (k + 1) * 1024));
    }
  where
    last_is : (bs : List (List Cell)) (k : ℕ) → IsPaged bs → k < length bs → length (get_or bs k []) < 1024 → length bs ≡ k + 1
    last_is [] k p h s = absurd (omega arith)
    last_is (b ∷ []) zero p h s = omega arith
    last_is (b ∷ c ∷ bs) zero p h s = absurd (let f = p.1 (omega arith) in omega arith)
    last_is (b ∷ bs) (suc k) p h s = let r = last_is bs k p.2 (omega arith) s in omega arith

    some_at : (bs : List (List Cell)) (k : ℕ) → IsPaged bs → k < length bs → 1 ≤ length (get_or bs k [])
    some_at [] k p h = absurd (omega arith)
    some_at (b ∷ bs) zero p h = p.0.0
    some_at (b ∷ bs) (suc k) p h = some_at bs k p.2 (omega arith)

    all_taken : length bs ≡ k + 1 → take (k + 1) bs ≡ bs
    all_taken last = ap (λ (n : ℕ). take n bs) (sym last) ∙ take-length bs

    none_left : length bs ≡ k + 1 → drop (k + 1) bs ≡ []
    none_left last = ap (λ (n : ℕ). drop n bs) (sym last) ∙ drop-all bs
      where
        drop-all : (cs : List (List Cell)) → drop (length cs) cs ≡ []
        drop-all [] = refl
        drop-all (d ∷ cs) = drop-all cs

    no_cells : (n : ℕ) → take n (joined []) ≡ []
    no_cells zero = refl
    no_cells (suc n) = refl

-- what is longer by copies of a cell
pub longer : (old new : List Cell) (more : ℕ) (cell : Cell) → new ≡ old ++ replicate more cell → new ≡ old ++ replicate (length new - length old) cell
longer old new more cell e =
    let l = ap (λ (cs : List Cell). length cs) e in let a = length-append old (replicate more cell) in let r = length-replicate more cell in
    let z : more ≡ length new - length old = omega arith in e ∙ ap (λ (n : ℕ). old ++ replicate n cell) z

-- how many cells of the last page are left where so many are wanted in all
module _ (bs : List (List Cell)) (m len : ℕ) (p : IsPaged bs) (e : length bs ≡ m + 1) (few : 1024 * length bs < len + 1024) (within : len ≤ length (joined bs)) where
  last_bound : length (get_or bs m []) ≤ 1024
  last_bound = bound bs m p (omega arith)
    where
      bound : (cs : List (List Cell)) (k : ℕ) → IsPaged cs → k < length cs → length (get_or cs k []) ≤ 1024
      bound [] k q h = absurd (omega arith)
      bound (c ∷ cs) zero q h = q.0.1
      bound (c ∷ cs) (suc k) q h = bound cs k q.2 (omega arith)

  pub keep_is : len ≡ 1024 * m + ((len - 1) % 1024 + 1)
  keep_is = let a = count_last bs m p e in let b = last_bound in let c = div-add-mod (len - 1) 1024 in let d : (len - 1) / 1024 ≡ m = omega arith in omega arith

  pub keep_within : (len - 1) % 1024 + 1 ≤ length (get_or bs m [])
  keep_within = let a = count_last bs m p e in let k = keep_is in omega arith

  pub kept_cells : joined (set bs m (take ((len - 1) % 1024 + 1) (get_or bs m []))) ≡ take len (joined bs)
  kept_cells = cut_last bs m ((len - 1) % 1024 + 1) len p e keep_is within (omega arith)

  pub kept_paged : IsPaged (set bs m (take ((len - 1) % 1024 + 1) (get_or bs m [])))
  kept_paged = cut_paged bs m ((len - 1) % 1024 + 1) p e (omega arith) keep_within
