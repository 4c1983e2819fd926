-- Lists of pages: where a cell lies, what a write makes of them, and full pages before others.
use Rattle.std.proofs.Common.{◌≡◌, ℕ, zero, suc, ◌+◌, ◌-◌, ◌*◌, ◌<◌, ◌≤◌, List, [], ◌∷◌, ◌++◌, length, take, drop, set, get_or, refl, ap, sym, ◌∙◌, arith, append_assoc, length-append}
use Rattle.std.proofs.lemmas.List.{get_or-append_right, set-append_right, set-append_left, append-nil, take-append-drop}
use Rattle.std.proofs.Math.ListN.{get_or-append}
use Rattle.sop_pages.specs.declared.cell.Cell.{Cell}
use Rattle.sop_pages.specs.Cells.{IsPage}
use Rattle.sop_cells.specs.Shelves.{joined, IsPaged}
use Rattle.sop_cells.specs.Layouts.{AreFull}

pub joined-append : (xs ys : List (List Cell)) → joined (xs ++ ys) ≡ joined xs ++ joined ys
joined-append [] ys = refl
joined-append (x ∷ xs) ys = ap (λ r. x ++ r) (joined-append xs ys) ∙ sym (append_assoc x (joined xs) (joined ys))

-- where a cell lies
pub record Lies (bs : List (List Cell)) (k j : ℕ) : Type 0 where
  pub page : k < length bs
  pub cell : j < length (get_or bs k [])

pub lies : (bs : List (List Cell)) (k j : ℕ) → IsPaged bs → j < 1024 → 1024 * k + j < length (joined bs) → Lies bs k j
lies [] k j p h l = absurd (omega arith)
lies (b ∷ []) zero j p h l = let e = length-append b (joined []) in record { page = omega arith; cell = omega arith }
lies (b ∷ c ∷ bs) zero j p h l = let full : length b ≡ 1024 = p.1 (omega arith) in record { page = omega arith; cell = omega arith }
lies (b ∷ bs) (suc k) j p h l =
    let e = length-append b (joined bs) in let full = p.0.1 in
    let r = lies bs k j p.2 h (omega arith) in record { page = let q = r.page in omega arith; cell = r.cell }

full_before : (b : List Cell) (bs : List (List Cell)) (k j : ℕ) → IsPaged (b ∷ bs) → j < length (get_or bs k []) → length b ≡ 1024
full_before b [] k j p l = absurd (omega arith)
full_before b (c ∷ bs) k j p l = p.1 (omega arith)

pub get_page : (bs : List (List Cell)) (k j : ℕ) (d : Cell) → IsPaged bs → j < length (get_or bs k []) → get_or (joined bs) (1024 * k + j) d ≡ get_or (get_or bs k []) j d
get_page [] k j d p l = absurd (omega arith)
get_page (b ∷ bs) zero j d p l = let z : 1024 * zero + j ≡ j = omega arith in ap (λ n. get_or (b ++ joined bs) n d) z ∙ get_or-append b (joined bs) d j l
get_page (b ∷ bs) (suc k) j d p l =
    let f = full_before b bs k j p l in
    let z : 1024 * suc k + j - 1024 ≡ 1024 * k + j = omega arith in
    get_or-append_right b (joined bs) 1024 (1024 * suc k + j) d f (omega arith) ∙ ap (λ n. get_or (joined bs) n d) z ∙ get_page bs k j d p.2 l

pub set_page : (bs : List (List Cell)) (k j : ℕ) (v : Cell) → IsPaged bs → j < length (get_or bs k []) → joined (set bs k (set (get_or bs k []) j v)) ≡ set (joined bs) (1024 * k + j) v
set_page [] k j v p l = absurd (omega arith)
set_page (b ∷ bs) zero j v p l = let z : j ≡ 1024 * zero + j = omega arith in sym (set-append_left b (joined bs) j v l) ∙ ap (λ n. set (b ++ joined bs) n v) z
set_page (b ∷ bs) (suc k) j v p l =
    let f = full_before b bs k j p l in
    let z : 1024 * k + j ≡ 1024 * suc k + j - 1024 = omega arith in
    ap (λ r. b ++ r) (set_page bs k j v p.2 l ∙ ap (λ n. set (joined bs) n v) z) ∙ sym (set-append_right b (joined bs) 1024 (1024 * suc k + j) v f (omega arith))

length_set_block : (bs : List (List Cell)) (k : ℕ) (b : List Cell) → length (set bs k b) ≡ length bs
length_set_block [] k b = refl
length_set_block (c ∷ bs) zero b = refl
length_set_block (c ∷ bs) (suc k) b = ap suc (length_set_block bs k b)

-- a page of the same length keeps the shape
pub paged_set : (bs : List (List Cell)) (k : ℕ) (b : List Cell) → IsPaged bs → length b ≡ length (get_or bs k []) → IsPaged (set bs k b)
paged_set [] k b p e = tt
paged_set (c ∷ bs) zero b p e = ((let a = p.0.0 in omega arith, let a = p.0.1 in omega arith), (λ h. let f = p.1 h in omega arith), p.2)
paged_set (c ∷ bs) (suc k) b p e = (p.0, (λ h. p.1 (let q = length_set_block bs k b in omega arith)), paged_set bs k b p.2 e)

-- a column needs its pages
pub tight : (bs : List (List Cell)) → IsPaged bs → 1024 * length bs < length (joined bs) + 1024
tight [] p = omega arith
tight (b ∷ []) p = let e = length-append b (joined []) in let a = p.0.0 in omega arith
tight (b ∷ c ∷ bs) p = let e = length-append b (joined (c ∷ bs)) in let f = p.1 (omega arith) in let r = tight (c ∷ bs) p.2 in omega arith

pub full-append : (xs ys : List (List Cell)) → AreFull xs → AreFull ys → AreFull (xs ++ ys)
full-append [] ys f g = g
full-append (x ∷ xs) ys f g = (f.0, full-append xs ys f.1 g)

-- full pages before others
pub paged-append : (xs ys : List (List Cell)) → AreFull xs → IsPaged ys → IsPaged (xs ++ ys)
paged-append [] ys f p = p
paged-append (x ∷ xs) ys f p = let e = f.0 in ((omega arith, omega arith), (λ h. e), paged-append xs ys f.1 p)

pub paged_none : (xs : List (List Cell)) → AreFull xs → IsPaged xs
paged_none [] f = tt
paged_none (x ∷ xs) f = let e = f.0 in ((omega arith, omega arith), (λ h. e), paged_none xs f.1)

-- full pages, and one page behind them
pub joined_last : (xs : List (List Cell)) (y : List Cell) → joined (xs ++ y ∷ []) ≡ joined xs ++ y
joined_last xs y = joined-append xs (y ∷ []) ∙ ap (λ r. joined xs ++ r) (append-nil y)

pub paged_last : (xs : List (List Cell)) (y : List Cell) → AreFull xs → IsPage y → IsPaged (xs ++ y ∷ [])
paged_last xs y f p = paged-append xs (y ∷ []) f (p, (λ h. absurd (omega arith)), tt)

pub some_cells : (xs : List Cell) → (xs ≡ [] → 1 ≤ 0) → 1 ≤ length xs
some_cells [] n = absurd (let z = n refl in omega arith)
some_cells (x ∷ xs) n = omega arith

pub length_full : (xs : List (List Cell)) → AreFull xs → length (joined xs) ≡ 1024 * length xs
length_full [] f = omega arith
length_full (x ∷ xs) f = let e = f.0 in let a = length-append x (joined xs) in let r = length_full xs f.1 in omega arith

-- pages that lie within the cells that full pages would hold are full
pub full_first : (bs : List (List Cell)) (k : ℕ) → IsPaged bs → 1024 * k ≤ length (joined bs) → AreFull (take k bs)
full_first [] zero p h = tt
full_first [] (suc k) p h = tt
full_first (b ∷ bs) zero p h = tt
full_first (b ∷ []) (suc k) p h = let a = length-append b (joined []) in let e = p.0.1 in (omega arith, first_none k)
  where
    first_none : (k : ℕ) → AreFull (take k [])
    first_none zero = tt
    first_none (suc k) = tt
full_first (b ∷ c ∷ bs) (suc k) p h =
    let e = p.1 (omega arith) in let a = length-append b (joined (c ∷ bs)) in (e, full_first (c ∷ bs) k p.2 (omega arith))

pub paged_first : (bs : List (List Cell)) (k : ℕ) → IsPaged bs → IsPaged (take k bs)
paged_first [] zero p = tt
paged_first [] (suc k) p = tt
paged_first (b ∷ bs) zero p = tt
paged_first (b ∷ bs) (suc k) p = (p.0, (λ h. p.1 (let t = shorter bs k in omega arith)), paged_first bs k p.2)
  where
    shorter : (bs : List (List Cell)) (k : ℕ) → length (take k bs) ≤ length bs
    shorter [] zero = omega arith
    shorter [] (suc k) = omega arith
    shorter (b ∷ bs) zero = omega arith
    shorter (b ∷ bs) (suc k) = let r = shorter bs k in omega arith

pub joined_parts : (bs : List (List Cell)) (k : ℕ) → joined (take k bs) ++ joined (drop k bs) ≡ joined bs
joined_parts bs k = sym (joined-append (take k bs) (drop k bs)) ∙ ap joined (take-append-drop k bs)

-- pages without cells are none
pub no_pages : (bs : List (List Cell)) → IsPaged bs → joined bs ≡ [] → bs ≡ []
no_pages [] p e = refl
no_pages (b ∷ bs) p e = absurd (let l = ap (λ (cs : List Cell). length cs) e in let a = length-append b (joined bs) in let h = p.0.0 in omega arith)
