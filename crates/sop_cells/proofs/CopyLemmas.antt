-- Copies of one cell, in pages and in runs.
use Rattle.std.proofs.Common.{◌≡◌, ℕ, ◌+◌, ◌*◌, ◌<◌, ◌≤◌, List, [], ◌∷◌, ◌++◌, length, take, replicate, ap, sym, ◌∙◌, subst, arith, append_assoc}
use Rattle.std.proofs.lemmas.List.{length-replicate, replicate-append-replicate, take-replicate}
use Rattle.sop_pages.specs.declared.cell.Cell.{Cell}
use Rattle.sop_cells.specs.Shelves.{joined, IsPaged}
use Rattle.sop_cells.specs.Layouts.{AreFull}
use Rattle.sop_cells.proofs.PageLists.{joined_last, full-append, paged_last}

pub copies_more : (d : Cell) (a b n : ℕ) → a + b ≡ n → replicate a d ++ replicate b d ≡ replicate n d
copies_more d a b n e = replicate-append-replicate a b d ∙ ap (λ (k : ℕ). replicate k d) e

-- more copies behind others, the first cells of a run of copies that is long enough
pub copies_behind : (d : Cell) (long part whole n : ℕ) (xs old new run more : List Cell) → run ≡ replicate long d → part ≤ long → more ≡ take part run → whole + part ≡ n → new ≡ old ++ more → old ≡ xs ++ replicate whole d → new ≡ xs ++ replicate n d
copies_behind d long part whole n xs old new run more is h first e now was =
    now ∙ (λ i. was i ++ first i) ∙ (λ i. (xs ++ replicate whole d) ++ take part (is i)) ∙ ap (λ r. (xs ++ replicate whole d) ++ r) (take-replicate part long d h)
    ∙ append_assoc xs (replicate whole d) (replicate part d) ∙ ap (λ r. xs ++ r) (copies_more d whole part n e)

-- a page of copies behind full ones
module _ (pages new : List (List Cell)) (page : List Cell) (whole part : ℕ) (d : Cell) (is : new ≡ pages ++ page ∷ []) (page_is : page ≡ replicate part d) (was : joined pages ≡ replicate whole d) (full : AreFull pages) where
  long : length page ≡ part
  long = ap (λ (cs : List Cell). length cs) page_is ∙ length-replicate part d

  pub page_cells : (n : ℕ) → whole + part ≡ n → joined new ≡ replicate n d
  page_cells n e = ap joined is ∙ joined_last pages page ∙ (λ i. was i ++ page_is i) ∙ copies_more d whole part n e

  pub page_full : part ≡ 1024 → AreFull new
  page_full e = subst AreFull (sym is) (full-append pages (page ∷ []) full (long ∙ e, tt))

  pub page_paged : 0 < part → part ≤ 1024 → IsPaged new
  page_paged h l = subst IsPaged (sym is) (paged_last pages page full (let a = long in (omega arith, omega arith)))
