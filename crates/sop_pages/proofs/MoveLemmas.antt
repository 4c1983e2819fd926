-- Laws of what is covered and of what moves: they add up, they leave room for further places, and what others hold keeps its cells.
use Rattle.std.proofs.Common.{◌≡◌, ◌≢◌, ℕ, zero, suc, ◌+◌, ◌<◌, ◌≤◌, List, [], ◌∷◌, ◌++◌, map, refl, ap, sym, ◌∙◌, subst, arith, inl, inr}
use Rattle.std.proofs.lemmas.List.{map-append}
use Rattle.std.proofs.lemmas.Bool.Decides.{nat_tests}
use Rattle.std.specs.Prelude.{Option, Some, None, IfSome, ◌⊎◌, if◌then◌else◌, ◌==◌}
use Rattle.slab.specs.Slab.{Slab, get, Updates, with_value}
use Rattle.sop_pages.specs.declared.cell.Cell.{Cell}
use Rattle.sop_pages.specs.declared.page.Page.{Page}
use Rattle.sop_pages.specs.declared.store.Counted.{Counted}
use Rattle.sop_pages.specs.Pages.{Held, Store, page_at, cells, count, cells_of, count_of, live_pages}
use Rattle.sop_pages.specs.Cells.{IsPage}
use Rattle.sop_pages.specs.Slots.{store_of, held, AllCounted}
use Rattle.sop_pages.specs.Moves.{times, Moves}
use Rattle.sop_pages.proofs.StoreLemmas.{Changes, changes, found, held_at, wrote, wrote_live}

pub same_or : (x y : ℕ) → (x ≡ y) ⊎ (x ≢ y)
same_or zero zero = inl refl
same_or zero (suc y) = inr (λ e. omega arith)
same_or (suc x) zero = inr (λ e. omega arith)
same_or (suc x) (suc y) = elim (same_or x y) [ inl e ↦ inl (ap suc e) | inr n ↦ inr (λ e. n (omega arith)) ]

pub times-append : (x : ℕ) (ys zs : List ℕ) → times x (ys ++ zs) ≡ times x ys + times x zs
times-append x [] zs = omega arith
times-append x (y ∷ ys) zs = let r = times-append x ys zs in omega arith

pub times_here : (x k : ℕ) → x ≡ k → times x (k ∷ []) ≡ 1
times_here x k e = grind (arith, nat_tests)

pub times_else : (x k : ℕ) → x ≢ k → times x (k ∷ []) ≡ 0
times_else x k e = grind (arith, nat_tests)

-- one id has another page or count
one_change : (old new : Store) (id : ℕ) (now : Option Held) (gone come : List ℕ) → Changes old new id now → count_of now + times id gone ≡ count old id + times id come → (times id gone < count old id → cells_of now ≡ cells old id) → ((x : ℕ) → x ≢ id → times x gone ≡ times x come) → Moves old new gone come
one_change old new id now gone come c here kept rest = record {
  counts = λ x. elim (same_or x id) [
    | inl e ↦ let a : count new x ≡ count_of now = ap (count new) e ∙ ap count_of c.here in let b = ap (count old) e in let g = ap (λ (y : ℕ). times y gone) e in let h = ap (λ (y : ℕ). times y come) e in omega arith
    | inr n ↦ let a : count new x ≡ count old x = ap count_of (c.others x n) in let b = rest x n in omega arith
  ];
  kept = λ x less. elim (same_or x id) [
    | inl e ↦ let b = ap (count old) e in let g = ap (λ (y : ℕ). times y gone) e in ap (cells new) e ∙ ap cells_of c.here ∙ kept (omega arith) ∙ ap (cells old) (sym e)
    | inr n ↦ ap cells_of (c.others x n)
  ];
}

-- a page under an id that had none
pub put_moves : (old new : Store) (id : ℕ) (xs : List Cell) → page_at old id ≡ None → Changes old new id (Some (xs, 1)) → Moves old new [] (id ∷ [])
put_moves old new id xs free c = let a = times_here id id refl in let b : count old id ≡ 0 = ap count_of free in
    one_change old new id (Some (xs, 1)) [] (id ∷ []) c (omega arith) (λ h. absurd (omega arith)) (λ x n. sym (times_else x id n))

-- the same cells, one place more
pub share_moves : (old new : Store) (id : ℕ) (xs : List Cell) (n : ℕ) → Some (xs, n) ≡ page_at old id → Changes old new id (Some (xs, n + 1)) → Moves old new [] (id ∷ [])
share_moves old new id xs n at c = let a = times_here id id refl in let b : n ≡ count old id = ap count_of at in
    one_change old new id (Some (xs, n + 1)) [] (id ∷ []) c (omega arith) (λ h. ap cells_of at) (λ x n. sym (times_else x id n))

-- the same cells, one place less
pub lower_moves : (old new : Store) (id : ℕ) (xs : List Cell) (n m : ℕ) → Some (xs, n) ≡ page_at old id → m + 1 ≡ n → Changes old new id (Some (xs, m)) → Moves old new (id ∷ []) []
lower_moves old new id xs n m at less c = let a = times_here id id refl in let b : n ≡ count old id = ap count_of at in
    one_change old new id (Some (xs, m)) (id ∷ []) [] c (omega arith) (λ h. ap cells_of at) (λ x n. times_else x id n)

-- the last place gone, and the page with it
pub remove_moves : (old new : Store) (id : ℕ) → count old id ≡ 1 → Changes old new id None → Moves old new (id ∷ []) []
remove_moves old new id once c = let a = times_here id id refl in
    one_change old new id None (id ∷ []) [] c (omega arith) (λ h. absurd (omega arith)) (λ x n. times_else x id n)

-- the one place keeps its id and has other cells
pub record IsChanged (old new : Store) (id : ℕ) (now : List Cell) : Type 0 where
  pub moves : Moves old new (id ∷ []) (id ∷ [])
  pub here : cells new id ≡ now
  pub alone : count new id ≡ 1
  pub pages : live_pages new ≡ live_pages old + (if count old id == 1 then 0 else 1)

no_more : (n : ℕ) → n ≡ 1 → ◌≡◌ {A = ℕ} (if n == 1 then 0 else 1) 0
no_more n e = grind (arith, nat_tests)

-- a write through `get_mut` at a page of count 1, whose cells become what `f` makes of them
pub changed_alone : (s : Slab Counted) (old : Store) (key id : ℕ) (c d : Counted) (f : List Cell → List Cell) → store_of s ≡ old → key ≡ id → Some c ≡ get s key → c.count ≡ 1 → d.count ≡ c.count → d.page ≡ f c.page → IsChanged old (store_of (with_value s key d)) id (f (cells old id))
changed_alone s old key id c d f is same at once kept now =
    let new = store_of (with_value s key d) in
    let there : Some (c.page, c.count) ≡ page_at old id = found s old key id (Some c) is same at in
    let counted : c.count ≡ count old id = ap count_of there in
    let w : Changes old new id (Some (d.page, d.count)) = wrote s old key id c d is same at in
    let one : count old id ≡ 1 = sym counted ∙ once in
    let a = times_here id id refl in
    record {
      moves = one_change old new id (Some (d.page, d.count)) (id ∷ []) (id ∷ []) w (omega arith) (λ h. absurd (omega arith)) (λ x n. refl);
      here = ap cells_of w.here ∙ now ∙ ap (λ (o : Option Held). f (cells_of o)) there;
      alone = ap count_of w.here ∙ kept ∙ once;
      pages = let l = wrote_live s old key c d is at in let z = no_more (count old id) one in omega arith;
    }

-- one step after another
pub moves_then : (a b c : Store) (g h k l : List ℕ) → Moves a b g k → Moves b c h l → Moves a c (g ++ h) (k ++ l)
moves_then a b c g h k l p q = record {
  counts = λ x. let s = times-append x g h in let t = times-append x k l in let u = p.counts x in let v = q.counts x in omega arith;
  kept = λ x less. let s = times-append x g h in let u = p.counts x in q.kept x (omega arith) ∙ p.kept x (omega arith);
}

-- places that stay may be named on both sides
pub moves_more : (a b : Store) (g k g' k' : List ℕ) → Moves a b g k → ((x : ℕ) → times x g ≤ times x g') → ((x : ℕ) → times x g' + times x k ≡ times x g + times x k') → Moves a b g' k'
moves_more a b g k g' k' p less same = record {
  counts = λ x. let u = p.counts x in let v = same x in let w = less x in omega arith;
  kept = λ x h. let w = less x in p.kept x (omega arith);
}

pub moves_none : (a : Store) → Moves a a [] []
moves_none a = record { counts = λ x. refl; kept = λ x h. refl }

-- what has a further place, beside those that go, keeps its cells
pub kept_beside : (old new : Store) (gone come xs : List ℕ) → Moves old new gone come → ((x : ℕ) → 1 ≤ times x xs → times x gone < count old x) → map (cells new) xs ≡ map (cells old) xs
kept_beside old new gone come [] m c = refl
kept_beside old new gone come (x ∷ xs) m c =
    let a = times_here x x refl in
    let here : cells new x ≡ cells old x = m.kept x (c x (omega arith)) in
    let rest = kept_beside old new gone come xs m (λ y h. c y (omega arith)) in
    λ i. here i ∷ rest i

-- one more page is put, after those that the ids name
module _ (a s t : Slab Counted) (ids : List ℕ) (blocks : List (List Cell)) (key : ℕ) (page : Page) (free : get s key ≡ None) (u : Updates s t key (Some (record { page = page; count = 1 }))) (m : Moves (store_of a) (store_of s) [] ids) where
  one : Moves (store_of s) (store_of t) [] (key ∷ [])
  one = put_moves (store_of s) (store_of t) key page (sym (found s (store_of s) key key None refl refl (sym free))) (changes s t (store_of s) key key _ refl refl u)

  pub fill_counted : IsPage page → AllCounted s → AllCounted t
  fill_counted whole all id = let P : Option Counted → Type 0 = λ o. IfSome o (λ h. (1 ≤ h.count) × IsPage h.page) in elim (same_or id key) [
    | inl e ↦ subst P (sym (ap (get t) e ∙ u.changed)) (omega arith, whole)
    | inr n ↦ subst P (sym (u.others id n)) (all id)
  ]

  pub fill_moves : (after : List ℕ) → after ≡ ids ++ key ∷ [] → Moves (store_of a) (store_of t) [] after
  fill_moves after e = let P : List ℕ → Type 0 = λ xs. Moves (store_of a) (store_of t) [] xs in subst P (sym e) (moves_then (store_of a) (store_of s) (store_of t) [] [] ids (key ∷ []) m one)

  pub fill_fresh : (after : List ℕ) → after ≡ ids ++ key ∷ [] → ((id : ℕ) → 1 ≤ times id ids → count (store_of a) id ≡ 0) → (id : ℕ) → 1 ≤ times id after → count (store_of a) id ≡ 0
  fill_fresh after e was id held = elim (same_or id key) [
    | inl q ↦
        let bare : count (store_of s) key ≡ 0 = ap count_of (sym (found s (store_of s) key key None refl refl (sym free))) in
        let c = m.counts key in let w = ap (count (store_of a)) q in omega arith
    | inr n ↦ was id (let t = times_else id key n in let l = ap (times id) e in let p = times-append id ids (key ∷ []) in omega arith)
  ]

  pub fill_cells : (after : List ℕ) → after ≡ ids ++ key ∷ [] → map (cells (store_of s)) ids ≡ blocks → map (cells (store_of t)) after ≡ blocks ++ page ∷ []
  fill_cells after e is =
      ap (map (cells (store_of t))) e ∙ map-append (cells (store_of t)) ids (key ∷ [])
      ∙ (let old = kept_beside (store_of s) (store_of t) [] (key ∷ []) ids one (λ x h. let c = m.counts x in omega arith) ∙ is in
      let new : cells (store_of t) key ≡ page = ap cells_of (held_at t.slots key ∙ ap held u.changed) in
      λ i. old i ++ new i ∷ [])
