-- What a step of the slab is for the store that contracts see.
use Rattle.std.proofs.Common.{◌≡◌, ◌≢◌, ℕ, zero, suc, ◌+◌, List, [], ◌∷◌, refl, ap, sym, ◌∙◌, subst, map, arith}
use Rattle.std.specs.Prelude.{Option, Some, None, is_some, slice_index_or, slice_set, cond, IfSome, ◌≤◌}
use Rattle.std.proofs.lemmas.List.Recursion.{is_count_by}
use Rattle.slab.specs.Slab.{Slab, get, slab_len, Updates, with_value}
use Rattle.sop_pages.specs.declared.store.Counted.{Counted}
use Rattle.sop_pages.specs.Pages.{Held, Store, page_at, live_pages, count, count_of, cells_of, cells, IsLive, AreCounted}
use Rattle.sop_pages.specs.Cells.{IsPage}
use Rattle.sop_pages.specs.Slots.{held, store_of, AllCounted}

-- the page at one id is this now, and every other id has what it had
pub record Changes (old new : Store) (id : ℕ) (now : Option Held) : Type 0 where
  pub here : page_at new id ≡ now
  pub others : (other : ℕ) → other ≢ id → page_at new other ≡ page_at old other

pub held_at : (xs : List (Option Counted)) (id : ℕ) → slice_index_or (map held xs) id None ≡ held (slice_index_or xs id None)
held_at [] id = refl
held_at (x ∷ xs) zero = refl
held_at (x ∷ xs) (suc id) = held_at xs id

live_cons : (x : Option Counted) (xs : List (Option Counted)) → live_pages (map held (x ∷ xs)) ≡ cond (is_some x) (1 + live_pages (map held xs)) (live_pages (map held xs))
live_cons None xs = refl
live_cons (Some c) xs = refl

-- the pages are the values of the slab
pub live_len : (s : Slab Counted) → live_pages (store_of s) ≡ slab_len s
live_len s = is_count_by (λ xs. live_pages (map held xs)) is_some refl live_cons s.slots

set_here : (xs : List (Option Counted)) (id : ℕ) (c d : Counted) → Some c ≡ slice_index_or xs id None → slice_index_or (slice_set xs id (Some d)) id None ≡ Some d
set_here [] id c d e = absurd (cc)
set_here (x ∷ xs) zero c d e = refl
set_here (x ∷ xs) (suc id) c d e = set_here xs id c d e

set_other : (xs : List (Option Counted)) (id other : ℕ) (d : Counted) → other ≢ id → slice_index_or (slice_set xs id (Some d)) other None ≡ slice_index_or xs other None
set_other [] id other d n = refl
set_other (x ∷ xs) zero zero d n = absurd (n refl)
set_other (x ∷ xs) zero (suc other) d n = refl
set_other (x ∷ xs) (suc id) zero d n = refl
set_other (x ∷ xs) (suc id) (suc other) d n = set_other xs id other d (λ e. n (ap suc e))

live_set : (xs : List (Option Counted)) (id : ℕ) (c d : Counted) → Some c ≡ slice_index_or xs id None → live_pages (map held (slice_set xs id (Some d))) ≡ live_pages (map held xs)
live_set [] id c d e = absurd (cc)
live_set (None ∷ xs) zero c d e = absurd (cc)
live_set (Some x ∷ xs) zero c d e = refl
live_set (None ∷ xs) (suc id) c d e = live_set xs id c d e
live_set (Some x ∷ xs) (suc id) c d e = ap (λ (n : ℕ). 1 + n) (live_set xs id c d e)

-- a step of the slab at one key is a change of the store at one id
pub changes : (s t : Slab Counted) (store : Store) (key id : ℕ) (slot : Option Counted) → store_of s ≡ store → key ≡ id → Updates s t key slot → Changes store (store_of t) id (held slot)
changes s t store key id slot is same u =
    let P : Store → Type 0 = λ old. Changes old (store_of t) id (held slot) in
    let Q : ℕ → Type 0 = λ k. Changes (store_of s) (store_of t) k (held slot) in
    subst P is (subst Q same record {
      here = held_at t.slots key ∙ ap held u.changed;
      others = λ other apart. held_at t.slots other ∙ ap held (u.others other apart) ∙ sym (held_at s.slots other);
    })

-- what a key holds is the page at its id
pub found : (s : Slab Counted) (store : Store) (key id : ℕ) (slot : Option Counted) → store_of s ≡ store → key ≡ id → slot ≡ get s key → held slot ≡ page_at store id
found s store key id slot is same at = ap held at ∙ sym (held_at s.slots key) ∙ (λ i. page_at (is i) (same i))

-- a write through `get_mut` at a key that holds a page
pub wrote : (s : Slab Counted) (store : Store) (key id : ℕ) (c d : Counted) → store_of s ≡ store → key ≡ id → Some c ≡ get s key → Changes store (store_of (with_value s key d)) id (Some (d.page, d.count))
wrote s store key id c d is same at =
    changes s (with_value s key d) store key id (Some d) is same record { changed = set_here s.slots key c d at; others = λ other apart. set_other s.slots key other d apart }

pub wrote_live : (s : Slab Counted) (store : Store) (key : ℕ) (c d : Counted) → store_of s ≡ store → Some c ≡ get s key → live_pages (store_of (with_value s key d)) ≡ live_pages store
wrote_live s store key c d is at = live_set s.slots key c d at ∙ ap live_pages is

-- what is counted at an id is a page
held_is_a_page : (o : Option Counted) → IfSome o (λ c. (1 ≤ c.count) × IsPage c.page) → 1 ≤ count_of (held o) → IsPage (cells_of (held o))
held_is_a_page None all live = absurd (omega arith)
held_is_a_page (Some c) all live = all.1

pub live_is_a_page : (s : Slab Counted) (store : Store) → store_of s ≡ store → AllCounted s → (id : ℕ) → IsLive store id → IsPage (cells store id)
live_is_a_page s store is all id live =
    let P : Option Held → Type 0 = λ o. 1 ≤ count_of o → IsPage (cells_of o) in
    subst P (sym (held_at s.slots id) ∙ ap (λ (t : Store). page_at t id) is) (held_is_a_page (get s id) (all id)) live

held_is_counted : (o : Option Counted) → IfSome o (λ c. (1 ≤ c.count) × IsPage c.page) → IfSome (held o) (λ h. 1 ≤ h.1)
held_is_counted None all = tt
held_is_counted (Some c) all = all.0

pub each_counted : (s : Slab Counted) (store : Store) → store_of s ≡ store → AllCounted s → AreCounted store
each_counted s store is all id =
    let P : Option Held → Type 0 = λ o. IfSome o (λ h. 1 ≤ h.1) in
    subst P (sym (held_at s.slots id) ∙ ap (λ (t : Store). page_at t id) is) (held_is_counted (get s id) (all id))

abbrev pages_of : Option Held → ℕ
pages_of None = 0
pages_of (Some h) = 1

live_first : (o : Option Held) (s : Store) → live_pages (o ∷ s) ≡ pages_of o + live_pages s
live_first None s = omega arith
live_first (Some h) s = omega arith

alike : (o p : Option Held) → IfSome o (λ h. 1 ≤ h.1) → IfSome p (λ h. 1 ≤ h.1) → count_of o ≡ count_of p → pages_of o ≡ pages_of p
alike None None a b e = refl
alike None (Some q) a b e = absurd (omega arith)
alike (Some h) None a b e = absurd (omega arith)
alike (Some h) (Some q) a b e = refl

-- two stores with the same counts have as many pages, where each page has a holder
pub same_pages : (s t : Store) → AreCounted s → AreCounted t → ((id : ℕ) → count s id ≡ count t id) → live_pages s ≡ live_pages t
same_pages [] [] a b e = refl
same_pages [] (y ∷ t) a b e =
    let h = alike None y tt (b 0) (e 0) in let r = same_pages [] t (λ id. tt) (λ id. b (suc id)) (λ id. e (suc id)) in let l = live_first y t in omega arith
same_pages (x ∷ s) [] a b e =
    let h = alike x None (a 0) tt (e 0) in let r = same_pages s [] (λ id. a (suc id)) (λ id. tt) (λ id. e (suc id)) in let l = live_first x s in omega arith
same_pages (x ∷ s) (y ∷ t) a b e =
    let h = alike x y (a 0) (b 0) (e 0) in let r = same_pages s t (λ id. a (suc id)) (λ id. b (suc id)) (λ id. e (suc id)) in let l = live_first x s in let m = live_first y t in omega arith
