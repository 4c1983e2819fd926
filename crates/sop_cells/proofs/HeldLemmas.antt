-- One place of a row of places: it holds a page, and the row is held or let go of place by place.
use Rattle.std.proofs.Common.{◌≡◌, ℕ, zero, suc, ◌+◌, ◌^◌, ◌<◌, ◌≤◌, List, [], ◌∷◌, ◌++◌, length, take, drop, get_or, refl, ap, sym, ◌∙◌, subst, arith}
use Rattle.std.specs.Prelude.{Option, Some, None}
use Rattle.sop_pages.specs.declared.cell.Cell.{Cell}
use Rattle.sop_pages.specs.Pages.{Store, count, cells}
use Rattle.sop_pages.specs.Moves.{times, Covers}
use Rattle.sop_pages.proofs.MoveLemmas.{times_here}
use Rattle.sop_cells.specs.declared.place.Place.{Place}
use Rattle.sop_cells.specs.declared.place.Place.TheVariants.{Own, Base}
use Rattle.sop_cells.specs.Places.{own, AreBased}
use Rattle.sop_cells.specs.Shelves.{ShelfPages, IsHere, count_at, cells_at, Shifts}
use Rattle.sop_cells.specs.Layouts.{CanHold, IsCopy}
use Rattle.sop_cells.proofs.PlaceLemmas.{held-append, shifts_then}

pub take_next : (xs : List Place) (k : ℕ) (d : Place) → k < length xs → d ≡ get_or xs k d → take (k + 1) xs ≡ take k xs ++ d ∷ []
take_next [] k d h at = absurd (omega arith)
take_next (x ∷ xs) zero d h at = λ i. sym at i ∷ []
take_next (x ∷ xs) (suc k) d h at = let z : suc k + 1 ≡ suc (k + 1) = omega arith in ap (λ (n : ℕ). take n (x ∷ xs)) z ∙ ap (λ r. x ∷ r) (take_next xs k d (omega arith) at)

pub drop_next : (xs : List Place) (k : ℕ) (d : Place) → k < length xs → d ≡ get_or xs k d → drop k xs ≡ d ∷ drop (k + 1) xs
drop_next [] k d h at = absurd (omega arith)
drop_next (x ∷ xs) zero d h at = λ i. sym at i ∷ xs
drop_next (x ∷ xs) (suc k) d h at = let z : suc (k + 1) ≡ suc k + 1 = omega arith in drop_next xs k d (omega arith) at ∙ ap (λ (n : ℕ). d ∷ drop n (x ∷ xs)) z

-- an id is held in the first places, and by the next one, and by all of them
module _ (xs : List Place) (k : ℕ) (p : Place) (within : k < length xs) (at : p ≡ get_or xs k p) where
  pub next_held : (x : ℕ) → times x (own (take (k + 1) xs)) ≡ times x (own (take k xs)) + times x (own (p ∷ []))
  next_held x = ap (λ (ps : List Place). times x (own ps)) (take_next xs k p within at) ∙ held-append x (take k xs) (p ∷ [])

pub first_held : (xs : List Place) (k x : ℕ) → times x (own (take k xs)) ≤ times x (own xs)
first_held [] zero x = omega arith
first_held [] (suc k) x = omega arith
first_held (y ∷ ys) zero x = omega arith
first_held (Own y ∷ ys) (suc k) x = let r = first_held ys k x in omega arith
first_held (Base y ∷ ys) (suc k) x = first_held ys k x

pub first_based : (base : Store) (xs : List Place) (k : ℕ) → AreBased base xs → AreBased base (take k xs)
first_based base [] zero b = tt
first_based base [] (suc k) b = tt
first_based base (y ∷ ys) zero b = tt
first_based base (Own y ∷ ys) (suc k) b = first_based base ys k b
first_based base (Base y ∷ ys) (suc k) b = (b.0, first_based base ys k b.1)

-- one place holds no more than all of them
pub one_held : (xs : List Place) (k : ℕ) (p : Place) → k < length xs → p ≡ get_or xs k p → (x : ℕ) → times x (own (p ∷ [])) ≤ times x (own xs)
one_held xs k p h at x = let a = next_held xs k p h at x in let b = first_held xs (k + 1) x in omega arith

-- a place of a row that is covered holds a page
pub here_at : (s : ShelfPages) (xs : List Place) (k : ℕ) (p : Place) → ((x : ℕ) → 1 ≤ times x (own xs) → 1 ≤ count s.own x) → AreBased s.base xs → k < length xs → p ≡ get_or xs k p → IsHere s p
here_at s [] k p c b h at = absurd (omega arith)
here_at s (Own y ∷ ys) zero p c b h at = subst (IsHere s) (sym at) (c y (let o = times_here y y refl in omega arith))
here_at s (Base y ∷ ys) zero p c b h at = subst (IsHere s) (sym at) b.0
here_at s (Own y ∷ ys) (suc k) p c b h at = here_at s ys k p (λ x l. c x (omega arith)) b (omega arith) at
here_at s (Base y ∷ ys) (suc k) p c b h at = here_at s ys k p c b.1 (omega arith) at

-- a place that stays holds a page after the step
pub here_after : (s t : ShelfPages) (gone come : List Place) (p : Place) → Shifts s t gone come → IsHere s p → ((x : ℕ) → 1 ≤ times x (own (p ∷ [])) → times x (own gone) < count s.own x) → IsHere t p
here_after s t gone come (Own x) m h free = let a = free x (let o = times_here x x refl in omega arith) in let c = m.moves.counts x in omega arith
here_after s t gone come (Base x) m h free = subst (λ (b : Store). 1 ≤ count b x) (sym m.base) h

count_room : (s : ShelfPages) (p : Place) (n : ℕ) → 1 < n → ((x : ℕ) → 1 ≤ times x (own (p ∷ [])) → count s.own x + times x (own (p ∷ [])) < n) → count_at s p + 1 < n
count_room s (Own x) n h room = let o = times_here x x refl in let a = room x (omega arith) in omega arith
count_room s (Base x) n h room = h

-- places that are covered can be held once more where there is room
pub can_hold : (s : ShelfPages) (xs : List Place) → Covers s.own (own xs) → AreBased s.base xs → ((x : ℕ) → count s.own x + times x (own xs) < 2 ^ 128) → CanHold s xs
can_hold s xs c b r = record { live = λ x h. let a = c.each x in omega arith; based = b; room = λ x h. r x }

-- the row is held as far as the place `p`, which is the next one
module _ (xs : List Place) (k : ℕ) (p : Place) (within : k < length xs) (at : p ≡ get_or xs k p) (a b : ShelfPages) (can : CanHold a xs) where
  pub hold_live : Shifts a b [] (take k xs) → IsHere b p
  hold_live m = here_after a b [] (take k xs) p m (here_at a xs k p can.live can.based within at) (λ x h. let o = one_held xs k p within at x in let c = can.live x (omega arith) in omega arith)

  pub hold_room : Shifts a b [] (take k xs) → count_at b p + 1 < 2 ^ 128
  hold_room m = count_room b p (2 ^ 128) (omega arith) (λ x h.
      let o = one_held xs k p within at x in let d = can.room x (omega arith) in
      let c = m.moves.counts x in let e = next_held xs k p within at x in let f = first_held xs (k + 1) x in omega arith)

  pub hold_more : (c : ShelfPages) → Shifts a b [] (take k xs) → Shifts b c [] (p ∷ []) → Shifts a c [] (take (k + 1) xs)
  hold_more c m n = subst (λ (ps : List Place). Shifts a c [] ps) (sym (take_next xs k p within at)) (shifts_then a b c [] [] (take k xs) (p ∷ []) m n)

-- the row is let go of as far as the place `p`, which is the next one
module _ (xs : List Place) (k : ℕ) (p : Place) (within : k < length xs) (at : p ≡ get_or xs k p) (a b : ShelfPages) (covered : Covers a.own (own xs)) (based : AreBased a.base xs) where
  here : IsHere a p
  here = here_at a xs k p (λ x h. let c = covered.each x in omega arith) based within at

  all : (x : ℕ) → times x (own (take k xs)) + times x (own (p ∷ [])) ≤ count a.own x
  all x = let m = next_held xs k p within at x in let f = first_held xs (k + 1) x in let c = covered.each x in omega arith

  pub release_live : Shifts a b (take k xs) [] → IsHere b p
  release_live m = here_after a b (take k xs) [] p m here (λ x h. let c = all x in omega arith)

  pub release_more : (c : ShelfPages) → Shifts a b (take k xs) [] → Shifts b c (p ∷ []) [] → Shifts a c (take (k + 1) xs) []
  release_more c m n = subst (λ (ps : List Place). Shifts a c ps []) (sym (take_next xs k p within at)) (shifts_then a b c (take k xs) (p ∷ []) [] [] m n)

  -- its page is the same until its turn
  pub release_cells : Shifts a b (take k xs) [] → cells_at b p ≡ cells_at a p
  release_cells m = same p (λ x h. let c = all x in omega arith) m
    where
      same : (q : Place) → ((x : ℕ) → 1 ≤ times x (own (q ∷ [])) → times x (own (take k xs)) < count a.own x) → Shifts a b (take k xs) [] → cells_at b q ≡ cells_at a q
      same (Own x) free m = m.moves.kept x (free x (let o = times_here x x refl in omega arith))
      same (Base x) free m = ap (λ (s : Store). cells s x) m.base

  -- what a place yields stays so until its turn
  pub release_copy : (copy : Option (List Cell)) → Shifts a b (take k xs) [] → IsCopy a p copy → IsCopy b p copy
  release_copy None m is = once p is (λ x h. let c = all x in omega arith) m
    where
      once : (q : Place) → count_at a q ≡ 1 → ((x : ℕ) → 1 ≤ times x (own (q ∷ [])) → times x (own (take k xs)) < count a.own x) → Shifts a b (take k xs) [] → count_at b q ≡ 1
      once (Own x) is free m = let o = times_here x x refl in let f = free x (omega arith) in let c = m.moves.counts x in omega arith
      once (Base x) is free m = is
  release_copy (Some page) m is = is ∙ sym (release_cells m)
