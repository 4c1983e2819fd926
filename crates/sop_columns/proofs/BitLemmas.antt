-- Flags in words, in pages and in blocks of pages: what is written, and what a step of the shelf is for them.
use Rattle.std.proofs.Common.{◌≡◌, ◌≢◌, ℕ, zero, suc, false, replicate, ◌+◌, ◌/◌, ◌%◌, ◌<◌, ◌≤◌, ◌==◌, Bool, List, [], ◌∷◌, ◌++◌, length, set, get_or, take, refl, ap, sym, ◌∙◌, subst, arith, inl, inr}
use Rattle.std.specs.Prelude.{Option, Some, None, slice_get, slice_index_or, slice_set, if◌then◌else◌}
use Rattle.std.proofs.lemmas.Bool.Decides.{nat_tests}
use Rattle.std.proofs.lemmas.Nat.Bits.{bit_at-zero}
use Rattle.std.proofs.lemmas.List.{get_or-set_same, get_or-set_other}
use Rattle.sop_pages.specs.declared.cell.Cell.{Cell}
use Rattle.sop_pages.specs.declared.cell.Cell.TheVariants as cell
use Rattle.sop_pages.specs.Pages.{Store, AreCounted, count, cells, live_pages}
use Rattle.sop_pages.specs.Moves.{times}
use Rattle.sop_pages.proofs.MoveLemmas.{same_or, times_here}
use Rattle.sop_cells.specs.declared.place.Place.{Place}
use Rattle.sop_cells.specs.declared.place.Place.TheVariants.{Own, Base}
use Rattle.sop_cells.specs.Places.{own, AreBased}
use Rattle.sop_cells.specs.Shelves.{ShelfPages, IsHere, cells_at, blocks, Shifts}
use Rattle.sop_cells.proofs.PlaceLemmas.{held-append, shifts_then, shifts_more, same_shelf_pages}
use Rattle.sop_columns.specs.Bits.{word_of, flag_of, flag_in, block_cells, flag, placed, own_bits, AreBits, AreJoined}

-- a list made longer by what a read beyond its end gives
padded : {X : Type 0} (z : X) (n i : ℕ) → get_or (replicate n z) i z ≡ z
padded z zero i = refl
padded z (suc n) zero = refl
padded z (suc n) (suc i) = padded z n i

pub pad : {X : Type 0} (xs : List X) (z : X) (n i : ℕ) → get_or (xs ++ replicate n z) i z ≡ get_or xs i z
pad [] z n i = padded z n i
pad (x ∷ xs) z n zero = refl
pad (x ∷ xs) z n (suc i) = pad xs z n i

-- what is set behind it is written in a longer one
pub behind_pad : {X : Type 0} (xs : List X) (z w : X) (n k : ℕ) → k ≡ length xs + n → xs ++ (replicate n z ++ w ∷ []) ≡ set (xs ++ replicate (suc n) z) k w
behind_pad [] z w zero zero e = refl
behind_pad [] z w zero (suc k) e = absurd (omega arith)
behind_pad [] z w (suc n) zero e = absurd (omega arith)
behind_pad [] z w (suc n) (suc k) e = ap (λ r. z ∷ r) (behind_pad [] z w n k (omega arith))
behind_pad (x ∷ xs) z w n zero e = absurd (omega arith)
behind_pad (x ∷ xs) z w n (suc k) e = ap (λ r. x ∷ r) (behind_pad xs z w n k (omega arith))

length_pad : {X : Type 0} (xs : List X) (z : X) (n : ℕ) → length (xs ++ replicate n z) ≡ length xs + n
length_pad [] z zero = refl
length_pad [] z (suc n) = let r = length_pad [] z n in omega arith
length_pad (x ∷ xs) z n = let r = length_pad xs z n in omega arith

-- a word is written in a page
module _ (old new : List Cell) (j word : ℕ) (is : new ≡ slice_set old (j / 128) (cell.Name word)) (within : j / 128 < length old) where
  word_written : slice_index_or new (j / 128) (cell.Name 0) ≡ cell.Name word
  word_written = ap (λ (cs : List Cell). slice_index_or cs (j / 128) (cell.Name 0)) is ∙ get_or-set_same old (j / 128) (cell.Name word) (cell.Name 0) within

  pub flag_here : flag_in new j ≡ flag_of word (j % 128)
  flag_here = ap (λ (c : Cell). flag_of (word_of c) (j % 128)) word_written

  pub flag_other : (read : ℕ) → read ≡ word_of (slice_index_or old (j / 128) (cell.Name 0)) → ((i : ℕ) → i < 128 → i ≢ j % 128 → flag_of word i ≡ flag_of read i) → (i : ℕ) → i ≢ j → flag_in new i ≡ flag_in old i
  flag_other read at others i apart = elim (same_or (i / 128) (j / 128)) [
    | inl e ↦ ap (λ (q : ℕ). flag_of (word_of (slice_index_or new q (cell.Name 0))) (i % 128)) e
        ∙ ap (λ (c : Cell). flag_of (word_of c) (i % 128)) word_written
        ∙ others (i % 128) (omega arith) (λ s. apart (omega arith)) ∙ ap (λ (n : ℕ). flag_of n (i % 128)) at
        ∙ ap (λ (q : ℕ). flag_of (word_of (slice_index_or old q (cell.Name 0))) (i % 128)) (sym e)
    | inr n ↦ ap (λ (c : Cell). flag_of (word_of c) (i % 128)) (ap (λ (cs : List Cell). slice_index_or cs (i / 128) (cell.Name 0)) is ∙ get_or-set_other old (j / 128) (i / 128) (cell.Name word) (cell.Name 0) n)
  ]

-- a page is lengthened by words of 0 and a word
module _ (old new : List Cell) (j word n : ℕ) (is : new ≡ old ++ (replicate n (cell.Name 0) ++ cell.Name word ∷ [])) (at : length old + n ≡ j / 128) where
  abbrev longer : List Cell
  longer = old ++ replicate (suc n) (cell.Name 0)

  set_there : new ≡ slice_set longer (j / 128) (cell.Name word)
  set_there = is ∙ behind_pad old (cell.Name 0) (cell.Name word) n (j / 128) (sym at)

  flag_longer : (i : ℕ) → flag_in longer i ≡ flag_in old i
  flag_longer i = ap (λ (c : Cell). flag_of (word_of c) (i % 128)) (pad old (cell.Name 0) (suc n) (i / 128))

  inside : j / 128 < length longer
  inside = let e = length_pad old (cell.Name 0) (suc n) in omega arith

  pub long_here : flag_in new j ≡ flag_of word (j % 128)
  long_here = flag_here longer new j word set_there inside

  pub long_other : ((i : ℕ) → i < 128 → i ≢ j % 128 → flag_of word i ≡ flag_of 0 i) → (i : ℕ) → i ≢ j → flag_in new i ≡ flag_in old i
  long_other others i apart =
      flag_other longer new j word set_there inside 0
      (sym (ap word_of (pad old (cell.Name 0) (suc n) (j / 128) ∙ beyond old (j / 128) (omega arith)))) others i apart
      ∙ flag_longer i
    where
      beyond : (cs : List Cell) (q : ℕ) → length cs ≤ q → get_or cs q (cell.Name 0) ≡ cell.Name 0
      beyond [] q h = refl
      beyond (c ∷ cs) zero h = absurd (omega arith)
      beyond (c ∷ cs) (suc q) h = beyond cs q (omega arith)

pub none_on : (i : ℕ) → flag_in [] i ≡ false
none_on i = ap (λ (b : ℕ). b == 1) (bit_at-zero (i % 128))

-- what places hold, block by block
bits_cons : (x : ℕ) (c : Option Place) (cs : List (Option Place)) → times x (own_bits (c ∷ cs)) ≡ times x (own_bits (c ∷ [])) + times x (own_bits cs)
bits_cons x None cs = omega arith
bits_cons x (Some (Own id)) cs = omega arith
bits_cons x (Some (Base id)) cs = omega arith

based_cons : (base : Store) (c : Option Place) (cs : List (Option Place)) → AreBased base (placed (c ∷ [])) → AreBased base (placed cs) → AreBased base (placed (c ∷ cs))
based_cons base None cs a b = b
based_cons base (Some (Own id)) cs a b = b
based_cons base (Some (Base id)) cs a b = (a.0, b)

based_head : (base : Store) (c : Option Place) (cs : List (Option Place)) → AreBased base (placed (c ∷ cs)) → AreBased base (placed (c ∷ []))
based_head base None cs a = tt
based_head base (Some (Own id)) cs a = tt
based_head base (Some (Base id)) cs a = (a.0, tt)

based_rest : (base : Store) (c : Option Place) (cs : List (Option Place)) → AreBased base (placed (c ∷ cs)) → AreBased base (placed cs)
based_rest base None cs a = a
based_rest base (Some (Own id)) cs a = a
based_rest base (Some (Base id)) cs a = a.1

-- the block at a number, None beyond the end
pub based_at : (base : Store) (cs : List (Option Place)) (k : ℕ) → AreBased base (placed cs) → AreBased base (placed (get_or cs k None ∷ []))
based_at base [] k a = tt
based_at base (c ∷ cs) zero a = based_head base c cs a
based_at base (c ∷ cs) (suc k) a = based_at base cs k (based_rest base c cs a)

pub bits_at : (x : ℕ) (cs : List (Option Place)) (k : ℕ) → times x (own_bits (get_or cs k None ∷ [])) ≤ times x (own_bits cs)
bits_at x [] k = omega arith
bits_at x (c ∷ cs) zero = let e = bits_cons x c cs in omega arith
bits_at x (c ∷ cs) (suc k) = let e = bits_cons x c cs in let r = bits_at x cs k in omega arith

bits_two : (x : ℕ) (cs : List (Option Place)) (k q : ℕ) → q ≢ k → times x (own_bits (get_or cs k None ∷ [])) + times x (own_bits (get_or cs q None ∷ [])) ≤ times x (own_bits cs)
bits_two x [] k q n = omega arith
bits_two x (c ∷ cs) zero zero n = absurd (n refl)
bits_two x (c ∷ cs) zero (suc q) n = let e = bits_cons x c cs in let r = bits_at x cs q in omega arith
bits_two x (c ∷ cs) (suc k) zero n = let e = bits_cons x c cs in let r = bits_at x cs k in omega arith
bits_two x (c ∷ cs) (suc k) (suc q) n = let e = bits_cons x c cs in let r = bits_two x cs k q (λ s. n (ap suc s)) in omega arith

bits_set : (x : ℕ) (cs : List (Option Place)) (k : ℕ) (c : Option Place) → k < length cs → times x (own_bits (set cs k c)) + times x (own_bits (get_or cs k None ∷ [])) ≡ times x (own_bits cs) + times x (own_bits (c ∷ []))
bits_set x [] k c h = absurd (omega arith)
bits_set x (d ∷ cs) zero c h = let e = bits_cons x d cs in let f = bits_cons x c cs in omega arith
bits_set x (d ∷ cs) (suc k) c h = let e = bits_cons x d cs in let f = bits_cons x d (set cs k c) in let r = bits_set x cs k c (omega arith) in omega arith

based_set : (base : Store) (cs : List (Option Place)) (k : ℕ) (c : Option Place) → AreBased base (placed cs) → AreBased base (placed (c ∷ [])) → AreBased base (placed (set cs k c))
based_set base [] k c a b = tt
based_set base (d ∷ cs) zero c a b = based_cons base c cs b (based_rest base d cs a)
based_set base (d ∷ cs) (suc k) c a b = based_cons base d (set cs k c) (based_head base d cs a) (based_set base cs k c (based_rest base d cs a) b)

bits_take : (x : ℕ) (cs : List (Option Place)) (k : ℕ) → k < length cs → times x (own_bits (take (k + 1) cs)) ≡ times x (own_bits (take k cs)) + times x (own_bits (get_or cs k None ∷ []))
bits_take x [] k h = absurd (omega arith)
bits_take x (c ∷ cs) zero h = omega arith
bits_take x (c ∷ cs) (suc k) h =
    let z : suc k + 1 ≡ suc (k + 1) = omega arith in
    let q = ap (λ (n : ℕ). times x (own_bits (take n (c ∷ cs)))) z in
    let e = bits_cons x c (take (k + 1) cs) in let f = bits_cons x c (take k cs) in
    let r = bits_take x cs k (omega arith) in omega arith

bits_front : (x : ℕ) (cs : List (Option Place)) (k : ℕ) → times x (own_bits (take k cs)) ≤ times x (own_bits cs)
bits_front x [] zero = omega arith
bits_front x [] (suc k) = omega arith
bits_front x (c ∷ cs) zero = omega arith
bits_front x (c ∷ cs) (suc k) = let e = bits_cons x c cs in let f = bits_cons x c (take k cs) in let r = bits_front x cs k in omega arith

-- a block of the column has its page here
pub block_here : (s : ShelfPages) (cs : List (Option Place)) (k : ℕ) (place : Place) → AreBits s cs → get_or cs k None ≡ Some place → IsHere s place
block_here s cs k (Own id) bits at =
    let a = bits_at id cs k in let b = ap (λ (c : Option Place). times id (own_bits (c ∷ []))) at in let t = times_here id id refl in let c = bits.covered.each id in omega arith
block_here s cs k (Base id) bits at = (subst (λ (c : Option Place). AreBased s.base (placed (c ∷ []))) at (based_at s.base cs k bits.based)).0

-- what has a further place, beside those that go, keeps its cells
pub block_kept : (s t : ShelfPages) (gone come : List Place) (c : Option Place) → Shifts s t gone come → ((x : ℕ) → 1 ≤ times x (own_bits (c ∷ [])) → times x (own gone) < count s.own x) → block_cells t c ≡ block_cells s c
block_kept s t gone come None m free = refl
block_kept s t gone come (Some (Own id)) m free = m.moves.kept id (free id (let a = times_here id id refl in omega arith))
block_kept s t gone come (Some (Base id)) m free = λ i. cells (m.base i) id

-- one block has another place
module _ (s t : ShelfPages) (cs : List (Option Place)) (k : ℕ) (c : Option Place) (within : k / 131072 < length cs) (bits : AreBits s cs) (m : Shifts s t (placed (get_or cs (k / 131072) None ∷ [])) (placed (c ∷ []))) where
  other_block : (q : ℕ) → q ≢ k / 131072 → block_cells t (get_or (set cs (k / 131072) c) q None) ≡ block_cells s (get_or cs q None)
  other_block q n =
      ap (block_cells t) (get_or-set_other cs (k / 131072) q c None n)
      ∙ block_kept s t _ _ (get_or cs q None) m (λ x h. let a = bits_two x cs (k / 131072) q n in let b = bits.covered.each x in omega arith)

  this_block : block_cells t (get_or (set cs (k / 131072) c) (k / 131072) None) ≡ block_cells t c
  this_block = ap (block_cells t) (get_or-set_same cs (k / 131072) c None within)

  pub set_here : (on : Bool) → flag_in (block_cells t c) (k % 131072) ≡ on → flag t (set cs (k / 131072) c) k ≡ on
  set_here on is = ap (λ (b : List Cell). flag_in b (k % 131072)) this_block ∙ is

  pub set_others : ((i : ℕ) → i ≢ k % 131072 → flag_in (block_cells t c) i ≡ flag_in (block_cells s (get_or cs (k / 131072) None)) i) → (i : ℕ) → i ≢ k → flag t (set cs (k / 131072) c) i ≡ flag s cs i
  set_others others i apart = elim (same_or (i / 131072) (k / 131072)) [
    | inl e ↦ ap (λ (q : ℕ). flag_in (block_cells t (get_or (set cs (k / 131072) c) q None)) (i % 131072)) e
        ∙ ap (λ (b : List Cell). flag_in b (i % 131072)) this_block ∙ others (i % 131072) (λ r. apart (omega arith))
        ∙ ap (λ (q : ℕ). flag_in (block_cells s (get_or cs q None)) (i % 131072)) (sym e)
    | inr n ↦ ap (λ (b : List Cell). flag_in b (i % 131072)) (other_block (i / 131072) n)
  ]

  pub set_shifts : Shifts s t (placed cs) (placed (set cs (k / 131072) c))
  set_shifts = shifts_more s t _ _ (placed cs) (placed (set cs (k / 131072) c)) m (λ x. bits_at x cs (k / 131072)) (λ x. let e = bits_set x cs (k / 131072) c within in omega arith)

  pub set_bits : AreBased t.base (placed (c ∷ [])) → AreBits t (set cs (k / 131072) c)
  set_bits based = record {
    covered = record { each = λ x. let a = set_shifts.moves.counts x in let b = bits.covered.each x in omega arith };
    based = based_set t.base cs (k / 131072) c (subst (λ (b : Store). AreBased b (placed cs)) (sym m.base) bits.based) based;
  }

-- blocks without a page behind others
pub placed_pad : (cs : List (Option Place)) (n : ℕ) → placed (cs ++ replicate n None) ≡ placed cs
placed_pad [] zero = refl
placed_pad [] (suc n) = placed_pad [] n
placed_pad (None ∷ cs) n = placed_pad cs n
placed_pad (Some p ∷ cs) n = ap (λ ps. p ∷ ps) (placed_pad cs n)

pub bits_pad : (s : ShelfPages) (cs : List (Option Place)) (n : ℕ) → AreBits s cs → AreBits s (cs ++ replicate n None)
bits_pad s cs n bits = let P : List Place → Type 0 = λ ps. AreBased s.base ps in record {
  covered = record { each = λ x. let e = ap (λ (ps : List Place). times x (own ps)) (placed_pad cs n) in let b = bits.covered.each x in omega arith };
  based = subst P (sym (placed_pad cs n)) bits.based;
}

pub flag_pad : (s : ShelfPages) (cs : List (Option Place)) (n i : ℕ) → flag s (cs ++ replicate n None) i ≡ flag s cs i
flag_pad s cs n i = ap (λ (c : Option Place). flag_in (block_cells s c) (i % 131072)) (pad cs None n (i / 131072))

-- one more of the blocks in a row
module _ (cs : List (Option Place)) (k : ℕ) (c : Option Place) (within : k < length cs) (at : c ≡ get_or cs k None) (a b : ShelfPages) (bits : AreBits a cs) where
  one_more : (x : ℕ) → times x (own_bits (take (k + 1) cs)) ≡ times x (own_bits (take k cs)) + times x (own_bits (c ∷ []))
  one_more x = bits_take x cs k within ∙ ap (λ (d : Option Place). times x (own_bits (take k cs)) + times x (own_bits (d ∷ []))) (sym at)

  one_based : (base : Store) → base ≡ a.base → AreBased base (placed (c ∷ []))
  one_based base e = subst (λ (d : Option Place). AreBased base (placed (d ∷ []))) (sym at) (subst (λ (t : Store). AreBased t (placed (get_or cs k None ∷ []))) (sym e) (based_at a.base cs k bits.based))

  pub hold_bits : Shifts a b [] (placed (take k cs)) → AreBits b (c ∷ [])
  hold_bits m = record {
    covered = record { each = λ x. let e = one_more x in let f = bits_front x cs (k + 1) in let g = m.moves.counts x in let h = bits.covered.each x in omega arith };
    based = one_based b.base m.base;
  }

  pub hold_room : (n : ℕ) → Shifts a b [] (placed (take k cs)) → ((x : ℕ) → count a.own x + times x (own_bits cs) < n) → (x : ℕ) → count b.own x + times x (own_bits (c ∷ [])) < n
  hold_room n m room x = let e = one_more x in let f = bits_front x cs (k + 1) in let g = m.moves.counts x in let h = room x in omega arith

  pub hold_more : (t : ShelfPages) → Shifts a b [] (placed (take k cs)) → Shifts b t [] (placed (c ∷ [])) → Shifts a t [] (placed (take (k + 1) cs))
  hold_more t m n = shifts_more a t _ _ [] (placed (take (k + 1) cs)) (shifts_then a b t [] [] (placed (take k cs)) (placed (c ∷ [])) m n) (λ x. omega arith)
      (λ x. let e = one_more x in let h = held-append x (placed (take k cs)) (placed (c ∷ [])) in omega arith)

  pub release_bits : Shifts a b (placed (take k cs)) [] → AreBits b (c ∷ [])
  release_bits m = record {
    covered = record { each = λ x. let e = one_more x in let f = bits_front x cs (k + 1) in let g = m.moves.counts x in let h = bits.covered.each x in omega arith };
    based = one_based b.base m.base;
  }

  pub release_more : (t : ShelfPages) → Shifts a b (placed (take k cs)) [] → Shifts b t (placed (c ∷ [])) [] → Shifts a t (placed (take (k + 1) cs)) []
  release_more t m n = shifts_more a t _ _ (placed (take (k + 1) cs)) [] (shifts_then a b t (placed (take k cs)) (placed (c ∷ [])) [] [] m n)
      (λ x. let e = one_more x in let h = held-append x (placed (take k cs)) (placed (c ∷ [])) in omega arith)
      (λ x. let e = one_more x in let h = held-append x (placed (take k cs)) (placed (c ∷ [])) in omega arith)

-- a place that holds a page
pub here_based : (s : ShelfPages) (place : Place) → IsHere s place → AreBased s.base (placed (Some place ∷ []))
here_based s (Own id) h = tt
here_based s (Base id) h = (h, tt)

-- the one place of a new page
pub new_here : (s t : ShelfPages) (place : Place) → AreCounted s.own → AreCounted t.own → Shifts s t [] (place ∷ []) → live_pages t.own ≡ live_pages s.own + 1 → IsHere t place
new_here s t (Own id) a b m l = let c = m.moves.counts id in let h = times_here id id refl in omega arith
new_here s t (Base id) a b m l = absurd (let e = same_shelf_pages s t a b (record { base = m.base; moves = m.moves }) in omega arith)

-- the one place of the one page that was put
one_place : (s : ShelfPages) (places : List Place) (page : List Cell) (p : Place) → blocks s places ≡ page ∷ [] → slice_get places 0 ≡ Some p → places ≡ p ∷ []
one_place s [] page p is at = absurd cc
one_place s (q ∷ []) page p is at = let e : q ≡ p = cc in ap (λ (r : Place). r ∷ []) e
one_place s (q ∷ r ∷ places) page p is at = absurd cc

module _ (s t : ShelfPages) (places : List Place) (page : List Cell) (p : Place) (is : blocks t places ≡ page ∷ []) (at : slice_get places 0 ≡ Some p) (m : Shifts s t [] places) where
  pub put_shifts : Shifts s t [] (p ∷ [])
  put_shifts = subst (λ (ps : List Place). Shifts s t [] ps) (one_place t places page p is at) m

  pub put_cells : cells_at t p ≡ page
  put_cells = let e : cells_at t p ∷ [] ≡ page ∷ [] = ap (blocks t) (sym (one_place t places page p is at)) ∙ is in cc

-- one flag was turned
pub record IsSet (s t : ShelfPages) (cs after : List (Option Place)) (k : ℕ) : Type 0 where
  pub others : (i : ℕ) → i ≢ k → flag t after i ≡ flag s cs i
  pub bits : AreBits t after
  pub shifts : Shifts s t (placed cs) (placed after)

pub within_some : (cs : List (Option Place)) (q : ℕ) (p : Place) → get_or cs q None ≡ Some p → q < length cs
within_some [] q p e = absurd cc
within_some (c ∷ cs) zero p e = omega arith
within_some (c ∷ cs) (suc q) p e = let r = within_some cs q p e in omega arith

-- in a block that is there
pub block_set : (s t : ShelfPages) (cs : List (Option Place)) (k : ℕ) (was : Option Place) (now : Place) → get_or cs (k / 131072) None ≡ was → k / 131072 < length cs → AreBits s cs → Shifts s t (placed (was ∷ [])) (now ∷ []) → IsHere t now
    → ((i : ℕ) → i ≢ k % 131072 → flag_in (cells_at t now) i ≡ flag_in (block_cells s was) i) → IsSet s t cs (set cs (k / 131072) (Some now)) k
block_set s t cs k was now at within bits m live others =
    let m' = subst (λ (c : Option Place). Shifts s t (placed (c ∷ [])) (now ∷ [])) (sym at) m in
    record {
      others = set_others s t cs k (Some now) within bits m' (λ i n. others i n ∙ ap (λ (c : Option Place). flag_in (block_cells s c) i) (sym at));
      bits = set_bits s t cs k (Some now) within bits m' (here_based t now live);
      shifts = set_shifts s t cs k (Some now) within bits m';
    }

-- in a block that has no page yet
pub room_set : (s t : ShelfPages) (cs : List (Option Place)) (n k : ℕ) (now : Place) → get_or cs (k / 131072) None ≡ None → k / 131072 < length (cs ++ replicate n None) → AreBits s cs → Shifts s t [] (now ∷ []) → IsHere t now
    → ((i : ℕ) → i ≢ k % 131072 → flag_in (cells_at t now) i ≡ false) → IsSet s t cs (set (cs ++ replicate n None) (k / 131072) (Some now)) k
room_set s t cs n k now at within bits m live others =
    let r = block_set s t (cs ++ replicate n None) k None now (pad cs None n (k / 131072) ∙ at) within (bits_pad s cs n bits) m live (λ i a. others i a ∙ sym (none_on i)) in
    record {
      others = λ i a. r.others i a ∙ flag_pad s cs n i;
      bits = r.bits;
      shifts = subst (λ (ps : List Place). Shifts s t ps (placed (set (cs ++ replicate n None) (k / 131072) (Some now)))) (placed_pad cs n) r.shifts;
    }

-- a column that is covered beside the places that go
module _ (s t : ShelfPages) (gone come : List Place) (cs : List (Option Place)) (m : Shifts s t gone come) (bits : AreBits s cs) (beside : (x : ℕ) → times x (own gone) + times x (own_bits cs) ≤ count s.own x) where
  pub bits_beside : AreBits t cs
  bits_beside = record {
    covered = record { each = λ x. let a = m.moves.counts x in let b = beside x in omega arith };
    based = subst (λ (b : Store). AreBased b (placed cs)) (sym m.base) bits.based;
  }

  pub flag_beside : (k : ℕ) → flag t cs k ≡ flag s cs k
  flag_beside k =
      ap (λ (b : List Cell). flag_in b (k % 131072))
      (block_kept s t gone come (get_or cs (k / 131072) None) m (λ x h. let a = bits_at x cs (k / 131072) in let b = beside x in omega arith))

-- what comes in one step goes in the next
pub shifts_on : (s t u : ShelfPages) (g m a : List Place) → Shifts s t g m → Shifts t u m a → Shifts s u g a
shifts_on s t u g m a p q = record {
  base = q.base ∙ p.base;
  moves = record {
    counts = λ x. let e = p.moves.counts x in let f = q.moves.counts x in omega arith;
    kept = λ x h. q.moves.kept x (let e = p.moves.counts x in omega arith) ∙ p.moves.kept x h;
  };
}

-- one flag more of those behind
pub joined_more : (now next before : ℕ → Bool) (len : ℕ) (more : ℕ → Bool) (i n : ℕ) → n ≡ len + i → AreJoined now before len more i → next n ≡ more i → ((k : ℕ) → k ≢ n → next k ≡ now k) → AreJoined next before len more (i + 1)
joined_more now next before len more i n at j here others = record {
  before_are = λ k h. others k (λ e. omega arith) ∙ j.before_are k h;
  more_are = λ k h. elim (same_or k i) [
    | inl e ↦ ap (λ (q : ℕ). next (len + q)) e ∙ ap next (sym at) ∙ here ∙ ap more (sym e)
    | inr d ↦ others (len + k) (λ e. d (omega arith)) ∙ j.more_are k (omega arith)
  ];
  beyond_are = λ k h. others k (λ e. omega arith) ∙ j.beyond_are k (omega arith);
}

-- the same flags, told otherwise
pub joined_same : (now before was : ℕ → Bool) (len : ℕ) (more other : ℕ → Bool) (n : ℕ) → AreJoined now before len more n → ((k : ℕ) → before k ≡ was k) → ((k : ℕ) → more k ≡ other k) → AreJoined now was len other n
joined_same now before was len more other n j b m = record {
  before_are = λ k h. j.before_are k h ∙ b k;
  more_are = λ k h. j.more_are k h ∙ m k;
  beyond_are = j.beyond_are;
}

pub joined_none : (now : ℕ → Bool) (len : ℕ) (more : ℕ → Bool) → ((k : ℕ) → len ≤ k → now k ≡ false) → AreJoined now now len more 0
joined_none now len more off = record { before_are = λ k h. refl; more_are = λ k h. absurd (omega arith); beyond_are = λ k h. off k (omega arith) }

one_time : (a b : ℕ) → (if a == b then 1 else 0) ≤ 1
one_time a b = grind (arith, nat_tests)

-- no more places than blocks
pub bits_few : (x : ℕ) (cs : List (Option Place)) → times x (own_bits cs) ≤ length cs
bits_few x [] = omega arith
bits_few x (None ∷ cs) = let r = bits_few x cs in omega arith
bits_few x (Some (Own id) ∷ cs) = let r = bits_few x cs in let o = one_time id x in omega arith
bits_few x (Some (Base id) ∷ cs) = let r = bits_few x cs in omega arith

-- without blocks all flags are off
pub none_flag : (s : ShelfPages) (cs : List (Option Place)) → cs ≡ [] → (k : ℕ) → flag s cs k ≡ false
none_flag s cs e k = ap (λ (bs : List (Option Place)). flag s bs k) e ∙ none_on (k % 131072)

-- flags that are all off behind others
pub joined_off : (now before : ℕ → Bool) (len : ℕ) (more : ℕ → Bool) (n : ℕ) → ((k : ℕ) → now k ≡ before k) → ((k : ℕ) → len ≤ k → before k ≡ false) → ((k : ℕ) → more k ≡ false) → AreJoined now before len more n
joined_off now before len more n same off none = record {
  before_are = λ k h. same k;
  more_are = λ k h. same (len + k) ∙ off (len + k) (omega arith) ∙ sym (none k);
  beyond_are = λ k h. same k ∙ off k (omega arith);
}
