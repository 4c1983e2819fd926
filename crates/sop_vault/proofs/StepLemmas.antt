-- The step of a vault, whatever it keeps at its keys: one key has another thing, and the shelf moved by that key's places. So the counts of
-- the pages stay true, and all other keys keep what they stand for.
use Rattle.std.proofs.Common.{◌≡◌, ◌≢◌, ℕ, ◌*◌, ◌<◌, ◌≤◌, List, [], ◌∷◌, length, refl, ap, sym, ◌∙◌, subst, arith, inl, inr}
use Rattle.std.specs.Prelude.{Option, Some, None, option_map}
use Rattle.std.proofs.Math.ListN.{get_or-map}
use Rattle.std.proofs.lemmas.Bool.Decides.{nat_tests}
use Rattle.sop_pages.specs.Pages.{count}
use Rattle.sop_pages.specs.Moves.{times, Covers}
use Rattle.sop_pages.proofs.MoveLemmas.{same_or}
use Rattle.sop_cells.specs.declared.place.Place.{Place}
use Rattle.sop_cells.specs.Places.{own}
use Rattle.sop_cells.specs.Shelves.{ShelfPages, Shifts}
use Rattle.sop_columns.specs.Names.{NameTable, Grows}
use Rattle.sop_vault.specs.Keyed.{Keyed, at, Changes}
use Rattle.sop_vault.specs.Counted.{slot_places, holds, CountsPlaces, IsSlot, AreSlots, all_seen}
use Rattle.sop_vault.proofs.KeyedLemmas.{total_at, total_two, total_changes, total_bound}

pub times_length : (x : ℕ) (xs : List ℕ) → times x xs ≤ length xs
times_length x [] = omega arith
times_length x (y ∷ ys) = let r = times_length x ys in grind (arith, nat_tests)

-- what is kept at a key: its places, when it is well kept, and what it stands for
module _ {X G : Type 0} (places : X → List Place) (Is : ShelfPages → NameTable → X → Type 0) (seen : ShelfPages → NameTable → X → G) where
  -- THE FRAME: what has all its pages held elsewhere too is kept
  abbrev pub IsFramed : Type 0
  IsFramed = (s t : ShelfPages) (n m : NameTable) (gone come : List Place) → Shifts s t gone come → Grows n m → (x : X)
      → ((id : ℕ) → 1 ≤ times id (own (places x)) → times id (own gone) < count s.own id) → Is s n x → Is t m x × (seen t m x ≡ seen s n x)

  pub seen_at : (s : ShelfPages) (n : NameTable) (slots : Keyed X) (k : ℕ) → at ((all_seen seen) s n slots) k ≡ option_map (seen s n) (at slots k)
  seen_at s n slots k = get_or-map (option_map (seen s n)) slots k None

  -- what a live key knows
  module _ (s : ShelfPages) (n : NameTable) (slots : Keyed X) (counted : (CountsPlaces places) s slots) (each : (AreSlots Is) s n slots) (key : ℕ) (x : X) (is : at slots key ≡ Some x) where
    pub key_covered : Covers s.own (own (places x))
    key_covered = record { each = λ id. let a = total_at ((holds places) id) refl slots key in let b = counted id in let e = ap ((holds places) id) is in omega arith }

    pub key_kept : Is s n x
    key_kept = subst ((IsSlot Is) s n) is (each key)

    pub key_seen : (view : Keyed G) → (all_seen seen) s n slots ≡ view → at view key ≡ Some (seen s n x)
    key_seen view same = ap (λ (v : Keyed G). at v key) (sym same) ∙ seen_at s n slots key ∙ ap (option_map (seen s n)) is

  -- counts have room where there are few keys with few places
  pub counts_room : (s : ShelfPages) (slots : Keyed X) → (CountsPlaces places) s slots → (most : ℕ) → ((k : ℕ) → length (own ((slot_places places) (at slots k))) ≤ most) → (id : ℕ) → count s.own id ≤ length slots * most
  counts_room s slots counted most few id =
      let a = counted id in
      let b = total_bound ((holds places) id) refl slots most (λ k. let l = few k in let t = times_length id (own ((slot_places places) (at slots k))) in omega arith) in
      omega arith

  module _ (frame : IsFramed) where
    slot_kept : (s t : ShelfPages) (n m : NameTable) (gone come : List Place) → Shifts s t gone come → Grows n m → (o : Option X) → ((id : ℕ) → 1 ≤ (holds places) id o → times id (own gone) < count s.own id) → (IsSlot Is) s n o → (IsSlot Is) t m o
    slot_kept s t n m gone come shifts grows None free is = tt
    slot_kept s t n m gone come shifts grows (Some x) free is = (frame s t n m gone come shifts grows x free is).0

    slot_seen : (s t : ShelfPages) (n m : NameTable) (gone come : List Place) → Shifts s t gone come → Grows n m → (o : Option X) → ((id : ℕ) → 1 ≤ (holds places) id o → times id (own gone) < count s.own id) → (IsSlot Is) s n o → option_map (seen t m) o ≡ option_map (seen s n) o
    slot_seen s t n m gone come shifts grows None free is = refl
    slot_seen s t n m gone come shifts grows (Some x) free is = ap Some ((frame s t n m gone come shifts grows x free is).1)

    -- THE STEP
    module _ (s t : ShelfPages) (n m : NameTable) (old new : Keyed X) (key : ℕ) (was now : Option X) (counted : (CountsPlaces places) s old) (each : (AreSlots Is) s n old) (grows : Grows n m)
        (at_was : at old key ≡ was) (at_now : at new key ≡ now) (others : (k : ℕ) → k ≢ key → at new k ≡ at old k) (shifts : Shifts s t ((slot_places places) was) ((slot_places places) now)) where
      beside : (k : ℕ) → k ≢ key → (id : ℕ) → 1 ≤ (holds places) id (at old k) → times id (own ((slot_places places) was)) < count s.own id
      beside k apart id h = let a = total_two ((holds places) id) refl old k key apart in let b = counted id in let e = ap ((holds places) id) at_was in omega arith

      pub step_counted : (CountsPlaces places) t new
      step_counted id =
          let a = shifts.moves.counts id in
          let b = counted id in
          let c = total_changes ((holds places) id) refl old new key others in
          let d = ap ((holds places) id) at_was in
          let e = ap ((holds places) id) at_now in
          omega arith

      pub step_slots : (IsSlot Is) t m now → (AreSlots Is) t m new
      step_slots is k = elim (same_or k key) [
        | inl e ↦ subst ((IsSlot Is) t m) (sym (ap (at new) e ∙ at_now)) is
        | inr d ↦ subst ((IsSlot Is) t m) (sym (others k d)) (slot_kept s t n m _ _ shifts grows (at old k) (beside k d) (each k))
      ]

      pub step_changes : (view : Keyed G) → (all_seen seen) s n old ≡ view → (r : Option G) → option_map (seen t m) now ≡ r → Changes view ((all_seen seen) t m new) key r
      step_changes view same r e = record {
        here = seen_at t m new key ∙ ap (option_map (seen t m)) at_now ∙ e;
        others = λ k d.
            seen_at t m new k ∙ ap (option_map (seen t m)) (others k d) ∙ slot_seen s t n m _ _ shifts grows (at old k) (beside k d) (each k)
            ∙ sym (seen_at s n old k) ∙ ap (λ (v : Keyed G). at v k) same;
      }
