-- The places of several columns in a row: one column among them, and steps that hold them or let them go one after the other.
use Rattle.std.proofs.Common.{◌≡◌, ℕ, zero, suc, ◌+◌, ◌<◌, ◌≤◌, List, [], ◌∷◌, ◌++◌, length, take, set, get_or, remove, refl, ap, sym, ◌∙◌, subst, arith, append_assoc, append-nil}
use Rattle.sop_pages.specs.Pages.{Store}
use Rattle.sop_pages.specs.Moves.{times}
use Rattle.sop_cells.specs.declared.place.Place.{Place}
use Rattle.sop_cells.specs.declared.place.Place.TheVariants.{Own, Base}
use Rattle.sop_cells.specs.Places.{own, AreBased}
use Rattle.sop_cells.specs.Shelves.{ShelfPages, Shifts}
use Rattle.sop_cells.proofs.PlaceLemmas.{held-append, shifts_more, shifts_then}
use Rattle.sop_tables.specs.Tables.{flat, IsHeld, HasRoom}

-- how often an id is held by these places
abbrev pub held_by : ℕ → List Place → ℕ
held_by x places = times x (own places)

-- ONE COLUMN AMONG SEVERAL

pub flat_at : (cs : List (List Place)) (k x : ℕ) → held_by x (get_or cs k []) ≤ held_by x (flat cs)
flat_at [] k x = omega arith
flat_at (c ∷ cs) zero x = let a = held-append x c (flat cs) in omega arith
flat_at (c ∷ cs) (suc k) x = let a = held-append x c (flat cs) in let r = flat_at cs k x in omega arith

pub flat_set : (cs : List (List Place)) (k x : ℕ) (p : List Place) → k < length cs → held_by x (flat (set cs k p)) + held_by x (get_or cs k []) ≡ held_by x (flat cs) + held_by x p
flat_set [] k x p h = absurd (omega arith)
flat_set (c ∷ cs) zero x p h = let a = held-append x c (flat cs) in let b = held-append x p (flat cs) in omega arith
flat_set (c ∷ cs) (suc k) x p h = let a = held-append x c (flat cs) in let b = held-append x c (flat (set cs k p)) in let r = flat_set cs k x p (omega arith) in omega arith

pub flat_remove : (cs : List (List Place)) (k x : ℕ) → k < length cs → held_by x (flat (remove cs k)) + held_by x (get_or cs k []) ≡ held_by x (flat cs)
flat_remove [] k x h = absurd (omega arith)
flat_remove (c ∷ cs) zero x h = let a = held-append x c (flat cs) in omega arith
flat_remove (c ∷ cs) (suc k) x h = let a = held-append x c (flat cs) in let b = held-append x c (flat (remove cs k)) in let r = flat_remove cs k x (omega arith) in omega arith

pub flat-append : (cs ds : List (List Place)) (x : ℕ) → held_by x (flat (cs ++ ds)) ≡ held_by x (flat cs) + held_by x (flat ds)
flat-append [] ds x = omega arith
flat-append (c ∷ cs) ds x = let a = held-append x c (flat (cs ++ ds)) in let b = held-append x c (flat cs) in let r = flat-append cs ds x in omega arith

pub flat_joined : (cs ds : List (List Place)) → flat (cs ++ ds) ≡ flat cs ++ flat ds
flat_joined [] ds = refl
flat_joined (c ∷ cs) ds = ap (λ (places : List Place). c ++ places) (flat_joined cs ds) ∙ sym (append_assoc c (flat cs) (flat ds))

pub flat_last : (cs : List (List Place)) (c : List Place) (x : ℕ) → held_by x (flat (cs ++ c ∷ [])) ≡ held_by x (flat cs) + held_by x c
flat_last cs c x = let a = flat-append cs (c ∷ []) x in let b = held-append x c [] in omega arith

pub any_default : {X : Type 0} (xs : List X) (k : ℕ) (d e : X) → k < length xs → get_or xs k d ≡ get_or xs k e
any_default [] k d e h = absurd (omega arith)
any_default (x ∷ xs) zero d e h = refl
any_default (x ∷ xs) (suc k) d e h = any_default xs k d e (omega arith)

-- WHAT THE BASE HOLDS

pub based_front : (base : Store) (xs ys : List Place) → AreBased base (xs ++ ys) → AreBased base xs
based_front base [] ys b = tt
based_front base (Own id ∷ xs) ys b = based_front base xs ys b
based_front base (Base id ∷ xs) ys b = (b.0, based_front base xs ys b.1)

pub based_back : (base : Store) (xs ys : List Place) → AreBased base (xs ++ ys) → AreBased base ys
based_back base [] ys b = b
based_back base (Own id ∷ xs) ys b = based_back base xs ys b
based_back base (Base id ∷ xs) ys b = based_back base xs ys b.1

pub based_at : (base : Store) (cs : List (List Place)) (k : ℕ) → AreBased base (flat cs) → AreBased base (get_or cs k [])
based_at base [] k b = tt
based_at base (c ∷ cs) zero b = based_front base c (flat cs) b
based_at base (c ∷ cs) (suc k) b = based_at base cs k (based_back base c (flat cs) b)

-- TWO LOTS OF PLACES, ONE AFTER THE OTHER

module _ (a b : ShelfPages) (xs ys : List Place) where
  pub front_held : IsHeld a (xs ++ ys) → IsHeld a xs
  front_held h = record {
    covered = record { each = λ x. let d = h.covered.each x in let e = held-append x xs ys in omega arith };
    based = based_front a.base xs ys h.based;
  }

  pub front_room : HasRoom a (xs ++ ys) → HasRoom a xs
  front_room r = record { each = λ x. let d = r.each x in let e = held-append x xs ys in omega arith }

  pub back_held : IsHeld a (xs ++ ys) → Shifts a b [] xs → IsHeld b ys
  back_held h m = record {
    covered = record { each = λ x. let d = h.covered.each x in let e = held-append x xs ys in let f = m.moves.counts x in omega arith };
    based = subst (λ (base : Store). AreBased base ys) (sym m.base) (based_back a.base xs ys h.based);
  }

  pub back_room : HasRoom a (xs ++ ys) → Shifts a b [] xs → HasRoom b ys
  back_room r m = record { each = λ x. let d = r.each x in let e = held-append x xs ys in let f = m.moves.counts x in omega arith }

  pub back_left : IsHeld a (xs ++ ys) → Shifts a b xs [] → IsHeld b ys
  back_left h m = record {
    covered = record { each = λ x. let d = h.covered.each x in let e = held-append x xs ys in let f = m.moves.counts x in omega arith };
    based = subst (λ (base : Store). AreBased base ys) (sym m.base) (based_back a.base xs ys h.based);
  }

-- ONE AFTER THE OTHER

pub flat_take : (cs : List (List Place)) (k x : ℕ) → held_by x (flat (take k cs)) ≤ held_by x (flat cs)
flat_take [] zero x = omega arith
flat_take [] (suc k) x = omega arith
flat_take (c ∷ cs) zero x = omega arith
flat_take (c ∷ cs) (suc k) x = let r = flat_take cs k x in let a = held-append x c (flat cs) in let b = held-append x c (flat (take k cs)) in omega arith

pub flat_more : (cs : List (List Place)) (k x : ℕ) → k < length cs → held_by x (flat (take (k + 1) cs)) ≡ held_by x (flat (take k cs)) + held_by x (get_or cs k [])
flat_more [] k x h = absurd (omega arith)
flat_more (c ∷ cs) zero x h = let a = held-append x c [] in omega arith
flat_more (c ∷ cs) (suc k) x h =
    let r = flat_more cs k x (omega arith) in let z : suc k + 1 ≡ suc (k + 1) = omega arith in let q = ap (λ (n : ℕ). held_by x (flat (take n (c ∷ cs)))) z in
    let a = held-append x c (flat (take (k + 1) cs)) in let b = held-append x c (flat (take k cs)) in omega arith

-- one more of the columns is held
module _ (cs : List (List Place)) (k : ℕ) (p : List Place) (within : k < length cs) (at : p ≡ get_or cs k p) (a b : ShelfPages) (m : Shifts a b [] (flat (take k cs))) where
  more : (x : ℕ) → held_by x (flat (take (k + 1) cs)) ≡ held_by x (flat (take k cs)) + held_by x p
  more x = let m = flat_more cs k x within in let q = ap (held_by x) (at ∙ any_default cs k p [] within) in omega arith

  pub next_held : IsHeld a (flat cs) → IsHeld b p
  next_held h = record {
    covered = record { each = λ x. let c = m.moves.counts x in let d = h.covered.each x in let e = more x in let f = flat_take cs (k + 1) x in omega arith };
    based = subst (λ (places : List Place). AreBased b.base places) (sym (at ∙ any_default cs k p [] within)) (subst (λ (base : Store). AreBased base (get_or cs k [])) (sym m.base) (based_at a.base cs k h.based));
  }

  pub next_room : HasRoom a (flat cs) → HasRoom b p
  next_room r = record { each = λ x. let c = m.moves.counts x in let d = r.each x in let e = more x in let f = flat_take cs (k + 1) x in omega arith }

  pub next_shifts : (c : ShelfPages) → Shifts b c [] p → Shifts a c [] (flat (take (k + 1) cs))
  next_shifts c n = shifts_more a c [] (flat (take k cs) ++ p) [] (flat (take (k + 1) cs)) (shifts_then a b c [] [] (flat (take k cs)) p m n)
      (λ x. omega arith) (λ x. let q = more x in let r = held-append x (flat (take k cs)) p in omega arith)

-- the last of the columns left is let go
module _ (a b : ShelfPages) (all : List Place) (left rest : List (List Place)) (c : List Place) (is : left ≡ rest ++ c ∷ []) (m : Shifts a b all (flat left)) (h : IsHeld b (flat left)) where
  shorter : flat left ≡ flat rest ++ c
  shorter = ap flat is ∙ flat_joined rest (c ∷ []) ∙ ap (λ (places : List Place). flat rest ++ places) (append-nil c)

  held : IsHeld b (flat rest ++ c)
  held = subst (IsHeld b) shorter h

  pub last_held : IsHeld b c
  last_held = record {
    covered = record { each = λ x. let d = held.covered.each x in let e = held-append x (flat rest) c in omega arith };
    based = based_back b.base (flat rest) c held.based;
  }

  pub rest_held : (t : ShelfPages) → Shifts b t c [] → IsHeld t (flat rest)
  rest_held t n = record {
    covered = record { each = λ x. let d = held.covered.each x in let e = held-append x (flat rest) c in let f = n.moves.counts x in omega arith };
    based = subst (λ (base : Store). AreBased base (flat rest)) (sym n.base) (based_front b.base (flat rest) c held.based);
  }

  pub rest_shifts : (t : ShelfPages) → Shifts b t c [] → Shifts a t all (flat rest)
  rest_shifts t n = record {
    base = n.base ∙ m.base;
    moves = record {
      counts = λ x. let e = m.moves.counts x in let f = n.moves.counts x in let g = held-append x (flat rest) c in let i = ap (held_by x) shorter in omega arith;
      kept = λ x l. n.moves.kept x (let e = m.moves.counts x in let g = held-append x (flat rest) c in let i = ap (held_by x) shorter in omega arith) ∙ m.moves.kept x l;
    };
  }
