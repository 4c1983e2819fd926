-- Laws of the places of columns, of what they are counted as, and of what a step of the shelf is for them.
use Rattle.std.proofs.Common.{◌≡◌, ℕ, ◌+◌, ◌<◌, ◌≤◌, List, [], ◌∷◌, ◌++◌, map, refl, ap, sym, ◌∙◌, subst, arith}
use Rattle.sop_pages.specs.declared.cell.Cell.{Cell}
use Rattle.sop_pages.specs.Pages.{Store, cells, count, live_pages, AreCounted}
use Rattle.sop_pages.specs.Moves.{times, Covers, Moves}
use Rattle.sop_pages.proofs.StoreLemmas.{same_pages}
use Rattle.sop_pages.proofs.MoveLemmas.{times-append, times_here, moves_then, moves_more}
use Rattle.sop_cells.specs.declared.place.Place.{Place}
use Rattle.sop_cells.specs.declared.place.Place.TheVariants.{Own, Base}
use Rattle.sop_cells.specs.Places.{own, AreBased}
use Rattle.sop_cells.specs.Shelves.{ShelfPages, blocks, Shifts, IsPutBehind}

pub own_of : (ids : List ℕ) → own (map Own ids) ≡ ids
own_of [] = refl
own_of (id ∷ ids) = ap (λ xs. id ∷ xs) (own_of ids)

pub blocks_own : (s : ShelfPages) (ids : List ℕ) → blocks s (map Own ids) ≡ map (cells s.own) ids
blocks_own s [] = refl
blocks_own s (id ∷ ids) = ap (λ xs. cells s.own id ∷ xs) (blocks_own s ids)

based_own : (base : Store) (ids : List ℕ) → AreBased base (map Own ids)
based_own base [] = tt
based_own base (id ∷ ids) = based_own base ids

-- own pages were put under these ids
pub put_own : (old new : ShelfPages) (before after : List Place) (pages : List (List Cell)) (ids : List ℕ) → after ≡ before ++ map Own ids → new.base ≡ old.base → Moves old.own new.own [] ids → ((id : ℕ) → 1 ≤ times id ids → count old.own id ≡ 0) → map (cells new.own) ids ≡ pages → IsPutBehind old new before pages after
put_own old new before after pages ids e b m f c = record {
  fresh = map Own ids;
  after_is = e;
  fresh_cells = blocks_own new ids ∙ c;
  fresh_based = based_own new.base ids;
  shifts = record { base = b; moves = subst (λ (xs : List ℕ). Moves old.own new.own [] xs) (sym (own_of ids)) m };
  apart = λ id h. f id (let q = ap (times id) (own_of ids) in omega arith);
}

-- a step that lets go of nothing and takes hold of nothing leaves the number of pages
pub same_shelf_pages : (old new : ShelfPages) → AreCounted old.own → AreCounted new.own → Shifts old new [] [] → live_pages new.own ≡ live_pages old.own
same_shelf_pages old new a b s = same_pages new.own old.own b a (λ id. let c = s.moves.counts id in omega arith)

pub own-append : (xs ys : List Place) → own (xs ++ ys) ≡ own xs ++ own ys
own-append [] ys = refl
own-append (Own id ∷ xs) ys = ap (λ zs. id ∷ zs) (own-append xs ys)
own-append (Base id ∷ xs) ys = own-append xs ys

-- how often an id is held by the places of two lists
pub held-append : (id : ℕ) (xs ys : List Place) → times id (own (xs ++ ys)) ≡ times id (own xs) + times id (own ys)
held-append id xs ys = ap (times id) (own-append xs ys) ∙ times-append id (own xs) (own ys)

pub based-append : (base : Store) (xs ys : List Place) → AreBased base xs → AreBased base ys → AreBased base (xs ++ ys)
based-append base [] ys a b = b
based-append base (Own id ∷ xs) ys a b = based-append base xs ys a b
based-append base (Base id ∷ xs) ys a b = (a.0, based-append base xs ys a.1 b)

-- one step after another
pub shifts_then : (a b c : ShelfPages) (g h k l : List Place) → Shifts a b g k → Shifts b c h l → Shifts a c (g ++ h) (k ++ l)
shifts_then a b c g h k l p q =
    let m = moves_then a.own b.own c.own (own g) (own h) (own k) (own l) p.moves q.moves in record {
      base = q.base ∙ p.base;
      moves = moves_more a.own c.own _ _ _ _ m (λ x. let s = held-append x g h in let t = times-append x (own g) (own h) in omega arith)
          (λ x. let s = held-append x g h in let t = times-append x (own g) (own h) in let u = held-append x k l in let v = times-append x (own k) (own l) in omega arith);
    }

-- places that stay may be named on both sides
pub shifts_more : (a b : ShelfPages) (g k g' k' : List Place) → Shifts a b g k → ((x : ℕ) → times x (own g) ≤ times x (own g')) → ((x : ℕ) → times x (own g') + times x (own k) ≡ times x (own g) + times x (own k')) → Shifts a b g' k'
shifts_more a b g k g' k' p less same = record { base = p.base; moves = moves_more a.own b.own (own g) (own k) (own g') (own k') p.moves less same }

-- nothing changed
pub stays : (s t : ShelfPages) (places : List Place) → t ≡ s → Shifts s t places places
stays s t places e = subst (λ (u : ShelfPages). Shifts s u places places) (sym e) (record { base = refl; moves = record { counts = λ x. refl; kept = λ x h. refl } })

-- what has a further place, beside those that go, keeps its cells
pub kept_beside : (s t : ShelfPages) (gone come places : List Place) → Shifts s t gone come → ((x : ℕ) → 1 ≤ times x (own places) → times x (own gone) < count s.own x) → blocks t places ≡ blocks s places
kept_beside s t gone come [] m free = refl
kept_beside s t gone come (Own id ∷ places) m free =
    let here = m.moves.kept id (free id (let a = times_here id id refl in omega arith)) in
    let rest = kept_beside s t gone come places m (λ y h. free y (omega arith)) in λ j. here j ∷ rest j
kept_beside s t gone come (Base id ∷ places) m free =
    let rest = kept_beside s t gone come places m free in λ j. cells (m.base j) id ∷ rest j

-- places that are covered beside those that go stay covered
pub covered_beside : (s t : ShelfPages) (gone come places : List Place) → Shifts s t gone come → ((x : ℕ) → times x (own gone) + times x (own places) ≤ count s.own x) → Covers t.own (own places)
covered_beside s t gone come places m c = record { each = λ x. let a = m.moves.counts x in let b = c x in omega arith }

pub based_beside : (s t : ShelfPages) (gone come places : List Place) → Shifts s t gone come → AreBased s.base places → AreBased t.base places
based_beside s t gone come places m b = subst (λ (base : Store). AreBased base places) (sym m.base) b
