-- A column of places that are held once more, and of new pages behind them.
use Rattle.std.proofs.Common.{◌≡◌, ℕ, zero, suc, ◌≤◌, List, [], ◌++◌, length, take, ap, sym, ◌∙◌, subst, arith}
use Rattle.std.proofs.lemmas.List.{map-append}
use Rattle.std.proofs.Math.Seq.{take-append_seam}
use Rattle.sop_pages.specs.declared.cell.Cell.{Cell}
use Rattle.sop_pages.specs.Pages.{Store, count}
use Rattle.sop_pages.specs.Moves.{times}
use Rattle.sop_cells.specs.declared.place.Place.{Place}
use Rattle.sop_cells.specs.Places.{own, AreBased}
use Rattle.sop_cells.specs.Shelves.{ShelfPages, cells_at, blocks, IsPaged, IsKept, Shifts, IsPutBehind}
use Rattle.sop_cells.specs.Layouts.{CanHold, IsLaid}
use Rattle.sop_cells.proofs.PlaceLemmas.{held-append, based-append, kept_beside, shifts_then, shifts_more}

none : (n m : ℕ) → (1 ≤ n → m ≡ 0) → 1 ≤ m → n ≤ 0
none zero m f h = omega arith
none (suc n) m f h = absurd (let z = f (omega arith) in omega arith)

module _ (s mid : ShelfPages) (first places : List Place) (pages : List (List Cell)) (can : CanHold s first) (put : IsPutBehind s mid first pages places) where
  pub first_is : take (length first) places ≡ first
  first_is = ap (λ (ps : List Place). take (length first) ps) put.after_is ∙ take-append_seam first put.fresh

  -- what was put is apart from what is held
  pub still_can : CanHold mid (take (length first) places)
  still_can = subst (λ (ps : List Place). CanHold mid ps) (sym first_is) record {
    live = λ x h. let a = can.live x h in let c = put.shifts.moves.counts x in omega arith;
    based = subst (λ (b : Store). AreBased b first) (sym put.shifts.base) can.based;
    room = λ x h. let a = can.live x h in let r = can.room x h in let c = put.shifts.moves.counts x in let n = apart x a in omega arith;
  }
    where
      apart : (x : ℕ) → 1 ≤ count s.own x → times x (own put.fresh) ≤ 0
      apart x a = none (times x (own put.fresh)) (count s.own x) (put.apart x) a

  pub laid_is : (t : ShelfPages) → Shifts mid t [] (take (length first) places) → IsLaid s t first pages places
  laid_is t m = record {
    pages_are =
        ap (blocks t) put.after_is ∙ map-append (cells_at t) first put.fresh
        ∙ (λ i. (kept_beside mid t [] first first held (λ x h. let a = can.live x h in let c = put.shifts.moves.counts x in omega arith)
        ∙ kept_beside s mid [] put.fresh first put.shifts (λ x h. can.live x h)) i
        ++ (kept_beside mid t [] first put.fresh held (λ x h. let c = put.shifts.moves.counts x in omega arith) ∙ put.fresh_cells) i);
    covered = record { each = λ x. let c = all.moves.counts x in omega arith };
    based = subst (λ (ps : List Place). AreBased t.base ps) (sym put.after_is)
        (based-append t.base first put.fresh (subst (λ (b : Store). AreBased b first) (sym all.base) can.based) (subst (λ (b : Store). AreBased b put.fresh) (sym m.base) put.fresh_based));
    shifts = all;
  }
    where
      held : Shifts mid t [] first
      held = subst (λ (ps : List Place). Shifts mid t [] ps) first_is m

      all : Shifts s t [] places
      all = subst (λ (ps : List Place). Shifts s t [] ps) (sym put.after_is)
          (shifts_more s t [] (put.fresh ++ first) [] (first ++ put.fresh) (shifts_then s mid t [] [] put.fresh first put.shifts held) (λ x. omega arith)
          (λ x. let a = held-append x put.fresh first in let b = held-append x first put.fresh in omega arith))

-- a column that is laid is kept where its pages are those of a column
pub laid_kept : (s t : ShelfPages) (first places : List Place) (pages : List (List Cell)) → IsLaid s t first pages places → IsPaged (blocks s first ++ pages) → IsKept t places
laid_kept s t first places pages l p = record { covered = l.covered; based = l.based; paged = subst IsPaged (sym l.pages_are) p }
