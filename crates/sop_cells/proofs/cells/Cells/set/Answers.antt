use Rattle.std.proofs.Common.{◌≡◌, refl, true≢false, IsOk, ◌<◌, ◌/◌, List, length, get_or, set, ap, sym, subst, arith, ◌∙◌}
use Rattle.sop_cells.specs.declared.place.Place.{Place}
use Rattle.sop_cells.specs.Shelves.{count_at, column, shared, IsKept, Shifts}
use Rattle.sop_cells.proofs.SpotLemmas.{same_place, spot_place, spot_here, spot_within, spot_set, spot_count, spot_shifts, spot_kept}
use Rattle.sop_cells.proofs.SpareLemmas.{spare, set_falls}
use Rattle.sop_cells.proofs.cells.Cells.set.Goals as goal
use Rattle.sop_cells.proofs.cells.Cells.set.Goals.{After-index-old, After-self, In_ok-place}

page_in : (c : After-self) → c.args.i / 1024 < length c.self.inside.places.items
page_in c = let P : List Place → Type 0 = λ p. c.args.i / 1024 < length p in subst P (sym c.self.view_is) (spot_place c.args.shelf.now c.args.self.now c.args.i c.requires.kept c.requires.within)

at : (c : After-index-old) → c.index-old.result.now ≡ get_or c.args.self.now (c.args.i / 1024) c.index-old.result.now
at c = c.index-old.ensures ∙ ap (λ (p : List Place). get_or p (c.args.i / 1024) c.index-old.result.now) c.self.view_is

pub index-old-requires : goal.index-old-requires
index-old-requires c = let l = c.self.inside.places.ok.0 in let h = page_in (goal.at.index-old-requires c).After-self in omega arith

pub set-requires-clause-live : goal.set-requires-clause-live
set-requires-clause-live c = spot_here c.args.shelf.now c.args.self.now c.args.i c.requires.kept c.requires.within _ (at (goal.at.set-requires-clause-live c).After-index-old)

pub set-requires-clause-within : goal.set-requires-clause-within
set-requires-clause-within c = spot_within c.args.shelf.now c.args.self.now c.args.i c.requires.kept c.requires.within _ (at (goal.at.set-requires-clause-within c).After-index-old)

pub index_mut-requires : goal.index_mut-requires
index_mut-requires c = let l = c.self.inside.places.ok.0 in let h = page_in (goal.at.index_mut-requires c).After-self in omega arith

pub returns-clause-cells : goal.returns-clause-cells
returns-clause-cells c =
    ap (λ (p : List Place). column c.set.new.self (set p (c.args.i / 1024) c.in_ok-place.place)) c.self.view_is
    ∙ spot_set c.args.shelf.now c.args.self.now c.args.i c.requires.kept c.requires.within _ (at (goal.at.returns-clause-cells c).After-index-old) _ _ _ c.in_ok-place.ensures.shifts c.in_ok-place.ensures.cells

pub returns-clause-kept : goal.returns-clause-kept
returns-clause-kept c =
    let P : List Place → Type 0 = λ p. IsKept c.set.new.self (set p (c.args.i / 1024) c.in_ok-place.place) in subst P (sym c.self.view_is)
    (spot_kept c.args.shelf.now c.args.self.now c.args.i c.requires.kept c.requires.within _ (at (goal.at.returns-clause-kept c).After-index-old) _ _ _ c.in_ok-place.ensures.shifts c.in_ok-place.ensures.cells c.in_ok-place.ensures.alone)

pub returns-clause-count : goal.returns-clause-count
returns-clause-count c =
    ap (λ (p : List Place). length (column c.set.new.self (set p (c.args.i / 1024) c.in_ok-place.place))) c.self.view_is
    ∙ spot_count c.args.shelf.now c.args.self.now c.args.i c.requires.kept c.requires.within _ (at (goal.at.returns-clause-count c).After-index-old) _ _ _ c.in_ok-place.ensures.shifts c.in_ok-place.ensures.cells

pub returns-clause-shifts : goal.returns-clause-shifts
returns-clause-shifts c =
    let P : List Place → Type 0 = λ p. Shifts c.args.shelf.now c.set.new.self c.args.self.now (set p (c.args.i / 1024) c.in_ok-place.place) in subst P (sym c.self.view_is)
    (spot_shifts c.args.shelf.now c.args.self.now c.args.i c.requires.kept c.requires.within _ (at (goal.at.returns-clause-shifts c).After-index-old) _ _ _ c.in_ok-place.ensures.shifts c.in_ok-place.ensures.cells)

pub returns-clause-spare : goal.returns-clause-spare
returns-clause-spare c =
    let spot = at (goal.at.returns-clause-spare c).After-index-old in
    let a = spare c.args.shelf.now c.set.new.self c.index-old.result.now c.in_ok-place.place c.in_ok-place.ensures.shifts c.in_ok-place.ensures.alone c.args.self.now (c.args.i / 1024) c.requires.kept.covered.each
    (spot_here c.args.shelf.now c.args.self.now c.args.i c.requires.kept c.requires.within _ spot) (spot_place c.args.shelf.now c.args.self.now c.args.i c.requires.kept c.requires.within) spot in
    let e = ap (λ (p : List Place). shared c.set.new.self (set p (c.args.i / 1024) c.in_ok-place.place)) c.self.view_is in
    let l = c.in_ok-place.ensures.pages in omega arith

pub returns-clause-falls : goal.returns-clause-falls
returns-clause-falls c = λ x h. set_falls c.args.shelf.now c.set.new.self c.index-old.result.now c.in_ok-place.place c.in_ok-place.ensures.shifts c.in_ok-place.ensures.alone x h

pub returns-in_err-place-clause-single : goal.returns-in_err-place-clause-single
returns-in_err-place-clause-single c = λ p here one.
    let same = same_place c.args.self.now (c.args.i / 1024) p _ (spot_place c.args.shelf.now c.args.self.now c.args.i c.requires.kept c.requires.within) here (at (goal.at.returns-in_err-place-clause-single c).After-index-old) in
    absurd (true≢false (sym (subst IsOk c.in_err-place.was (subst IsOk (sym (c.set.ensures.single (sym (ap (count_at c.args.shelf.now) same) ∙ one))) refl))))
