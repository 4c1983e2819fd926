use Rattle.std.proofs.Common.{◌≡◌, ◌<◌, ◌/◌, List, length, get_or, ap, sym, subst, arith, ◌∙◌}
use Rattle.sop_cells.specs.declared.place.Place.{Place}
use Rattle.sop_cells.proofs.SpotLemmas.{spot_place, spot_here, spot_within, spot_get}
use Rattle.sop_cells.proofs.cells.Cells.get.Goals as goal
use Rattle.sop_cells.proofs.cells.Cells.get.Goals.{After-index-place}

pub index-place-requires : goal.index-place-requires
index-place-requires c =
    let l = c.self.inside.places.ok.0 in let P : List Place → Type 0 = λ p. c.args.i / 1024 < length p in
    let h : c.args.i / 1024 < length c.self.inside.places.items = subst P (sym c.self.view_is) (spot_place c.args.shelf.now c.args.self.now c.args.i c.requires.kept c.requires.within) in omega arith

at : (c : After-index-place) → c.index-place.result.now ≡ get_or c.args.self.now (c.args.i / 1024) c.index-place.result.now
at c = c.index-place.ensures ∙ ap (λ (p : List Place). get_or p (c.args.i / 1024) c.index-place.result.now) c.self.view_is

pub cell-requires-clause-live : goal.cell-requires-clause-live
cell-requires-clause-live c = spot_here c.args.shelf.now c.args.self.now c.args.i c.requires.kept c.requires.within _ (at (goal.at.cell-requires-clause-live c).After-index-place)

pub cell-requires-clause-within : goal.cell-requires-clause-within
cell-requires-clause-within c = spot_within c.args.shelf.now c.args.self.now c.args.i c.requires.kept c.requires.within _ (at (goal.at.cell-requires-clause-within c).After-index-place)

pub returns : goal.returns
returns c = spot_get c.args.shelf.now c.args.self.now c.args.i c.requires.kept c.requires.within _ (at (goal.at.returns c).After-index-place) _ c.cell.ensures
