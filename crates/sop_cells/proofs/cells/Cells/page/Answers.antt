use Rattle.std.proofs.Common.{◌≡◌, ◌<◌, List, length, get_or, ap, sym, subst, arith, ◌∙◌}
use Rattle.sop_cells.specs.declared.place.Place.{Place}
use Rattle.sop_cells.proofs.SpotLemmas.{place_here, place_page}
use Rattle.sop_cells.proofs.cells.Cells.page.Goals as goal
use Rattle.sop_cells.proofs.cells.Cells.page.Goals.{After-index}

pub index-requires : goal.index-requires
index-requires c =
    let l = c.self.inside.places.ok.0 in let P : List Place → Type 0 = λ p. c.args.at < length p in
    let h : c.args.at < length c.self.inside.places.items = subst P (sym c.self.view_is) c.requires.within in omega arith

at : (c : After-index) → c.index.result.now ≡ get_or c.args.self.now c.args.at c.index.result.now
at c = c.index.ensures ∙ ap (λ (p : List Place). get_or p c.args.at c.index.result.now) c.self.view_is

pub cells-requires : goal.cells-requires
cells-requires c = place_here c.args.shelf.now c.args.self.now c.args.at _ c.requires.kept c.requires.within (at (goal.at.cells-requires c).After-index)

pub returns : goal.returns
returns c = c.cells.ensures.value ∙ sym (place_page c.args.shelf.now c.args.self.now c.args.at _ c.requires.within (at (goal.at.returns c).After-index))
