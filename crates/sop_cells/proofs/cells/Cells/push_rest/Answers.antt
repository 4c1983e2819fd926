use Rattle.std.proofs.Common.{◌≡◌, ◌≤◌, ◌-◌, ◌∙◌, ℕ, List, length, take, drop, sym, subst}
use Rattle.sop_pages.specs.Pages.{count}
use Rattle.sop_pages.specs.Moves.{times}
use Rattle.sop_cells.specs.declared.place.Place.{Place}
use Rattle.sop_cells.specs.Places.{own, AreBased}
use Rattle.sop_cells.proofs.PartLemmas.{rest_live, rest_based, rest_slice}
use Rattle.sop_cells.proofs.cells.Cells.push_rest.Goals as goal
use Rattle.sop_cells.proofs.cells.Cells.push_rest.Goals.{After-deref}

part_is : (c : After-deref) → take (length c.deref.result.now - c.args.first) (drop c.args.first c.deref.result.now) ≡ drop c.args.first c.args.self.now
part_is c = rest_slice c.deref.result.now c.args.self.now c.args.first (c.deref.ensures.value ∙ c.self.view_is)

pub push_first-requires-clause-live : goal.push_first-requires-clause-live
push_first-requires-clause-live c =
    subst (λ (ps : List Place). (id : ℕ) → 1 ≤ times id (own ps) → 1 ≤ count c.args.shelf.now.own id) (sym (part_is (goal.at.push_first-requires-clause-live c).After-deref)) (rest_live c.args.shelf.now c.args.self.now c.args.first c.requires.kept)

pub push_first-requires-clause-based : goal.push_first-requires-clause-based
push_first-requires-clause-based c =
    subst (λ (ps : List Place). AreBased c.args.shelf.now.base ps) (sym (part_is (goal.at.push_first-requires-clause-based c).After-deref)) (rest_based c.args.shelf.now.base c.args.self.now c.args.first c.requires.kept.based)
