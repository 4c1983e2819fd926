use Rattle.std.proofs.Common.{[], ◌++◌, List, ap, sym, subst}
use Rattle.sop_cells.specs.declared.place.Place.{Place}
use Rattle.sop_cells.specs.Shelves.{Shifts}
use Rattle.sop_tables.specs.Tables.{IsHeld, places_in}
use Rattle.sop_sheets.specs.Sheets.{places_of}
use Rattle.sop_sheets.proofs.FourLemmas.{held_one, left_two, left_three, left_four, all_go}
use Rattle.sop_sheets.proofs.sheet.Sheet.release.Goals as goal
use Rattle.sop_sheets.proofs.sheet.Sheet.release.Goals.{After-self}

held : (c : After-self) → IsHeld c.args.shelf.now (places_in c.self.inside.detail ++ (places_in c.self.inside.prim ++ (places_in c.self.inside.point ++ places_in c.self.inside.vertex)))
held c = subst (IsHeld c.args.shelf.now) (ap places_of (sym c.self.view_is)) c.requires.held

pub release-requires : goal.release-requires
release-requires c = record { held = held_one _ (places_in c.self.inside.prim) (places_in c.self.inside.point) (places_in c.self.inside.vertex) c.args.shelf.now c.args.shelf.now c.args.shelf.now c.args.shelf.now c.args.shelf.now (held (goal.at.release-requires c).After-self) }

pub release-requires-2 : goal.release-requires-2
release-requires-2 c = record { held = left_two _ _ (places_in c.self.inside.point) (places_in c.self.inside.vertex) c.args.shelf.now c.release.new.shelf c.args.shelf.now c.args.shelf.now c.args.shelf.now (held (goal.at.release-requires-2 c).After-self) c.release.ensures.shifts }

pub release-requires-3 : goal.release-requires-3
release-requires-3 c = record { held = left_three _ _ _ (places_in c.self.inside.vertex) c.args.shelf.now c.release.new.shelf c.release-2.new.shelf c.args.shelf.now c.args.shelf.now (held (goal.at.release-requires-3 c).After-self) c.release.ensures.shifts c.release-2.ensures.shifts }

pub release-requires-4 : goal.release-requires-4
release-requires-4 c = record { held = left_four _ _ _ _ c.args.shelf.now c.release.new.shelf c.release-2.new.shelf c.release-3.new.shelf c.args.shelf.now (held (goal.at.release-requires-4 c).After-self) c.release.ensures.shifts c.release-2.ensures.shifts c.release-3.ensures.shifts }

pub returns-clause-shifts : goal.returns-clause-shifts
returns-clause-shifts c =
    let Q : List Place → Type 0 = λ p. Shifts c.args.shelf.now c.release-4.new.shelf p [] in
    subst Q (ap places_of c.self.view_is) (all_go _ _ _ _ c.args.shelf.now c.release.new.shelf c.release-2.new.shelf c.release-3.new.shelf c.release-4.new.shelf c.release.ensures.shifts c.release-2.ensures.shifts c.release-3.ensures.shifts c.release-4.ensures.shifts)
