use Rattle.std.proofs.Common.{[], ◌++◌, List, ap, sym, subst}
use Rattle.sop_cells.specs.declared.place.Place.{Place}
use Rattle.sop_cells.specs.Shelves.{Shifts}
use Rattle.sop_tables.specs.Tables.{IsHeld, HasRoom, places_in}
use Rattle.sop_sheets.specs.Sheets.{places_of}
use Rattle.sop_sheets.proofs.FourLemmas.{held_one, room_one, held_two, room_two, held_three, room_three, held_four, room_four, all_come}
use Rattle.sop_sheets.proofs.sheet.Sheet.hold.Goals as goal
use Rattle.sop_sheets.proofs.sheet.Sheet.hold.Goals.{After-self}

abbrev lots : After-self → List Place
lots c = places_in c.self.inside.detail ++ (places_in c.self.inside.prim ++ (places_in c.self.inside.point ++ places_in c.self.inside.vertex))

held : (c : After-self) → IsHeld c.args.shelf.now (lots c)
held c = subst (IsHeld c.args.shelf.now) (ap places_of (sym c.self.view_is)) c.requires.held

room : (c : After-self) → HasRoom c.args.shelf.now (lots c)
room c = subst (HasRoom c.args.shelf.now) (ap places_of (sym c.self.view_is)) c.requires.room

pub hold-requires-clause-held : goal.hold-requires-clause-held
hold-requires-clause-held c = held_one _ (places_in c.self.inside.prim) (places_in c.self.inside.point) (places_in c.self.inside.vertex) c.args.shelf.now c.args.shelf.now c.args.shelf.now c.args.shelf.now c.args.shelf.now (held (goal.at.hold-requires-clause-held c).After-self)

pub hold-requires-clause-room : goal.hold-requires-clause-room
hold-requires-clause-room c = room_one _ (places_in c.self.inside.prim) (places_in c.self.inside.point) (places_in c.self.inside.vertex) c.args.shelf.now c.args.shelf.now c.args.shelf.now c.args.shelf.now c.args.shelf.now (room (goal.at.hold-requires-clause-room c).After-self)

pub hold-requires-2-clause-held : goal.hold-requires-2-clause-held
hold-requires-2-clause-held c = held_two _ _ (places_in c.self.inside.point) (places_in c.self.inside.vertex) c.args.shelf.now c.hold.new.shelf c.args.shelf.now c.args.shelf.now c.args.shelf.now (held (goal.at.hold-requires-2-clause-held c).After-self) c.hold.ensures.shifts

pub hold-requires-2-clause-room : goal.hold-requires-2-clause-room
hold-requires-2-clause-room c = room_two _ _ (places_in c.self.inside.point) (places_in c.self.inside.vertex) c.args.shelf.now c.hold.new.shelf c.args.shelf.now c.args.shelf.now c.args.shelf.now (room (goal.at.hold-requires-2-clause-room c).After-self) c.hold.ensures.shifts

pub hold-requires-3-clause-held : goal.hold-requires-3-clause-held
hold-requires-3-clause-held c = held_three _ _ _ (places_in c.self.inside.vertex) c.args.shelf.now c.hold.new.shelf c.hold-2.new.shelf c.args.shelf.now c.args.shelf.now (held (goal.at.hold-requires-3-clause-held c).After-self) c.hold.ensures.shifts c.hold-2.ensures.shifts

pub hold-requires-3-clause-room : goal.hold-requires-3-clause-room
hold-requires-3-clause-room c = room_three _ _ _ (places_in c.self.inside.vertex) c.args.shelf.now c.hold.new.shelf c.hold-2.new.shelf c.args.shelf.now c.args.shelf.now (room (goal.at.hold-requires-3-clause-room c).After-self) c.hold.ensures.shifts c.hold-2.ensures.shifts

pub hold-requires-4-clause-held : goal.hold-requires-4-clause-held
hold-requires-4-clause-held c = held_four _ _ _ _ c.args.shelf.now c.hold.new.shelf c.hold-2.new.shelf c.hold-3.new.shelf c.args.shelf.now (held (goal.at.hold-requires-4-clause-held c).After-self) c.hold.ensures.shifts c.hold-2.ensures.shifts c.hold-3.ensures.shifts

pub hold-requires-4-clause-room : goal.hold-requires-4-clause-room
hold-requires-4-clause-room c = room_four _ _ _ _ c.args.shelf.now c.hold.new.shelf c.hold-2.new.shelf c.hold-3.new.shelf c.args.shelf.now (room (goal.at.hold-requires-4-clause-room c).After-self) c.hold.ensures.shifts c.hold-2.ensures.shifts c.hold-3.ensures.shifts

pub returns-clause-shifts : goal.returns-clause-shifts
returns-clause-shifts c =
    let Q : List Place → Type 0 = λ p. Shifts c.args.shelf.now c.hold-4.new.shelf [] p in
    subst Q (ap places_of c.self.view_is) (all_come _ _ _ _ c.args.shelf.now c.hold.new.shelf c.hold-2.new.shelf c.hold-3.new.shelf c.hold-4.new.shelf c.hold.ensures.shifts c.hold-2.ensures.shifts c.hold-3.ensures.shifts c.hold-4.ensures.shifts)
