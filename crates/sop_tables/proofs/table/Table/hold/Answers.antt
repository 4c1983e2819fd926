use Rattle.std.proofs.Common.{◌≡◌, ◌++◌, [], List, map, ap, sym, subst}
use Rattle.std.specs.Prelude.{Option}
use Rattle.sop_cells.specs.declared.place.Place.{Place}
use Rattle.sop_cells.specs.Shelves.{Shifts}
use Rattle.sop_cells.proofs.PlaceLemmas.{shifts_then}
use Rattle.sop_columns.specs.Bits.{placed}
use Rattle.sop_tables.specs.Tables.{flat, places_in, IsHeld, HasRoom}
use Rattle.sop_tables.proofs.FlatLemmas.{front_held, front_room, back_held, back_room}
use Rattle.sop_tables.proofs.table.Table.hold.Goals as goal
use Rattle.sop_tables.proofs.table.Table.hold.Goals.{After-self, After-hold_columns, After-hold_members}

same : (c : After-self) → places_in c.args.self.now ≡ flat c.self.inside.columns.items ++ flat (map placed c.self.inside.members.items)
same c = ap places_in (sym c.self.view_is)

held : (c : After-self) → IsHeld c.args.shelf.now (flat c.self.inside.columns.items ++ flat (map placed c.self.inside.members.items))
held c = subst (IsHeld c.args.shelf.now) (same c) c.requires.held

room : (c : After-self) → HasRoom c.args.shelf.now (flat c.self.inside.columns.items ++ flat (map placed c.self.inside.members.items))
room c = subst (HasRoom c.args.shelf.now) (same c) c.requires.room

first : (c : After-hold_columns) → Shifts c.args.shelf.now c.hold_columns.new.shelf [] (flat c.self.inside.columns.items)
first c = let P : List (List Place) → Type 0 = λ p. Shifts c.args.shelf.now c.hold_columns.new.shelf [] (flat p) in subst P c.as_slice.ensures.value c.hold_columns.ensures.shifts

pub hold_columns-requires-clause-held : goal.hold_columns-requires-clause-held
hold_columns-requires-clause-held c =
    let P : List (List Place) → Type 0 = λ p. IsHeld c.args.shelf.now (flat p) in
    subst P (sym c.as_slice.ensures.value) (front_held c.args.shelf.now c.args.shelf.now _ _ (held (goal.at.hold_columns-requires-clause-held c).After-self))

pub hold_columns-requires-clause-room : goal.hold_columns-requires-clause-room
hold_columns-requires-clause-room c =
    let P : List (List Place) → Type 0 = λ p. HasRoom c.args.shelf.now (flat p) in
    subst P (sym c.as_slice.ensures.value) (front_room c.args.shelf.now c.args.shelf.now (flat c.self.inside.columns.items) (flat (map placed c.self.inside.members.items)) (room (goal.at.hold_columns-requires-clause-room c).After-self))

pub hold_members-requires-clause-held : goal.hold_members-requires-clause-held
hold_members-requires-clause-held c =
    let d = goal.at.hold_members-requires-clause-held c in
    let P : List (List (Option Place)) → Type 0 = λ p. IsHeld c.hold_columns.new.shelf (flat (map placed p)) in
    subst P (sym c.as_slice-2.ensures.value) (back_held c.args.shelf.now c.hold_columns.new.shelf _ _ (held d.After-self) (first d.After-hold_columns))

pub hold_members-requires-clause-room : goal.hold_members-requires-clause-room
hold_members-requires-clause-room c =
    let d = goal.at.hold_members-requires-clause-room c in
    let P : List (List (Option Place)) → Type 0 = λ p. HasRoom c.hold_columns.new.shelf (flat (map placed p)) in
    subst P (sym c.as_slice-2.ensures.value) (back_room c.args.shelf.now c.hold_columns.new.shelf (flat c.self.inside.columns.items) (flat (map placed c.self.inside.members.items)) (room d.After-self) (first d.After-hold_columns))

pub returns-clause-shifts : goal.returns-clause-shifts
returns-clause-shifts c =
    let d = goal.at.returns-clause-shifts c in
    let P : List (List (Option Place)) → Type 0 = λ p. Shifts c.hold_columns.new.shelf c.hold_members.new.shelf [] (flat (map placed p)) in
    let Q : List Place → Type 0 = λ p. Shifts c.args.shelf.now c.hold_members.new.shelf [] p in
    subst Q (sym (same d.After-self)) (shifts_then c.args.shelf.now c.hold_columns.new.shelf c.hold_members.new.shelf [] [] _ _ (first d.After-hold_columns) (subst P c.as_slice-2.ensures.value c.hold_members.ensures.shifts))
