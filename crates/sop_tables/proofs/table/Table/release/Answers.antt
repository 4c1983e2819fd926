use Rattle.std.proofs.Common.{◌++◌, [], List, map, ap, sym, subst}
use Rattle.sop_cells.specs.declared.place.Place.{Place}
use Rattle.sop_cells.specs.Shelves.{Shifts}
use Rattle.sop_cells.proofs.PlaceLemmas.{shifts_then}
use Rattle.sop_columns.specs.Bits.{placed}
use Rattle.sop_tables.specs.Tables.{flat, places_in, IsHeld}
use Rattle.sop_tables.proofs.FlatLemmas.{front_held, back_left}
use Rattle.sop_tables.proofs.table.Table.release.Goals as goal
use Rattle.sop_tables.proofs.table.Table.release.Goals.{After-self}

held : (c : After-self) → IsHeld c.args.shelf.now (flat c.self.inside.columns.items ++ flat (map placed c.self.inside.members.items))
held c = subst (IsHeld c.args.shelf.now) (ap places_in (sym c.self.view_is)) c.requires.held

pub release_columns-requires : goal.release_columns-requires
release_columns-requires c = record { held = front_held c.args.shelf.now c.args.shelf.now _ _ (held (goal.at.release_columns-requires c).After-self) }

pub release_members-requires : goal.release_members-requires
release_members-requires c = record { held = back_left c.args.shelf.now c.release_columns.new.shelf _ _ (held (goal.at.release_members-requires c).After-self) c.release_columns.ensures.shifts }

pub returns-clause-shifts : goal.returns-clause-shifts
returns-clause-shifts c =
    let Q : List Place → Type 0 = λ p. Shifts c.args.shelf.now c.release_members.new.shelf p [] in
    subst Q (ap places_in c.self.view_is) (shifts_then c.args.shelf.now c.release_columns.new.shelf c.release_members.new.shelf _ _ [] [] c.release_columns.ensures.shifts c.release_members.ensures.shifts)
