use Rattle.std.proofs.Common.{sym, subst}
use Rattle.sop_model.specs.declared.class.Class.{Class}
use Rattle.sop_model.specs.declared.class.Class.TheVariants.{Detail, Prim, Point, Vertex}
use Rattle.sop_tables.specs.Changes.{IsSource}
use Rattle.sop_tables.proofs.SourceLemmas.{source_stays}
use Rattle.sop_sheets.specs.Sheets.{SheetLists, table_of}
use Rattle.sop_sheets.specs.Remade.{change_of, IsRemade}
use Rattle.sop_sheets.specs.contracts.sheet.Sheet.{the_view}
use Rattle.sop_sheets.proofs.TwoLemmas.{room_behind, first_goes, second_goes, both_gone}
use Rattle.sop_sheets.proofs.RemadeLemmas.{four_made}
use Rattle.sop_sheets.proofs.sheet.Sheet.remade.Goals as goal
use Rattle.sop_sheets.proofs.sheet.Sheet.remade.Goals.{After-self}

source : (c : After-self) (class : Class) → IsSource c.args.shelf.now c.args.names.now (table_of (the_view c.self.inside) class) (change_of c.args.changes class)
source c = subst (λ (sheet : SheetLists). (class : Class) → IsSource c.args.shelf.now c.args.names.now (table_of sheet class) (change_of c.args.changes class)) (sym c.self.view_is) c.requires.source

pub both-requires-clause-first : goal.both-requires-clause-first
both-requires-clause-first c = source (goal.at.both-requires-clause-first c).After-self Detail

pub both-requires-clause-second : goal.both-requires-clause-second
both-requires-clause-second c = source (goal.at.both-requires-clause-second c).After-self Prim

pub both-requires-2-clause-first : goal.both-requires-2-clause-first
both-requires-2-clause-first c =
    let made = c.in_ok-front.ensures.made in
    source_stays c.args.shelf.now c.both.new.shelf c.args.names.now c.both.new.names _ made.shifts made.grows c.self.inside.point c.args.changes.point (source (goal.at.both-requires-2-clause-first c).After-self Point)

pub both-requires-2-clause-second : goal.both-requires-2-clause-second
both-requires-2-clause-second c =
    let made = c.in_ok-front.ensures.made in
    source_stays c.args.shelf.now c.both.new.shelf c.args.names.now c.both.new.names _ made.shifts made.grows c.self.inside.vertex c.args.changes.vertex (source (goal.at.both-requires-2-clause-second c).After-self Vertex)

pub both-requires-2-clause-room : goal.both-requires-2-clause-room
both-requires-2-clause-room c = room_behind c.args.shelf.now c.both.new.shelf c.args.names.now c.both.new.names _ _ c.in_ok-front.ensures.made.shifts c.in_ok-front.ensures.made.grows c.in_ok-front.ensures.made.first_is.table c.in_ok-front.ensures.made.second_is.table c.requires.room

pub release-requires : goal.release-requires
release-requires c = record { held = first_goes c.args.shelf.now c.both.new.shelf c.args.names.now c.both.new.names _ _ c.in_ok-front.ensures.made.shifts c.in_ok-front.ensures.made.grows c.in_ok-front.ensures.made.first_is.table c.in_ok-front.ensures.made.second_is.table c.both-2.new.shelf c.both-2.new.names c.in-Err.ensures.err }

pub release-requires-in-Err : goal.release-requires-in-Err
release-requires-in-Err c = record {
  held = second_goes c.args.shelf.now c.both.new.shelf c.args.names.now c.both.new.names _ _ c.in_ok-front.ensures.made.shifts c.in_ok-front.ensures.made.grows c.in_ok-front.ensures.made.first_is.table c.in_ok-front.ensures.made.second_is.table c.both-2.new.shelf c.both-2.new.names c.in-Err.ensures.err c.release.new.shelf c.release.ensures.shifts;
}

pub returns-in-Err-clause-err : goal.returns-in-Err-clause-err
returns-in-Err-clause-err c =
    both_gone c.args.shelf.now c.both.new.shelf c.args.names.now c.both.new.names _ _ c.in_ok-front.ensures.made.shifts c.in_ok-front.ensures.made.grows c.in_ok-front.ensures.made.first_is.table c.in_ok-front.ensures.made.second_is.table c.both-2.new.shelf c.both-2.new.names c.in-Err.ensures.err c.release.new.shelf c.release-in-Err.new.shelf c.release.ensures.shifts c.release-in-Err.ensures.shifts

pub returns-in-Ok-clause-made : goal.returns-in-Ok-clause-made
returns-in-Ok-clause-made c =
    let d = (goal.at.returns-in-Ok-clause-made c).After-self in
    let made = λ (sheet : SheetLists). IsRemade c.args.shelf.now c.both-2.new.shelf c.args.names.now c.both-2.new.names sheet c.args.changes
    (record { detail = c.in_ok-front.front.0; prim = c.in_ok-front.front.1; point = c.in-Ok.back.0; vertex = c.in-Ok.back.1; shape = sheet.shape }) in
    subst made c.self.view_is
    (four_made c.args.shelf.now c.both.new.shelf c.both-2.new.shelf c.args.names.now c.both.new.names c.both-2.new.names (the_view c.self.inside) c.args.changes c.in_ok-front.front.0 c.in_ok-front.front.1 c.in-Ok.back.0 c.in-Ok.back.1
    (source d) c.in_ok-front.ensures.made c.in-Ok.ensures.made)
