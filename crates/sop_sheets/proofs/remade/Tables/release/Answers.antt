use Rattle.sop_tables.specs.Tables.{places_in}
use Rattle.sop_sheets.proofs.FourLemmas.{held_one, left_two, left_three, left_four, all_go}
use Rattle.sop_sheets.proofs.remade.Tables.release.Goals as goal

pub release-requires : goal.release-requires
release-requires c = record {
  held = held_one _ (places_in c.args.self.prim) (places_in c.args.self.point) (places_in c.args.self.vertex) c.args.shelf.now c.args.shelf.now c.args.shelf.now c.args.shelf.now c.args.shelf.now c.requires.held;
}

pub release-requires-2 : goal.release-requires-2
release-requires-2 c = record { held = left_two _ _ (places_in c.args.self.point) (places_in c.args.self.vertex) c.args.shelf.now c.release.new.shelf c.args.shelf.now c.args.shelf.now c.args.shelf.now c.requires.held c.release.ensures.shifts }

pub release-requires-3 : goal.release-requires-3
release-requires-3 c = record { held = left_three _ _ _ (places_in c.args.self.vertex) c.args.shelf.now c.release.new.shelf c.release-2.new.shelf c.args.shelf.now c.args.shelf.now c.requires.held c.release.ensures.shifts c.release-2.ensures.shifts }

pub release-requires-4 : goal.release-requires-4
release-requires-4 c = record { held = left_four _ _ _ _ c.args.shelf.now c.release.new.shelf c.release-2.new.shelf c.release-3.new.shelf c.args.shelf.now c.requires.held c.release.ensures.shifts c.release-2.ensures.shifts c.release-3.ensures.shifts }

pub returns-clause-shifts : goal.returns-clause-shifts
returns-clause-shifts c =
    all_go _ _ _ _ c.args.shelf.now c.release.new.shelf c.release-2.new.shelf c.release-3.new.shelf c.release-4.new.shelf c.release.ensures.shifts c.release-2.ensures.shifts c.release-3.ensures.shifts c.release-4.ensures.shifts
