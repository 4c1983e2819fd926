use Rattle.sop_tables.specs.Tables.{places_in, IsHeld, IsTableStep}
use Rattle.sop_tables.proofs.StepLemmas.{made_held, step_held}
use Rattle.sop_tables.proofs.tests.one_enters_a_group.Given.{Over}
use Rattle.sop_tables.proofs.tests.one_enters_a_group.Goals as goal
use Rattle.sop_tables.proofs.tests.one_enters_a_group.Goals.{In_ok-add_group, In_ok-set_member}

named : (g : Over) (c : In_ok-add_group g) → IsTableStep c.new.new.shelf c.new.new.shelf c.new.new.names c.new.new.names c.in_ok-table.table c.add_group.new.self
named g c = c.in_ok-add_group.ensures.step c.new.new.shelf c.new.new.names c.in_ok-table.ensures.made.table

held : (g : Over) (c : In_ok-add_group g) → IsHeld c.new.new.shelf (places_in c.add_group.new.self)
held g c = step_held c.new.new.shelf c.new.new.shelf c.new.new.names c.new.new.names c.in_ok-table.table c.add_group.new.self (named g c)
    (made_held c.new-shelf.result c.new.new.shelf c.new-names.result c.new.new.names c.in_ok-table.table c.in_ok-table.ensures.made)

still_held : (g : Over) (c : In_ok-set_member g) → IsHeld c.set_member.new.shelf (places_in c.set_member.new.self)
still_held g c = step_held c.new.new.shelf c.set_member.new.shelf c.new.new.names c.new.new.names c.add_group.new.self c.set_member.new.self c.set_member.ensures.step
    (step_held c.new.new.shelf c.new.new.shelf c.new.new.names c.new.new.names c.in_ok-table.table c.add_group.new.self (c.in_ok-add_group.ensures.step c.new.new.shelf c.new.new.names c.in_ok-table.ensures.made.table)
    (made_held c.new-shelf.result c.new.new.shelf c.new-names.result c.new.new.names c.in_ok-table.table c.in_ok-table.ensures.made))

pub set_member-requires-clause-table : goal.set_member-requires-clause-table
set_member-requires-clause-table g c = (named g (goal.at.set_member-requires-clause-table g c).In_ok-add_group).table

pub set_member-requires-clause-held : goal.set_member-requires-clause-held
set_member-requires-clause-held g c = held g (goal.at.set_member-requires-clause-held g c).In_ok-add_group

pub member-requires-clause-table : goal.member-requires-clause-table
member-requires-clause-table g c = c.set_member.ensures.step.table

pub member-requires-clause-held : goal.member-requires-clause-held
member-requires-clause-held g c = still_held g (goal.at.member-requires-clause-held g c).In_ok-set_member

pub member-requires-2-clause-held : goal.member-requires-2-clause-held
member-requires-2-clause-held g c = still_held g (goal.at.member-requires-2-clause-held g c).In_ok-set_member

pub release-requires : goal.release-requires
release-requires g c = record { held = still_held g (goal.at.release-requires g c).In_ok-set_member }
