use Rattle.sop_tables.proofs.BesideLemmas.{table_group_held, group_few, longer_group, longer_members, picked_group, picked_members, picked_fits}
use Rattle.sop_tables.proofs.table.Table.new_group.Goals as goal

pub group-requires : goal.group-requires
group-requires c = longer_group _ _ _ _ _ c.requires.source _ c.in-Longer.is c.requires.number

pub shared_members-requires-clause-bits : goal.shared_members-requires-clause-bits
shared_members-requires-clause-bits c = table_group_held _ _ _ c.requires.source.table c.requires.source.held c.args.k _ c.group.ensures

pub shared_members-requires-clause-few : goal.shared_members-requires-clause-few
shared_members-requires-clause-few c = group_few _ _ _ c.requires.source.table c.requires.source.held c.args.k _ c.group.ensures

pub returns-in-Longer-clause-made : goal.returns-in-Longer-clause-made
returns-in-Longer-clause-made c =
    longer_members c.args.shelf.now c.args.names.now c.args.self.now c.args.change c.args.k c.requires.source _ c.in-Longer.is c.shared_members.result c.shared_members.new.shelf _ c.group.result.now c.group.ensures c.shared_members.ensures.same c.shared_members.ensures.shifts

pub group-requires-in-Picked : goal.group-requires-in-Picked
group-requires-in-Picked c = picked_group _ _ _ _ _ c.requires.source c.in-Picked.numbers c.in-Picked.is c.requires.number

pub picked_members-requires-clause-bits : goal.picked_members-requires-clause-bits
picked_members-requires-clause-bits c = table_group_held _ _ _ c.requires.source.table c.requires.source.held c.args.k _ c.group-in-Picked.ensures

pub picked_members-requires-clause-few : goal.picked_members-requires-clause-few
picked_members-requires-clause-few c = (picked_fits _ _ _ _ c.args.k c.requires.source c.in-Picked.numbers c.in-Picked.is _ (λ _. c.args.self.now.count)).few

pub returns-in-Picked-clause-made : goal.returns-in-Picked-clause-made
returns-in-Picked-clause-made c =
    picked_members c.args.shelf.now c.args.names.now c.args.self.now c.args.change c.args.k c.requires.source c.in-Picked.numbers c.in-Picked.is c.picked_members.result c.picked_members.new.shelf _ c.group-in-Picked.result.now c.group-in-Picked.ensures c.picked_members.ensures.made
