use Rattle.std.proofs.Common.{ℕ, ap, List, length, arith}
use Rattle.sop_tables.specs.Changes.{flag_after, all_flags_after, group_at}
use Rattle.sop_tables.proofs.MadeLemmas.{no_shift, on_err, no_members, new_members_held, members_room, members_gone, still_held}
use Rattle.sop_tables.proofs.SourceLemmas.{few_groups_after, source_stays, source_next_group, all_groups}
use Rattle.sop_columns.proofs.NameLemmas.{grows_none}
use Rattle.sop_tables.proofs.table.Table.new_members.Goals as goal

pub returns-in_err-made-clause-err : goal.returns-in_err-made-clause-err
returns-in_err-made-clause-err c = on_err _ (no_shift _)

pub loop-k-init : goal.loop-k-init
loop-k-init c = record {
  room = let h = c.in_ok-made.ensures.exact in let l = c.in_ok-made.ensures.len in omega arith;
  made = no_members _ _ _ c.in_ok-made.ensures.items (λ (k i : ℕ). flag_after c.args.shelf.now c.args.self.now c.args.change k (group_at c.as_slice-groups.result.now k) i);
}

pub new_group-requires-clause-source : goal.new_group-requires-clause-source
new_group-requires-clause-source c = source_stays c.args.shelf.now c.loop-k.shelf c.args.names.now c.args.names.now _ c.loop-k.invariant.made.shifts (grows_none _) c.args.self.now c.args.change c.requires.source

pub new_group-requires-clause-room : goal.new_group-requires-clause-room
new_group-requires-clause-room c = members_room c.args.shelf.now c.loop-k.shelf _ _ _ _ c.loop-k.invariant.made
    (few_groups_after _ _ _ _ c.args.set.now c.as_slice-groups.result.now _ c.requires.source c.requires.set c.as_slice-groups.ensures c.loop-k-test.true) c.requires.room

pub release_members-requires : goal.release_members-requires
release_members-requires c = record { held = still_held c.loop-k.shelf c.new_group.new.shelf _ _ c.in-Err.ensures.err (new_members_held _ _ _ _ _ _ c.loop-k.invariant.made) }

pub returns-in-Err-clause-err : goal.returns-in-Err-clause-err
returns-in-Err-clause-err c = members_gone _ _ _ _ _ _ c.loop-k.invariant.made c.new_group.new.shelf c.args.names.now _ c.in-Err.ensures.err c.release_members.ensures.shifts

pub loop-k-preserved : goal.loop-k-preserved
loop-k-preserved c = record {
  room = let a = c.loop-k.invariant.room in let b = c.push_reserved.ensures.len in let d = c.push_reserved.ensures.capacity in omega arith;
  made = source_next_group c.args.shelf.now c.loop-k.shelf c.new_group.new.shelf c.args.names.now c.args.self.now c.args.change c.as_slice-groups.result.now c.loop-k.k _ c.requires.source c.loop-k-test.true
      c.index-groups-k.result c.in-Ok.members _ c.index-groups-k.is c.loop-k.invariant.made c.in-Ok.ensures.made c.push_reserved.ensures.items;
}

pub returns-clause-made : goal.returns-clause-made
returns-clause-made c = all_groups c.args.shelf.now c.loop-k.shelf _ c.loop-k.k c.as_slice-groups.result.now c.args.set.now.groups (λ (groups : List (List ℕ)) (k : ℕ). all_flags_after c.args.shelf.now c.args.self.now c.args.change groups k) _
    c.as_slice-groups.ensures (let a = ap (λ (groups : List (List ℕ)). length groups) c.as_slice-groups.ensures in omega arith) c.loop-k.invariant.made
