use Rattle.std.proofs.Common.{arith}
use Rattle.sop_tables.specs.Loaded.{is_member}
use Rattle.sop_tables.proofs.MadeLemmas.{no_shift, on_err, no_members, new_members_held, members_gone, still_held, next_group}
use Rattle.sop_tables.proofs.LoadedLemmas.{no_names, members_loaded}
use Rattle.sop_tables.proofs.loaded.members_in.Goals as goal

pub returns-in_err-made-clause-err : goal.returns-in_err-made-clause-err
returns-in_err-made-clause-err g c = on_err _ (no_shift _)

pub loop-group-init : goal.loop-group-init
loop-group-init g c = record {
  room = let h = c.in_ok-made.ensures.exact in let l = c.in_ok-made.ensures.len in omega arith;
  made = no_members _ _ _ c.in_ok-made.ensures.items (is_member (g.V.GeoView.geo c.args.view.now) c.args.class);
}

pub release_members-requires : goal.release_members-requires
release_members-requires g c = record { held = still_held c.loop-group.shelf c.group_in.new.shelf _ _ c.in-Err.ensures.err (new_members_held _ _ _ _ _ _ c.loop-group.invariant.made) }

pub returns-in-Err-clause-err : goal.returns-in-Err-clause-err
returns-in-Err-clause-err g c = members_gone _ _ _ _ _ _ c.loop-group.invariant.made c.group_in.new.shelf no_names _ c.in-Err.ensures.err c.release_members.ensures.shifts

pub loop-group-preserved : goal.loop-group-preserved
loop-group-preserved g c = record {
  room = let a = c.loop-group.invariant.room in let b = c.push_reserved.ensures.len in let d = c.push_reserved.ensures.capacity in omega arith;
  made = next_group c.args.shelf.now c.loop-group.shelf c.group_in.new.shelf no_names _ c.loop-group.group (is_member (g.V.GeoView.geo c.args.view.now) c.args.class) c.loop-group.made.items c.in-Ok.members
      c.loop-group.invariant.made c.in-Ok.ensures.made _ c.push_reserved.ensures.items;
}

pub returns-clause-made : goal.returns-clause-made
returns-clause-made g c = members_loaded c.args.shelf.now c.loop-group.shelf (g.V.GeoView.geo c.args.view.now) c.args.class _ c.loop-group.group _ (let a = c.groups-groups.ensures in omega arith) c.loop-group.invariant.made
