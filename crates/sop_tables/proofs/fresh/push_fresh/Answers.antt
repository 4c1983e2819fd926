use Rattle.std.proofs.Common.{[], sym, subst, arith, take}
use Rattle.sop_model.specs.Values.{default_of}
use Rattle.sop_tables.specs.Fresh.{AreMade}
use Rattle.sop_tables.proofs.ColumnLemmas.{column_filled, held_filled}
use Rattle.sop_tables.proofs.FreshLemmas.{none_made, made_more, made_as, first_more, default_more, defaults_of}
use Rattle.sop_tables.proofs.fresh.push_fresh.Goals as goal

pub loop-head-init : goal.loop-head-init
loop-head-init c = record {
  made = subst (AreMade c.args.shelf.now c.args.shelf.now c.args.names.now c.args.names.now c.args.count [] []) (sym c.requires.bare) (none_made c.args.shelf.now c.args.names.now c.args.count);
  room = let r = c.requires.room in omega arith;
}

pub loop-head-preserved : goal.loop-head-preserved
loop-head-preserved c = record {
  made = made_as c.args.shelf.now c.new.new.shelf c.args.names.now c.new.new.names c.args.count _ _ _ _ _ _
      (sym (first_more c.args.heads.now c.loop-head.head-index c.head-item.result c.loop-head-test.true c.head-item.is))
      (sym (default_more c.args.count c.args.heads.now c.loop-head.head-index c.head-item.result c.loop-head-test.true c.head-item.is))
      (sym c.push_reserved.ensures.items)
      (made_more c.args.shelf.now c.loop-head.shelf c.new.new.shelf c.args.names.now c.loop-head.names c.new.new.names c.loop-head.columns.items c.in_ok-column.column c.in_ok-column.ensures.shifts c.new.ensures.grows
      c.args.count (take c.loop-head.head-index c.args.heads.now) (take c.loop-head.head-index (defaults_of c.args.count c.args.heads.now)) c.head-item.result _ c.loop-head.invariant.made
      (column_filled c.new.new.shelf c.new.new.names c.args.count (default_of c.head-item.result.kind) c.in_ok-column.column c.in_ok-column.ensures.column c.in_ok-column.ensures.values)
      (held_filled c.new.new.shelf c.new.new.names c.args.count (default_of c.head-item.result.kind) c.in_ok-column.column c.in_ok-column.ensures.values));
  room = let r = c.loop-head.invariant.room in let l = c.push_reserved.ensures.len in let k = c.push_reserved.ensures.capacity in omega arith;
}
