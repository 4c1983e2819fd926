use Rattle.std.proofs.Common.{ℕ, ap, List, length, arith}
use Rattle.sop_model.specs.declared.geo.Head.{Head}
use Rattle.sop_tables.specs.Changes.{values_after, head_at}
use Rattle.sop_tables.proofs.MadeLemmas.{no_step, on_err, no_columns, columns_held, columns_room, columns_gone, all_columns, still_held}
use Rattle.sop_tables.proofs.SourceLemmas.{after_most, few_heads_after, source_stays, source_next}
use Rattle.sop_columns.proofs.NameLemmas.{grows_none}
use Rattle.sop_tables.proofs.table.Table.new_columns.Goals as goal

pub returns-in_err-made-clause-err : goal.returns-in_err-made-clause-err
returns-in_err-made-clause-err c = on_err _ (no_step _ _ _ _ (λ _. c.args.shelf.now) (grows_none _))

pub loop-k-init : goal.loop-k-init
loop-k-init c = record { room = let h = c.in_ok-made.ensures.exact in let l = c.in_ok-made.ensures.len in omega arith; made = no_columns _ _ _ _ c.in_ok-made.ensures.items }

pub new_column-requires-clause-source : goal.new_column-requires-clause-source
new_column-requires-clause-source c =
    let made = c.loop-k.invariant.made in source_stays c.args.shelf.now c.loop-k.shelf c.args.names.now c.loop-k.names _ made.shifts made.grows c.args.self.now c.args.change c.requires.source

pub new_column-requires-clause-room : goal.new_column-requires-clause-room
new_column-requires-clause-room c = columns_room c.args.shelf.now c.loop-k.shelf c.args.names.now c.loop-k.names _ _ _ _ c.loop-k.invariant.made (after_most _ _ _ _ c.requires.source)
    (few_heads_after _ _ _ _ c.args.set.now _ _ c.requires.source c.requires.set c.as_slice-heads.ensures) c.requires.room

pub release_columns-requires : goal.release_columns-requires
release_columns-requires c = record { held = still_held c.loop-k.shelf c.new_column.new.shelf _ _ c.in-Err.ensures.err.shifts (columns_held _ _ _ _ _ _ _ _ c.loop-k.invariant.made) }

pub returns-in-Err-clause-err : goal.returns-in-Err-clause-err
returns-in-Err-clause-err c = columns_gone _ _ _ _ _ _ _ _ c.loop-k.invariant.made c.new_column.new.shelf c.new_column.new.names _ c.in-Err.ensures.err c.release_columns.ensures.shifts

pub loop-k-preserved : goal.loop-k-preserved
loop-k-preserved c = record {
  room = let a = c.loop-k.invariant.room in let b = c.push_reserved.ensures.len in let d = c.push_reserved.ensures.capacity in omega arith;
  made = source_next c.args.shelf.now c.loop-k.shelf c.new_column.new.shelf c.args.names.now c.loop-k.names c.new_column.new.names c.args.self.now c.args.change c.as_slice-heads.result.now c.loop-k.k _ c.requires.source c.loop-k-test.true
      c.index-heads-k.result c.in-Ok.column _ c.index-heads-k.is c.loop-k.invariant.made c.in-Ok.ensures.made c.push_reserved.ensures.items;
}

pub returns-clause-made : goal.returns-clause-made
returns-clause-made c = all_columns c.args.shelf.now c.loop-k.shelf c.args.names.now c.loop-k.names _ c.loop-k.k c.as_slice-heads.result.now c.args.set.now.heads (λ (heads : List Head) (k : ℕ). values_after c.args.shelf.now c.args.names.now c.args.self.now c.args.change k (head_at heads k)) _
    c.as_slice-heads.ensures (let a = ap (λ (heads : List Head). length heads) c.as_slice-heads.ensures in omega arith) c.loop-k.invariant.made
