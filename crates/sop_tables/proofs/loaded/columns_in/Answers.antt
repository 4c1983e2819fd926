use Rattle.std.proofs.Common.{arith}
use Rattle.sop_model.specs.Geometry.{heads_of}
use Rattle.sop_model.specs.Rows.{column_of}
use Rattle.sop_tables.proofs.MadeLemmas.{no_step, on_err, no_columns, columns_held, columns_gone, still_held}
use Rattle.sop_tables.proofs.LoadedLemmas.{next_loaded, columns_loaded}
use Rattle.sop_columns.proofs.NameLemmas.{grows_none}
use Rattle.sop_tables.proofs.loaded.columns_in.Goals as goal

pub returns-in_err-made-clause-err : goal.returns-in_err-made-clause-err
returns-in_err-made-clause-err g c = on_err _ (no_step _ _ _ _ (λ _. c.args.shelf.now) (grows_none _))

pub loop-head-init : goal.loop-head-init
loop-head-init g c = record { room = let h = c.in_ok-made.ensures.exact in let l = c.in_ok-made.ensures.len in omega arith; made = no_columns _ _ _ _ c.in_ok-made.ensures.items }

pub release_columns-requires : goal.release_columns-requires
release_columns-requires g c = record { held = still_held c.loop-head.shelf c.column_in.new.shelf _ _ c.in-Err.ensures.err.shifts (columns_held _ _ _ _ _ _ _ _ c.loop-head.invariant.made) }

pub returns-in-Err-clause-err : goal.returns-in-Err-clause-err
returns-in-Err-clause-err g c = columns_gone _ _ _ _ _ _ _ _ c.loop-head.invariant.made c.column_in.new.shelf c.column_in.new.names _ c.in-Err.ensures.err c.release_columns.ensures.shifts

pub loop-head-preserved : goal.loop-head-preserved
loop-head-preserved g c = record {
  room = let a = c.loop-head.invariant.room in let b = c.push_reserved.ensures.len in let d = c.push_reserved.ensures.capacity in omega arith;
  made = next_loaded c.args.shelf.now c.loop-head.shelf c.column_in.new.shelf c.args.names.now c.loop-head.names c.column_in.new.names _ (heads_of (g.V.GeoView.geo c.args.view.now) c.args.class).heads c.loop-head.head
      (column_of (g.V.GeoView.geo c.args.view.now) c.args.class) c.loop-head.made.items c.in-Ok.column (let a = c.heads-heads.ensures in let t = c.loop-head-test.true in omega arith) c.loop-head.invariant.made c.in-Ok.ensures.made _ c.push_reserved.ensures.items;
}

pub returns-clause-made : goal.returns-clause-made
returns-clause-made g c = columns_loaded c.args.shelf.now c.loop-head.shelf c.args.names.now c.loop-head.names _ c.loop-head.head (heads_of (g.V.GeoView.geo c.args.view.now) c.args.class).heads (column_of (g.V.GeoView.geo c.args.view.now) c.args.class) _
    (let a = c.heads-heads.ensures in omega arith) c.loop-head.invariant.made
