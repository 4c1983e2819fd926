use Rattle.std.proofs.Common.{◌∙◌}
use Rattle.sop_tables.proofs.FlatLemmas.{next_held, next_room, next_shifts}
use Rattle.sop_tables.proofs.lots.hold_columns.Goals as goal

pub hold-requires-clause-covered : goal.hold-requires-clause-covered
hold-requires-clause-covered c = (next_held c.args.columns.now c.loop-column.column-index _ c.loop-column-test.true c.column-item.is c.args.shelf.now c.loop-column.shelf c.loop-column.invariant.shifts c.requires.held).covered

pub hold-requires-clause-based : goal.hold-requires-clause-based
hold-requires-clause-based c = (next_held c.args.columns.now c.loop-column.column-index _ c.loop-column-test.true c.column-item.is c.args.shelf.now c.loop-column.shelf c.loop-column.invariant.shifts c.requires.held).based

pub hold-requires-clause-room : goal.hold-requires-clause-room
hold-requires-clause-room c = (next_room c.args.columns.now c.loop-column.column-index _ c.loop-column-test.true c.column-item.is c.args.shelf.now c.loop-column.shelf c.loop-column.invariant.shifts c.requires.room).each

pub loop-column-preserved : goal.loop-column-preserved
loop-column-preserved c = record {
  shifts = next_shifts c.args.columns.now c.loop-column.column-index _ c.loop-column-test.true c.column-item.is c.args.shelf.now c.loop-column.shelf c.loop-column.invariant.shifts c.hold.new.shelf c.hold.ensures.shifts;
  pages = c.hold.ensures.pages ∙ c.loop-column.invariant.pages;
}
