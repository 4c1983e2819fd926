use Rattle.std.proofs.Common.{arith}
use Rattle.sop_tables.proofs.FlatLemmas.{last_held, rest_held, rest_shifts}
use Rattle.sop_tables.proofs.lots.release_columns.Goals as goal

pub release-requires-clause-covered : goal.release-requires-clause-covered
release-requires-clause-covered c = (last_held c.args.shelf.now c.loop-column.shelf _ c.loop-column.columns.items c.pop.new.self.items c.in-Some.column c.in-Some.ensures.items c.loop-column.invariant.shifts c.loop-column.invariant.held).covered

pub release-requires-clause-based : goal.release-requires-clause-based
release-requires-clause-based c = (last_held c.args.shelf.now c.loop-column.shelf _ c.loop-column.columns.items c.pop.new.self.items c.in-Some.column c.in-Some.ensures.items c.loop-column.invariant.shifts c.loop-column.invariant.held).based

pub loop-column-preserved : goal.loop-column-preserved
loop-column-preserved c = record {
  shifts = rest_shifts c.args.shelf.now c.loop-column.shelf _ c.loop-column.columns.items c.pop.new.self.items c.in-Some.column c.in-Some.ensures.items c.loop-column.invariant.shifts c.loop-column.invariant.held c.release.new.shelf c.release.ensures.shifts;
  held = rest_held c.args.shelf.now c.loop-column.shelf _ c.loop-column.columns.items c.pop.new.self.items c.in-Some.column c.in-Some.ensures.items c.loop-column.invariant.shifts c.loop-column.invariant.held c.release.new.shelf c.release.ensures.shifts;
  pages = let a = c.release.ensures.pages in let b = c.loop-column.invariant.pages in omega arith;
}
