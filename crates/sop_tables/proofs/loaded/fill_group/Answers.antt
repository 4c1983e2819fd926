use Rattle.std.proofs.Common.{◌∙◌, arith}
use Rattle.sop_columns.proofs.BitLemmas.{joined_more, shifts_on}
use Rattle.sop_tables.proofs.LoadedLemmas.{count_few, member_read, none_filled}
use Rattle.sop_tables.specs.Loaded.{is_member}
use Rattle.sop_tables.proofs.loaded.fill_group.Goals as goal

pub loop-element-init : goal.loop-element-init
loop-element-init g c = let start = none_filled c.args.shelf.now c.args.made.now c.requires.bare (is_member (g.V.GeoView.geo c.args.view.now) c.args.class c.args.group) in record {
  flags = start.flags;
  few = start.few;
  bits = start.bits;
  shifts = start.shifts;
}

pub loop-element-preserved : goal.loop-element-preserved
loop-element-preserved g c = record {
  flags = joined_more _ _ _ _ (is_member (g.V.GeoView.geo c.args.view.now) c.args.class c.args.group) _ c.loop-element.element (omega arith) c.loop-element.invariant.flags
      (c.in_ok-set.ensures.here ∙ member_read (g.V.GeoView.geo c.args.view.now) c.args.class c.args.group c.loop-element.element c.member-on.result c.member-on.ensures) c.in_ok-set.ensures.others;
  few = let t = c.loop-element-test.true in let m = count_few c.requires.readable c.args.class in let e = c.count-count.ensures in c.set.ensures.few 31 c.loop-element.invariant.few (omega arith);
  bits = c.set.ensures.bits;
  shifts = shifts_on c.args.shelf.now c.loop-element.shelf c.set.new.shelf _ _ _ c.loop-element.invariant.shifts c.set.ensures.shifts;
}

pub returns-in_err-set-clause-few : goal.returns-in_err-set-clause-few
returns-in_err-set-clause-few g c = let t = c.loop-element-test.true in let m = count_few c.requires.readable c.args.class in let e = c.count-count.ensures in c.set.ensures.few 31 c.loop-element.invariant.few (omega arith)
