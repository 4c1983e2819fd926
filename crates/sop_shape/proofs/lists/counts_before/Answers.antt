use Rattle.std.proofs.Common.{arith, ◌+◌}
use Rattle.sop_model.specs.Sweep.{is_marked}
use Rattle.sop_shape.proofs.CountLemmas.{how_many_few, count_next, counts_more}
use Rattle.sop_shape.proofs.lists.counts_before.Goals as goal

pub overflow_add-count : goal.overflow_add-count
overflow_add-count c =
    let k = c.loop-flag.flag-index in
    let next = count_next c.args.flags.now k c.loop-flag.count c.one_if-count.result c.one_if-count.ensures c.loop-flag.invariant.count in
    let few = how_many_few (is_marked c.args.flags.now) (k + 1) in
    omega (arith, c.requires)

pub loop-flag-preserved : goal.loop-flag-preserved
loop-flag-preserved c =
    let k = c.loop-flag.flag-index in
    let next = count_next c.args.flags.now k c.loop-flag.count c.one_if-count.result c.one_if-count.ensures c.loop-flag.invariant.count in
    record { counts = counts_more c.args.flags.now k (c.loop-flag.count + c.one_if-count.result) c.loop-flag.counts.items c.push-in-loop-flag.new.self.items next c.in_ok-push-2.ensures.items c.loop-flag.invariant.counts; count = next }
