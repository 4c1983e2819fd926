use Rattle.std.proofs.Common.{arith}
use Rattle.sop_shape.proofs.OrderLemmas.{range_push}
use Rattle.sop_shape.proofs.ordering.push_range.Goals as goal

pub loop-number-preserved : goal.loop-number-preserved
loop-number-preserved c = range_push c.args.first c.loop-number.number c.args.numbers.now.items c.loop-number.numbers.items c.push.new.self.items (omega arith) c.loop-number.invariant c.in_ok-push.ensures.items
