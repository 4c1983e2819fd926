use Rattle.sop_fixed.proofs.Rounding.{front_of_both}
use Rattle.std.proofs.Common.{arith}
use Rattle.sop_fixed.proofs.digits.front.Goals as goal

pub returns : goal.returns
returns c = front_of_both c.args.whole.now c.args.fraction.now c.args.kept 10000000000000000 c.number_within-2.result c.number_within-3.result (omega arith) c.number_within-2.ensures c.number_within-3.ensures
