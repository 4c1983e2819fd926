use Rattle.sop_fixed.proofs.Order.{nearest_in_order, rounded_in_order}
use Rattle.sop_fixed.proofs.real.rounding_keeps_order.Goals as goal

pub returns-clause-sizes : goal.returns-clause-sizes
returns-clause-sizes c = nearest_in_order

pub returns-clause-signed : goal.returns-clause-signed
returns-clause-signed c = rounded_in_order
