use Rattle.std.proofs.Common.{rules, tests}
use Rattle.std.specs.Prelude.{not, ◌==◌}
use Rattle.std.proofs.lemmas.Fn.{filter_same}
use Rattle.sop_net.proofs.order.Order.remove.Goals as goal

pub returns-clause-nodes : goal.returns-clause-nodes
returns-clause-nodes c = filter_same _ (λ x. not (x == c.args.node)) _ (λ x kept f' called. search (rules, tests)) _ _ c.retain.ensures.filtered
