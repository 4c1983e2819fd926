use Rattle.sop_cook.proofs.VisitLemmas.{visit_asks}
use Rattle.sop_cook.proofs.SerialCookLemmas.{cook_runs_visit, same_cook}
use Rattle.sop_cook.proofs.law.cook_runs_visits.Goals as goal

pub returns-clause-rule : goal.returns-clause-rule
returns-clause-rule c = λ files x live. cook_runs_visit files c.args.net.now.nodes x (c.is_network.ensures.within_used x live)

pub returns-clause-asks : goal.returns-clause-asks
returns-clause-asks c = λ files x. visit_asks files c.args.net.now.nodes x

pub returns-clause-files : goal.returns-clause-files
returns-clause-files c = λ files others x alike. same_cook files others c.args.net.now.nodes x alike
