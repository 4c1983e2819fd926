use Rattle.sop_net.proofs.TableLemmas.{word-finds}
use Rattle.sop_net.proofs.DefaultLemmas.{defaults-taken}
use Rattle.sop_net.proofs.law.each_type_is_found.Goals as goal

pub returns-clause-word : goal.returns-clause-word
returns-clause-word c = word-finds

pub returns-clause-defaults : goal.returns-clause-defaults
returns-clause-defaults c = defaults-taken
