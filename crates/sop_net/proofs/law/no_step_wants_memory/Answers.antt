use Rattle.sop_net.proofs.NoMemory.{spares_added, spares_set, spares_wired, spares_removed}
use Rattle.sop_net.proofs.law.no_step_wants_memory.Goals as goal

pub returns-clause-added : goal.returns-clause-added
returns-clause-added c = spares_added

pub returns-clause-set : goal.returns-clause-set
returns-clause-set c = spares_set

pub returns-clause-wired : goal.returns-clause-wired
returns-clause-wired c = spares_wired

pub returns-clause-removed : goal.returns-clause-removed
returns-clause-removed c = spares_removed
