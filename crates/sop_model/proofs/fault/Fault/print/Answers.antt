use Rattle.sop_model.proofs.FaultLemmas.{is_one_line-fault_text}
use Rattle.sop_model.proofs.fault.Fault.print.Goals as goal

pub returns-in-Ok-clause-one_line : goal.returns-in-Ok-clause-one_line
returns-in-Ok-clause-one_line c = is_one_line-fault_text c.args.self.now

pub returns-in-Err-clause-one_line : goal.returns-in-Err-clause-one_line
returns-in-Err-clause-one_line c = is_one_line-fault_text c.args.self.now
