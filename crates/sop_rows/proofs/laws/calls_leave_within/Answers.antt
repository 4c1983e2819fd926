use Rattle.sop_rows.proofs.LawLemmas.{leave_within}
use Rattle.sop_rows.proofs.laws.calls_leave_within.Goals as goal

pub returns : goal.returns
returns c = leave_within
