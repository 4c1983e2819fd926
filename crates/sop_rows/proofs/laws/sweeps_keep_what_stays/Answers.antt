use Rattle.sop_rows.proofs.LawLemmas.{sweeps_keep_rows, sweeps_only_marked}
use Rattle.sop_rows.proofs.laws.sweeps_keep_what_stays.Goals as goal

pub returns : goal.returns
returns c = record { rows = sweeps_keep_rows; unmarked = sweeps_only_marked }
