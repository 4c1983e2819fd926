use Rattle.sop_rows.proofs.LawLemmas.{leave_sound, leave_good}
use Rattle.sop_rows.proofs.laws.calls_leave_well_made.Goals as goal

pub returns : goal.returns
returns c = record { sound = leave_sound; good = leave_good }
