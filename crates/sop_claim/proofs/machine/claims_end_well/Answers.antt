use Rattle.sop_claim.proofs.Rests.{rests}
use Rattle.sop_claim.proofs.machine.claims_end_well.Goals as goal

pub returns : goal.returns
returns c = rests
