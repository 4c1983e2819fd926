use Rattle.sop_rows.proofs.LawLemmas.{merges_in_turn}
use Rattle.sop_rows.proofs.laws.merges_go_in_turn.Goals as goal

pub returns : goal.returns
returns c = merges_in_turn
