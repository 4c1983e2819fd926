use Rattle.std.proofs.Common.{rules}
use Rattle.sop_claim.proofs.Steps.{draws}
use Rattle.sop_claim.proofs.board.Board.draw.Goals as goal

pub fetch_add-found-requires : goal.fetch_add-found-requires
fetch_add-found-requires c = (search rules, search rules, draws _ _ _ _ c.requires.room c.requires.pass.1)
