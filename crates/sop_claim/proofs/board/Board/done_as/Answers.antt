use Rattle.std.proofs.Common.{rules}
use Rattle.sop_claim.proofs.Steps.{settles_done}
use Rattle.sop_claim.proofs.board.Board.done_as.Goals as goal

pub load-requires : goal.load-requires
load-requires g c = (search rules, search rules, rw (← c.requires.ticket) (settles_done _ _ _ _ c.args.k c.requires.held))
