use Rattle.std.proofs.Common.{rules}
use Rattle.sop_claim.proofs.Steps.{settles_skipped}
use Rattle.sop_claim.proofs.board.Board.skip_as.Goals as goal

pub load-requires : goal.load-requires
load-requires g c = (search rules, search rules, rw (← c.requires.ticket) (settles_skipped _ _ _ _ c.args.k c.requires.held c.requires.least))
