use Rattle.std.proofs.Common.{rules}
use Rattle.sop_claim.proofs.Steps.{loads}
use Rattle.sop_claim.proofs.board.Board.least.Goals as goal

pub load-least-requires : goal.load-least-requires
load-least-requires c = (search rules, search rules, loads _ _ _ c.args.pass.now.seat.me c.requires.1)
