use Rattle.std.proofs.Common.{rules}
use Rattle.sop_claim.proofs.Steps.{reports}
use Rattle.sop_claim.proofs.board.Board.report.Goals as goal

pub fetch_min-requires : goal.fetch_min-requires
fetch_min-requires c = (search rules, search rules, reports _ _ _ c.args.pass.now.seat.me c.from.result (rw c.from.ensures c.requires.held))
