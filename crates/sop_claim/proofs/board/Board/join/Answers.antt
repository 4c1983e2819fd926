use Rattle.std.proofs.Common.{rules, arith}
use Rattle.sop_claim.proofs.Steps.{joins, weighs}
use Rattle.sop_claim.proofs.board.Board.join.Goals as goal

pub join_seat-requires : goal.join_seat-requires
join_seat-requires c =
    let pass = c.args.pass.now in
    (search rules, search rules, search rules, search rules, joins _ _ pass.seat.me.0 _ c.args.other.seat.me.0 (let a = pass.share_is in let b = pass.some_share in omega arith))

pub load-requires : goal.load-requires
load-requires c = (search rules, search rules, weighs _ _ _ _)
