use Rattle.std.proofs.Common.{rules}
use Rattle.sop_claim.proofs.Steps.{splits}
use Rattle.sop_claim.proofs.board.Board.split.Goals as goal

pub split_seat-seat-requires : goal.split_seat-seat-requires
split_seat-seat-requires c = (search rules, search rules, splits _ _ _ c.requires.room)
