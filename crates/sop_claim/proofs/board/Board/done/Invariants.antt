use Rattle.sop_claim.proofs.board.Board.done.Given as goal

abbrev pub ghosts-done_as : goal.ghosts-done_as
ghosts-done_as a = record { ticket = a.k }
