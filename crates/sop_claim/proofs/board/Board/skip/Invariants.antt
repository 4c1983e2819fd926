use Rattle.sop_claim.proofs.board.Board.skip.Given as goal

abbrev pub ghosts-skip_as : goal.ghosts-skip_as
ghosts-skip_as a = record { ticket = a.k }
