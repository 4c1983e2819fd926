use Rattle.std.proofs.Common.{sym, subst, [], ◌∷◌}
use Rattle.sop_claim.specs.BoardRule.{Rule, first_view}
use Rattle.sop_claim.proofs.Steps.{begins}
use Rattle.sop_claim.proofs.board.Board.new.Goals as goal

pub of_words-requires : goal.of_words-requires
of_words-requires c = subst (λ m. Rule c.args.n record { words = 0 ∷ m ∷ []; homes = []; views = first_view c.args.n ∷ [] }) (sym c.from.ensures) (begins c.args.n c.ranges.n.fits)
