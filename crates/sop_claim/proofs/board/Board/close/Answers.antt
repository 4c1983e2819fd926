use Rattle.std.proofs.Common.{◌≡◌, arith, min, sym}
use Rattle.std.specs.Prelude.{slice_index}
use Rattle.std.specs.Slots.{slots_items}
use Rattle.sop_claim.specs.Ends.{Knows, EndsRun}
use Rattle.sop_claim.specs.Passes.{view_of, tickets}
use Rattle.sop_claim.proofs.Sums.{index_at}
use Rattle.sop_claim.proofs.Steps.{whole}
use Rattle.sop_claim.proofs.board.Board.close.Goals as goal

module _ (c : goal.After-min-drawn) where
  ends : Knows (tickets c.args.self) record { drawn = c.min-drawn.result; least = c.word-least.result } (view_of c.args.pass) × EndsRun (tickets c.args.self) record { drawn = c.min-drawn.result; least = c.word-least.result } (view_of c.args.pass)
  ends =
      let words = slots_items c.close_with-closed.result.words in
      let next = index_at words 0 _ c.word-next.ensures in
      let least = index_at words 1 _ c.word-least.ensures in
      let drawn : c.min-drawn.result ≡ min (slice_index words 0) (tickets c.args.self) = (let m = c.min-drawn.ensures in let n = c.from.ensures in let key = c.args.self.key in omega arith) in
      whole _ _ _ words _ c.requires.whole c.close_with-closed.ensures.values.2 record { drawn = c.min-drawn.result; least = c.word-least.result } (λ i. record { drawn = drawn i; least = sym least i })

pub returns-clause-known : goal.returns-clause-known
returns-clause-known c = (ends c).0

pub returns-clause-claims : goal.returns-clause-claims
returns-clause-claims c = (ends c).1
