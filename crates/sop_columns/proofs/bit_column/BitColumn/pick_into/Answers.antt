use Rattle.std.proofs.Common.{◌∙◌, get_or, arith}
use Rattle.sop_columns.proofs.BitLemmas.{joined_more, shifts_on, flag_beside}
use Rattle.sop_columns.proofs.bit_column.BitColumn.pick_into.Goals as goal

pub loop-k-preserved : goal.loop-k-preserved
loop-k-preserved c = record {
  flags = joined_more _ _ _ _ _ _ c.loop-k.k (omega arith) c.loop-k.invariant.flags
      (c.in_ok-set.ensures.here ∙ c.get-on.ensures
      ∙ flag_beside c.args.shelf.now c.loop-k.shelf _ _ c.args.self.now c.loop-k.invariant.shifts c.requires.bits (λ x. let b = c.requires.bits.covered.each x in omega arith) (get_or c.args.numbers.now c.loop-k.k 0))
      c.in_ok-set.ensures.others;
  few = λ n b. let t = c.loop-k-test.true in c.set.ensures.few n (c.loop-k.invariant.few n b) (omega arith);
  bits = c.set.ensures.bits;
  shifts = shifts_on c.args.shelf.now c.loop-k.shelf c.set.new.shelf _ _ _ c.loop-k.invariant.shifts c.set.ensures.shifts;
}

pub returns-in_err-set-clause-few : goal.returns-in_err-set-clause-few
returns-in_err-set-clause-few c = λ n b. let t = c.loop-k-test.true in c.set.ensures.few n (c.loop-k.invariant.few n b) (omega arith)
