use Rattle.std.proofs.Common.{◌∙◌, ◌+◌, refl, arith}
use Rattle.sop_columns.proofs.BitLemmas.{joined_more, shifts_on, flag_beside}
use Rattle.sop_columns.proofs.bit_column.BitColumn.join_into.Goals as goal

pub loop-k-preserved : goal.loop-k-preserved
loop-k-preserved c = record {
  flags = joined_more _ _ _ _ _ _ (c.args.len + c.loop-k.k) refl c.loop-k.invariant.flags
      (c.in_ok-set.ensures.here ∙ c.get-on.ensures ∙ flag_beside c.args.shelf.now c.loop-k.shelf _ _ c.args.self.now c.loop-k.invariant.shifts c.requires.bits c.requires.beside c.loop-k.k)
      c.in_ok-set.ensures.others;
  few = λ n a b. let t = c.loop-k-test.true in c.set.ensures.few n (c.loop-k.invariant.few n a b) (omega arith);
  bits = c.set.ensures.bits;
  shifts = shifts_on c.args.shelf.now c.loop-k.shelf c.set.new.shelf _ _ _ c.loop-k.invariant.shifts c.set.ensures.shifts;
}

pub returns-in_err-set-clause-few : goal.returns-in_err-set-clause-few
returns-in_err-set-clause-few c = λ n a b. let t = c.loop-k-test.true in c.set.ensures.few n (c.loop-k.invariant.few n a b) (omega arith)
