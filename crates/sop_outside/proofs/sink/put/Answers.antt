use Rattle.std.proofs.Common.{arith, length, ap}
use Rattle.std.proofs.lemmas.List.{length-take, length-drop}
use Rattle.sop_outside.proofs.Appended.{appended_more}
use Rattle.sop_outside.proofs.sink.put.Goals as goal

pub loop-done-preserved : goal.loop-done-preserved
loop-done-preserved g c = record {
  within = omega (arith, simp (length-take, length-drop) at c.in_ok-done.ensures.most);
  told = appended_more _ _ _ c.args.bytes.now c.loop-done.done c.in_ok-done.field-0 c.loop-done.invariant.told c.in_ok-done.ensures.ok;
  later = omega (arith, c.in_ok-done.ensures.faults.later);
  untouched = λ empty. absurd (omega (arith, ap length empty, c.loop-done-test.true));
}
