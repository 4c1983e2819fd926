use Rattle.sop_model.specs.Sweep.{AreMarksOf}
use Rattle.sop_bench.proofs.vaults.every_second.Given as goal

abbrev pub invariant-loop-pair : goal.invariant-loop-pair
invariant-loop-pair l = AreMarksOf l.view l.marks
