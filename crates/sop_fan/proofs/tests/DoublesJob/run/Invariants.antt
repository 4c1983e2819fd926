use Rattle.std.proofs.Common.{◌≡◌, ℕ, ◌+◌, ◌*◌, ◌<◌, length, slice_index}
use Rattle.sop_fan.proofs.tests.DoublesJob.run.Given as goal

abbrev pub invariant-loop-i : goal.invariant-loop-i
invariant-loop-i g l = (length l.doubles.items ≡ l.i) × ((j : ℕ) → j < l.i → slice_index l.doubles.items j ≡ 2 * slice_index (g.V.Numbers.numbers l.self.view.now) (l.first + j))
