use Rattle.std.proofs.Common.{◌≡◌, ◌-◌, length}
use Rattle.sop_outside.proofs.Appended.{HasPut}
use Rattle.sop_outside.proofs.sink.put.Given as goal

abbrev pub invariant-loop-done : goal.invariant-loop-done
invariant-loop-done g l =
    HasPut (g.S.Sink.told l.fn.sink) (g.S.Sink.told l.sink) (g.S.Sink.faults l.fn.sink) (g.S.Sink.faults l.sink) l.bytes l.done (l.sink ≡ l.fn.sink)

abbrev pub decreases-loop-done : goal.decreases-loop-done
decreases-loop-done g l = length l.initial.bytes - l.done
