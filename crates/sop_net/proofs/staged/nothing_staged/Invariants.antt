use Rattle.std.proofs.Common.{◌≡◌}
use Rattle.std.specs.Prelude.{None, replicate}
use Rattle.sop_net.proofs.staged.nothing_staged.Given as goal

abbrev pub invariant-loop : goal.invariant-loop
invariant-loop l = l.staged.items ≡ replicate l.counter None
