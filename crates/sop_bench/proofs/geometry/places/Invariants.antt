use Rattle.std.proofs.Common.{◌≤◌, vec_len}
use Rattle.sop_bench.proofs.geometry.places.Given as goal

abbrev pub invariant-loop : goal.invariant-loop
invariant-loop l = vec_len l.places ≤ l.counter
