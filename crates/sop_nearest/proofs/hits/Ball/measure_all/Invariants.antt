use Rattle.std.proofs.Common.{◌≡◌, ◌++◌}
use Rattle.std.specs.List.{flat_map, range_with_len}
use Rattle.sop_nearest.specs.Cells.{hits_at}
use Rattle.sop_nearest.proofs.hits.Ball.measure_all.Given as goal

abbrev pub invariant-loop-i : goal.invariant-loop-i
invariant-loop-i l = l.hits.items ≡ l.initial.hits.items ++ flat_map (hits_at l.places l.self) (range_with_len 0 l.i)
