use Rattle.sop_bench.specs.Vaults.{Leaves}
use Rattle.sop_bench.proofs.grids.place_points.Given as goal

abbrev pub invariant-loop-point : goal.invariant-loop-point
invariant-loop-point l = Leaves l.fn.vault.geos l.vault.geos l.key l.points
