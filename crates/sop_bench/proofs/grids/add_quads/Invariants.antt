use Rattle.sop_bench.specs.Vaults.{Leaves}
use Rattle.sop_bench.proofs.grids.add_quads.Given as goal

abbrev pub invariant-loop-first : goal.invariant-loop-first
invariant-loop-first l = Leaves l.fn.vault.geos l.vault.geos l.key l.points
