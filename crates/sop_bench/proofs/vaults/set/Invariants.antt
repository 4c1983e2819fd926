use Rattle.std.proofs.Common.{IsSomeAnd}
use Rattle.sop_vault.specs.Keyed.{at}
use Rattle.sop_bench.specs.Vaults.{HasPlaces}
use Rattle.sop_bench.proofs.vaults.set.Given as goal

abbrev pub invariant-loop-round : goal.invariant-loop-round
invariant-loop-round l = IsSomeAnd (at l.vault.geos l.key) (HasPlaces l.points)
