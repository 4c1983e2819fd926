use Rattle.sop_vault.specs.Keyed.{IsLive}
use Rattle.sop_bench.proofs.vaults.shared.Given as goal

abbrev pub invariant-loop : goal.invariant-loop
invariant-loop l = IsLive l.vault.geos l.key
