use Rattle.sop_vault.specs.Keyed.{IsLive}
use Rattle.sop_bench.proofs.vaults.merged_again.Given as goal

abbrev pub invariant-loop : goal.invariant-loop
invariant-loop l = record { first : IsLive l.vault.geos l.first; second : IsLive l.vault.geos l.second }
