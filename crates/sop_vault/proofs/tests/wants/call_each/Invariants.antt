use Rattle.sop_vault.specs.Keyed.{IsLive}
use Rattle.sop_vault.specs.Living.{StayLive}
use Rattle.sop_vault.proofs.tests.wants.call_each.Given as goal

abbrev pub invariant-loop-call : goal.invariant-loop-call
invariant-loop-call g l = record { key : IsLive l.vault.geos l.key; other : IsLive l.vault.geos l.other; stay : StayLive l.fn.vault.geos l.vault.geos }
