use Rattle.std.proofs.Common.{◌≡◌, [], replicate}
use Rattle.sop_tables.proofs.fresh.no_members.Given as goal

abbrev pub invariant-loop : goal.invariant-loop
invariant-loop l = l.made.items ≡ replicate l.counter []
