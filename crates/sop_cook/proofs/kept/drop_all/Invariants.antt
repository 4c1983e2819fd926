use Rattle.std.proofs.Common.{drop}
use Rattle.sop_cook.proofs.KeptLemmas.{Left}
use Rattle.sop_cook.proofs.kept.drop_all.Given as goal

abbrev pub invariant-loop-key : goal.invariant-loop-key
invariant-loop-key l = Left l.initial.vault l.vault l.keys (drop l.key-index l.keys)
