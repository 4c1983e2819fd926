use Rattle.std.proofs.Common.{take}
use Rattle.sop_combine.proofs.MergeLemmas.{IsMerging}
use Rattle.sop_combine.proofs.merge.append_all.Given as goal

abbrev pub invariant-loop-input : goal.invariant-loop-input
invariant-loop-input l = IsMerging l.initial.vault l.vault l.key (take l.input-index l.inputs)
