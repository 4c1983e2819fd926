use Rattle.std.proofs.Common.{get_or, false}
use Rattle.sop_pattern.specs.declared.word.Effect.TheVariants.{AddsOthers}
use Rattle.sop_pattern.specs.Selection.{selected_by}
use Rattle.sop_pattern.proofs.Marking.{Through}
use Rattle.sop_pattern.proofs.marks.add_others.Given as goal

abbrev pub invariant-loop-e : goal.invariant-loop-e
invariant-loop-e l = Through (λ e flag. selected_by AddsOthers flag (get_or l.held e false)) l.e l.initial.flags l.flags
