use Rattle.sop_pattern.specs.Marks.{marked, member_of}
use Rattle.sop_pattern.proofs.Marking.{Through}
use Rattle.sop_pattern.proofs.marks.mark_group.Given as goal

abbrev pub invariant-loop-e : goal.invariant-loop-e
invariant-loop-e g l = Through (λ e flag. marked l.to (member_of (g.V.GeoView.geo l.view) l.class l.group e) flag) l.e l.initial.flags l.flags
