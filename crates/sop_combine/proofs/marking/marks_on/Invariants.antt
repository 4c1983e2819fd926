use Rattle.std.proofs.Common.{◌≡◌}
use Rattle.sop_combine.specs.Blast.{chosen, marks_on}
use Rattle.sop_combine.proofs.MarkLemmas.{first_of}
use Rattle.sop_combine.proofs.marking.marks_on.Given as goal

abbrev pub invariant-loop-element : goal.invariant-loop-element
invariant-loop-element g l = l.marks ≡ marks_on (g.V.GeoView.geo l.view) l.class l.and_points (first_of (chosen l.negate l.flags) l.element)
