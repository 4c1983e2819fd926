use Rattle.std.proofs.Common.{sym, ◌∙◌}
use Rattle.sop_fixed.specs.Arithmetic.{remainder_of}
use Rattle.sop_fixed.proofs.Division.{remainder_of_both}
use Rattle.sop_fixed.proofs.real.Real.rem.Goals as goal

pub returns-clause-value : goal.returns-clause-value
returns-clause-value c = sym (remainder_of_both c.self.inside.millionths c.b.inside.millionths c.self.invariant c.b.invariant c.if-b-eq0.false) ∙ (λ i. remainder_of (c.self.view_is i) (c.b.view_is i))
