use Rattle.std.proofs.Common.{◌∙◌}
use Rattle.sop_fixed.specs.Arithmetic.{int_quotient_of}
use Rattle.sop_fixed.proofs.Division.{int_small, quotient_of_ints}
use Rattle.sop_fixed.proofs.int.Int.div.Goals as goal

pub returns : goal.returns
returns c = c.of.ensures ∙ quotient_of_ints c.self.inside.number c.b.inside.number (int_small _ c.self.invariant) (int_small _ c.b.invariant) c.if-b-eq0.false ∙ (λ i. int_quotient_of (c.self.view_is i) (c.b.view_is i))
