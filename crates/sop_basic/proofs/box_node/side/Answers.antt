use Rattle.std.proofs.Common.{ap, sym, ◌∙◌, pos, eq-eqb}
use Rattle.sop_fixed.proofs.Division.{not_zero}
use Rattle.std.specs.Prelude.{if◌then◌else◌}
use Rattle.sop_fixed.specs.Arithmetic.{rounded, sum_of, difference_of}
use Rattle.sop_basic.proofs.NumberLemmas.{half_is}
use Rattle.sop_basic.proofs.box_node.side.Goals as goal

pub returns-then-bit-eq0 : goal.returns-then-bit-eq0
returns-then-bit-eq0 c =
    c.sub.ensures ∙ ap (difference_of c.args.center) (c.part_of-half.ensures ∙ half_is c.args.size)
    ∙ sym (ap (λ b. if b then difference_of c.args.center (rounded c.args.size (pos 2)) else sum_of c.args.center (rounded c.args.size (pos 2))) (eq-eqb c.args.bit 0 c.if-bit-eq0.true))

pub returns-else-bit-eq0 : goal.returns-else-bit-eq0
returns-else-bit-eq0 c =
    c.add.ensures ∙ ap (sum_of c.args.center) (c.part_of-half.ensures ∙ half_is c.args.size)
    ∙ sym (ap (λ b. if b then difference_of c.args.center (rounded c.args.size (pos 2)) else sum_of c.args.center (rounded c.args.size (pos 2))) (not_zero c.args.bit c.if-bit-eq0.false))
