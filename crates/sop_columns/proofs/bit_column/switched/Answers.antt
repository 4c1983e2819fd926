use Rattle.std.proofs.Common.{◌∙◌, ap, sym, ℕ, ◌==◌}
use Rattle.std.specs.Int.{w128}
use Rattle.std.proofs.lemmas.Nat.Bits.{bit_at_set_same, bit_at_set_other, bit_at_clear_same, bit_at_clear_other}
use Rattle.sop_columns.proofs.bit_column.switched.Goals as goal

pub returns-then-on-clause-here : goal.returns-then-on-clause-here
returns-then-on-clause-here c = ap (λ (n : ℕ). n == 1) (bit_at_set_same w128 c.args.word c.args.j c.requires) ∙ sym c.if-on.true

pub returns-then-on-clause-others : goal.returns-then-on-clause-others
returns-then-on-clause-others c = λ k h n. ap (λ (b : ℕ). b == 1) (bit_at_set_other w128 c.args.word c.args.j c.requires k n)

pub returns-else-on-clause-here : goal.returns-else-on-clause-here
returns-else-on-clause-here c = ap (λ (n : ℕ). n == 1) (bit_at_clear_same w128 c.args.word c.args.j c.requires) ∙ sym c.if-on.false

pub returns-else-on-clause-others : goal.returns-else-on-clause-others
returns-else-on-clause-others c = λ k h n. ap (λ (b : ℕ). b == 1) (bit_at_clear_other w128 c.args.word c.args.j c.requires k h n)
