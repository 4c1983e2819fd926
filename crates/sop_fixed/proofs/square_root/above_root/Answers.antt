use Rattle.std.proofs.Common.{◌+◌, ◌/◌, min, ◌∙◌}
use Rattle.sop_fixed.proofs.Roots.{newton_capped}
use Rattle.sop_fixed.proofs.square_root.above_root.Goals as goal

pub returns-clause-above : goal.returns-clause-above
returns-clause-above c = newton_capped c.args.n c.args.x c.min.result c.requires.positive c.requires.within (c.min.ensures ∙ (λ i. min ((c.from-x.ensures i + c.args.n / c.from-x.ensures i) / 2) (c.from.ensures i)))
