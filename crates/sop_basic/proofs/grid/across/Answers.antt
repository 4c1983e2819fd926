use Rattle.std.proofs.Common.{ap, sym, ◌∙◌, neg_ℤ, ◌-◌, ◌<◌, ◌*◌, arith}
use Rattle.sop_basic.proofs.NumberLemmas.{across_is, across_low}
use Rattle.sop_basic.proofs.grid.across.Goals as goal

pub returns-else-i-steps : goal.returns-else-i-steps
returns-else-i-steps c =
    let lt : 2 * c.args.i < c.args.count - 1 = let no = c.if-i-steps.false in omega arith in
    c.negative.ensures ∙ ap neg_ℤ c.part_of-else-i-steps.ensures ∙ sym (across_low c.args.size c.args.i (c.args.count - 1) lt) ∙ sym (across_is c.args.size c.args.count c.args.i c.if-count-le1.false)
