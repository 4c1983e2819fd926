use Rattle.std.proofs.Common.{◌≢◌, get_or, sym, ◌∙◌, arith}
use Rattle.std.proofs.lemmas.Bool.{ne_eqb}
use Rattle.sop_pattern.proofs.Ends.{star_step, byte_step}
use Rattle.sop_pattern.proofs.wildcard.matches_some_end.Goals as goal

pub loop-rest-preserved-in-42-1 : goal.loop-rest-preserved-in-42-1
loop-rest-preserved-in-42-1 c = star_step c.args.pattern.now c.args.name.now c.loop-rest.behind.now c.loop-rest.from.now c.loop-rest.rest.now c.loop-rest.left.now c.in-42.len_at_least (omega arith) c.loop-rest.invariant

pub loop-rest-preserved-then-begins : goal.loop-rest-preserved-then-begins
loop-rest-preserved-then-begins c =
    let plain : get_or c.loop-rest.rest.now 0 0 ≢ 42 = omega arith in
    byte_step c.args.pattern.now c.args.name.now c.loop-rest.behind.now c.loop-rest.from.now c.loop-rest.rest.now c.loop-rest.left.now c.in-len1-up.len_at_least
    (ne_eqb (get_or c.loop-rest.rest.now 0 0) 42 plain) (sym c.begins.ensures.value ∙ c.if-begins.true) c.loop-rest.invariant
