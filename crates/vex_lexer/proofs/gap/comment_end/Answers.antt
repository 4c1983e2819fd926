use Rattle.std.proofs.Common.{◌∙◌, sym, subst, false, eq-eqb}
use Rattle.std.proofs.lemmas.Bool.{and_from}
use Rattle.vex_lexer.specs.Longest.{IsLongest}
use Rattle.vex_lexer.specs.Gaps.{ends_comment}
use Rattle.vex_lexer.proofs.Closings.{ending_is, ending_here, ending_past}
use Rattle.vex_lexer.proofs.gap.comment_end.Goals as goal

pub returns-then-b-eq47 : goal.returns-then-b-eq47
returns-then-b-eq47 c =
    let found = ending_here c.loop-i.star c.args.text.now c.loop-i.i c.loop-i-test.true (and_from _ _ c.if-star.true (eq-eqb _ _ c.if-b-eq47.true)) in
    subst (IsLongest (ends_comment false) c.args.text.now) (sym c.loop-i.invariant ∙ found) (ending_is false c.args.text.now)

pub returns : goal.returns
returns c =
    let past = ending_past c.loop-i.star c.args.text.now c.loop-i.i c.loop-i-test.false in
    subst (IsLongest (ends_comment false) c.args.text.now) (sym c.loop-i.invariant ∙ past) (ending_is false c.args.text.now)
