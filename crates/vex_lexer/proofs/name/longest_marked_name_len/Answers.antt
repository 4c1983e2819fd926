use Rattle.std.proofs.Common.{◌∙◌, subst, sym}
use Rattle.vex_lexer.specs.Longest.{IsLongest}
use Rattle.vex_lexer.specs.Words.{is_marked_name}
use Rattle.vex_lexer.proofs.Longest.{one_more_entry, max_is}
use Rattle.vex_lexer.proofs.name.longest_marked_name_len.Goals as goal

pub loop-mark-preserved : goal.loop-mark-preserved
loop-mark-preserved c =
    let rest = c.args.rest.now in
    let len = c.marked_name_len.result in
    let one = subst (λ mark. IsLongest (is_marked_name mark) rest len) c.as_bytes.ensures.value c.marked_name_len.ensures in
    subst (IsLongest _ rest) (sym (c.max-longest.ensures ∙ max_is c.loop-mark.longest len))
    (one_more_entry (λ mark word. is_marked_name mark.now word) c.args.marks.now c.loop-mark.mark-index _ rest c.loop-mark.longest len c.loop-mark-test.true c.loop-mark.invariant one)
