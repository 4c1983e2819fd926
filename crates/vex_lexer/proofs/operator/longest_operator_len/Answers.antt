use Rattle.std.proofs.Common.{◌∙◌, subst, sym, bytes_eq}
use Rattle.vex_lexer.specs.Longest.{IsLongest}
use Rattle.vex_lexer.specs.Operators.{text_of}
use Rattle.vex_lexer.proofs.Longest.{one_more_entry, max_is}
use Rattle.vex_lexer.proofs.operator.longest_operator_len.Goals as goal

pub loop-operator-preserved : goal.loop-operator-preserved
loop-operator-preserved c =
    let rest = c.args.rest.now in
    let len = c.one_operator_len.result in
    let one = subst (λ text. IsLongest (bytes_eq text) rest len) (c.as_bytes.ensures.value ∙ c.text.ensures) c.one_operator_len.ensures in
    subst (IsLongest _ rest) (sym (c.max-longest.ensures ∙ max_is c.loop-operator.longest len))
    (one_more_entry (λ operator word. bytes_eq (text_of operator) word) c.args.operators.now c.loop-operator.operator-index _ rest c.loop-operator.longest len c.loop-operator-test.true c.loop-operator.invariant one)
