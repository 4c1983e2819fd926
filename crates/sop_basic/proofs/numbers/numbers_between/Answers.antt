use Rattle.std.proofs.Common.{◌≡◌, ◌+◌, ◌-◌, ◌++◌, [], ◌∷◌, ap, ◌∙◌, sym, arith}
use Rattle.std.specs.List.{range_with_len}
use Rattle.sop_basic.proofs.ShapeLemmas.{range_more}
use Rattle.sop_basic.proofs.numbers.numbers_between.Goals as goal

pub loop-number-preserved : goal.loop-number-preserved
loop-number-preserved c =
    let k = c.loop-number.number in
    let a = c.args.first in
    let long : k + 1 - a ≡ (k - a) + 1 = let least = c.loop-number.auto.number in omega arith in
    let here : a + (k - a) ≡ k = let least = c.loop-number.auto.number in omega arith in
    c.in_ok-push.ensures.items ∙ ap (λ xs. xs ++ k ∷ []) c.loop-number.invariant ∙ ap (λ n. range_with_len a (k - a) ++ n ∷ []) (sym here) ∙ sym (range_more a (k - a)) ∙ ap (range_with_len a) (sym long)
