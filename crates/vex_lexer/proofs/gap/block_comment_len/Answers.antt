use Rattle.std.proofs.Common.{◌∙◌, sym, subst, refl, false, codes, drop}
use Rattle.std.proofs.lemmas.List.{take_rest}
use Rattle.vex_lexer.specs.Longest.{IsLongest}
use Rattle.vex_lexer.specs.Gaps.{ends_comment, is_block_comment}
use Rattle.vex_lexer.proofs.Longest.{mark_onto}
use Rattle.vex_lexer.proofs.gap.block_comment_len.Goals as goal

pub returns : goal.returns
returns c =
    let text = c.args.rest.now in
    let end : IsLongest (ends_comment false) (drop 2 text) c.comment_end.result = subst (λ t. IsLongest (ends_comment false) t c.comment_end.result) (take_rest text 2) c.comment_end.ensures in
    subst (IsLongest is_block_comment text) (sym c.onto.ensures) (mark_onto (codes "/*") (ends_comment false) text c.comment_end.result (sym c.starts_with.ensures.value ∙ c.if-not-starts_with.false) refl end)
