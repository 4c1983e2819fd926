use Rattle.std.proofs.Common.{subst, sym}
use Rattle.vex_lexer.specs.Longest.{IsLongest}
use Rattle.vex_lexer.specs.Gaps.{is_comment, is_line_comment, is_block_comment}
use Rattle.vex_lexer.proofs.Longest.{either_longest}
use Rattle.vex_lexer.proofs.gap.comment_len.Goals as goal

pub returns : goal.returns
returns c =
    let line = c.line_comment_len.result in
    let block = c.block_comment_len.result in
    subst (IsLongest is_comment c.args.rest.now) (sym c.max.ensures)
    (either_longest is_line_comment is_block_comment c.args.rest.now line block c.line_comment_len.ensures c.block_comment_len.ensures)
