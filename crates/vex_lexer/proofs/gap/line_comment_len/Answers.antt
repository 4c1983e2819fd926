use Rattle.std.proofs.Common.{◌∙◌, sym, subst, codes, not}
use Rattle.std.specs.List.{list_all}
use Rattle.vex_lexer.specs.Longest.{IsLongest}
use Rattle.vex_lexer.specs.Words.{is_line_end}
use Rattle.vex_lexer.specs.Gaps.{is_line_comment}
use Rattle.vex_lexer.proofs.Longest.{no_mark}
use Rattle.vex_lexer.proofs.Runs.{longest_line_comment}
use Rattle.vex_lexer.proofs.gap.line_comment_len.Goals as goal

pub returns-then-starts_with : goal.returns-then-starts_with
returns-then-starts_with c = subst (IsLongest is_line_comment c.args.rest.now) (sym c.line_len.ensures) (longest_line_comment c.args.rest.now (sym c.starts_with.ensures.value ∙ c.if-starts_with.true))

pub returns-else-starts_with : goal.returns-else-starts_with
returns-else-starts_with c = no_mark (codes "//") (list_all (λ b. not (is_line_end b))) c.args.rest.now (sym c.starts_with.ensures.value ∙ c.if-starts_with.false)
