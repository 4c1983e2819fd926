use Rattle.std.proofs.Common.{subst, sym, ◌∙◌}
use Rattle.vex_lexer.specs.Longest.{IsLongest}
use Rattle.vex_lexer.specs.Words.{is_name}
use Rattle.vex_lexer.proofs.Runs.{longest_name}
use Rattle.vex_lexer.proofs.name.name_len.Goals as goal

pub returns-then-begins_name : goal.returns-then-begins_name
returns-then-begins_name c = subst (IsLongest is_name c.args.rest.now) (sym c.name_bytes.ensures) (longest_name c.args.rest.now (sym c.begins_name.ensures ∙ c.if-begins_name.true))
