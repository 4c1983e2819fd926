use Rattle.std.proofs.Common.{subst, sym, ◌||◌}
use Rattle.vex_lexer.specs.Longest.{IsLongest}
use Rattle.vex_lexer.specs.Words.{is_number, is_name, is_attribute_name, is_string, is_operator}
use Rattle.vex_lexer.proofs.Longest.{either_longest}
use Rattle.vex_lexer.proofs.opening.token_len.Goals as goal

pub returns : goal.returns
returns c =
    let rest = c.args.rest.now in
    let names = subst (IsLongest (λ w. is_number w || is_name w) rest) (sym c.max-number_or_name.ensures)
    (either_longest is_number is_name rest c.number_len.result c.name_len.result c.number_len.ensures c.name_len.ensures) in
    let attributes = subst (IsLongest (λ w. is_number w || is_name w || is_attribute_name w) rest) (sym c.max.ensures)
    (either_longest (λ w. is_number w || is_name w) is_attribute_name rest c.max-number_or_name.result c.attribute_name_len.result names c.attribute_name_len.ensures) in
    let strings = subst (IsLongest (λ w. is_number w || is_name w || is_attribute_name w || is_string w) rest) (sym c.max-2.ensures)
    (either_longest (λ w. is_number w || is_name w || is_attribute_name w) is_string rest c.max.result c.string_len.result attributes c.string_len.ensures) in
    subst (IsLongest (λ w. is_number w || is_name w || is_attribute_name w || is_string w || is_operator w) rest) (sym c.max-3.ensures)
    (either_longest (λ w. is_number w || is_name w || is_attribute_name w || is_string w) is_operator rest c.max-2.result c.operator_len.result strings c.operator_len.ensures)
