use Rattle.std.proofs.Common.{◌∙◌, sym, subst, drop}
use Rattle.std.proofs.lemmas.List.{take_rest}
use Rattle.vex_lexer.specs.Longest.{IsLongest}
use Rattle.vex_lexer.specs.Parts.{is_signed_digits, is_exponent}
use Rattle.vex_lexer.proofs.Numbers.{longest_exponent, no_exponent}
use Rattle.vex_lexer.proofs.number.exponent_len.Goals as goal

pub returns-then-not-begins_exponent_mark : goal.returns-then-not-begins_exponent_mark
returns-then-not-begins_exponent_mark c = no_exponent c.args.rest.now (sym c.begins_exponent_mark.ensures ∙ c.if-not-begins_exponent_mark.true)

pub returns : goal.returns
returns c =
    let text = c.args.rest.now in
    let len = c.signed_digits_len.result in
    let digits : IsLongest is_signed_digits (drop 1 text) len = subst (λ t. IsLongest is_signed_digits t len) (take_rest text 1) c.signed_digits_len.ensures in
    subst (IsLongest is_exponent text) (sym c.onto.ensures) (longest_exponent text len (sym c.begins_exponent_mark.ensures ∙ c.if-not-begins_exponent_mark.false) digits)
