use Rattle.std.proofs.Common.{◌≡◌, ◌∙◌, sym, subst, ap, drop}
use Rattle.std.specs.List.{prefix_len}
use Rattle.std.specs.Char.{is_ascii_digit}
use Rattle.std.proofs.lemmas.List.{take_rest}
use Rattle.vex_lexer.specs.Longest.{IsLongest}
use Rattle.vex_lexer.specs.Parts.{is_signed_digits}
use Rattle.vex_lexer.proofs.Numbers.{unsigned_digits, signed_digits}
use Rattle.vex_lexer.proofs.number.signed_digits_len.Goals as goal

pub returns-then-not-begins_sign : goal.returns-then-not-begins_sign
returns-then-not-begins_sign c =
    subst (IsLongest is_signed_digits c.args.rest.now) (sym c.digits_len.ensures.value) (unsigned_digits c.args.rest.now (sym c.begins_sign.ensures ∙ c.if-not-begins_sign.true))

pub returns : goal.returns
returns c =
    let text = c.args.rest.now in
    let digits : c.digits_len-2.result ≡ prefix_len is_ascii_digit (drop 1 text) = c.digits_len-2.ensures.value ∙ ap (prefix_len is_ascii_digit) (take_rest text 1) in
    subst (IsLongest is_signed_digits text) (sym c.onto.ensures) (signed_digits text c.digits_len-2.result (sym c.begins_sign.ensures ∙ c.if-not-begins_sign.false) digits)
