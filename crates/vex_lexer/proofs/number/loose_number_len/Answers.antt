use Rattle.std.proofs.Common.{◌≡◌, ◌∙◌, ◌+◌, subst, ap, drop}
use Rattle.std.proofs.lemmas.List.{take_rest}
use Rattle.vex_lexer.specs.Longest.{IsLongest}
use Rattle.vex_lexer.specs.Parts.{is_exponent, fraction_len}
use Rattle.vex_lexer.proofs.Numbers.{longest_loose}
use Rattle.vex_lexer.proofs.number.loose_number_len.Goals as goal

pub returns : goal.returns
returns c =
    let text = c.args.rest.now in
    let whole = c.digits_len-whole.result in
    let fraction = c.fraction_len.result in
    let behind : fraction ≡ fraction_len (drop whole text) = c.fraction_len.ensures.value ∙ ap fraction_len (take_rest text whole) in
    let exponent : IsLongest is_exponent (drop (whole + fraction) text) c.exponent_len.result = subst (λ t. IsLongest is_exponent t c.exponent_len.result) (take_rest text (whole + fraction)) c.exponent_len.ensures in
    longest_loose text whole fraction c.exponent_len.result c.digits_len-whole.ensures.value behind exponent
