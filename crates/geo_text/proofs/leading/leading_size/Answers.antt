use Rattle.std.proofs.Common.{rules, ◌+◌, ◌-◌, ◌*◌, ◌^◌, length, take, drop, refl, sym, ap, ◌∙◌, subst, arith}
use Rattle.std.proofs.lemmas.List.{take_rest}
use Rattle.geo_text.specs.ObjDecimals.{LeadsWith}
use Rattle.geo_text.proofs.ObjNumbers.{first_byte}
use Rattle.geo_text.proofs.ObjDecimals.{whole_leads, places_lead, some_taken, taken}
use Rattle.geo_text.proofs.leading.leading_size.Goals as goal

pub returns-in_default-clause-size : goal.returns-in_default-clause-size
returns-in_default-clause-size c =
    let text = c.args.text.now in
    let (whole, len) = c.leading_number-whole.result in
    let first = c.leading_number-whole.ensures in
    subst (λ rest. LeadsWith text (whole * 1000000) rest) (sym (take_rest text len))
    (whole_leads text len (whole * 1000000) whole (some_taken text len c.if-len-eq0.false first.within) first.digits first.number refl)

pub returns-clause-size : goal.returns-clause-size
returns-clause-size c =
    let text = c.args.text.now in
    let (whole, len) = c.leading_number-whole.result in
    let (fraction, count) = c.leading_number-fraction.result in
    let first = c.leading_number-whole.ensures in
    let second = c.leading_number-fraction.ensures in
    let rest = take (length text - len) (drop len text) in
    let places = take (length rest - 1) (drop 1 rest) in
    let long = taken places count second.within in
    subst (λ rest. LeadsWith text (whole * 1000000 + fraction * c.pow.result) rest) (sym (take_rest places count))
    (places_lead text places len count (whole * 1000000 + fraction * c.pow.result) whole fraction (some_taken text len c.if-len-eq0.false first.within) first.digits first.number
    (sym (take_rest text len) ∙ first_byte rest 46 c.in-46.len_at_least (search rules)) second.digits second.number (omega (arith, long, c.if-count-gt6.false))
    (ap (λ k. whole * 1000000 + fraction * k) (c.pow.ensures ∙ ap (λ n. 10 ^ (6 - n)) (sym long))))
