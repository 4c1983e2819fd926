use Rattle.std.proofs.Common.{rules, sym, ◌∙◌, ◌-◌, ap, subst, length, take, drop}
use Rattle.std.proofs.lemmas.List.{take_rest}
use Rattle.geo_text.specs.ObjLines.{joined}
use Rattle.geo_text.specs.ObjScan.{is_apart}
use Rattle.geo_text.specs.ObjReferences.{SaysNumber}
use Rattle.geo_text.proofs.ObjNumbers.{number_here, first_byte}
use Rattle.geo_text.proofs.reference.next_number.Goals as goal

pub returns-then-is_apart-clause-number : goal.returns-then-is_apart-clause-number
returns-then-is_apart-clause-number c =
    let text = c.args.text.now in
    let word = take (length text - 1) (drop 1 text) in
    let (number, len) = c.leading_number-number.result in
    let behind = take_rest word len in
    subst (λ rest. SaysNumber text number rest) (sym behind)
    (number_here text word len number (first_byte text 32 c.in-32.len_at_least (search rules)) c.if-len-gt0.true c.leading_number-number.ensures.within
    c.leading_number-number.ensures.digits c.leading_number-number.ensures.number
    (ap (λ rest. is_apart (joined rest)) (sym behind) ∙ sym c.is_apart.ensures ∙ c.if-is_apart.true))
