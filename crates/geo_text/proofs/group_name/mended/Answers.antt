use Rattle.std.proofs.Common.{◌≡◌, ◌++◌, map, sym, ap, ◌∙◌, subst}
use Rattle.std.specs.Prelude.{IfOk, codes}
use Rattle.geo_text.specs.ObjStatements.{mended_byte}
use Rattle.geo_text.proofs.ObjNames.{mended_digit, mended_plain}
use Rattle.geo_text.proofs.group_name.mended.Goals as goal

pub returns-then-begins_with_digit : goal.returns-then-begins_with_digit
returns-then-begins_with_digit c =
    let whole = ap (λ l. codes "_" ++ map mended_byte l) c.front.ensures ∙ mended_digit c.args.word.now (sym c.begins_with_digit.ensures ∙ c.if-begins_with_digit.true) in
    subst (λ l. IfOk c.name_of.result (λ name. name ≡ l)) whole c.name_of.ensures

pub returns-else-begins_with_digit : goal.returns-else-begins_with_digit
returns-else-begins_with_digit c =
    let whole = ap (λ l. codes "" ++ map mended_byte l) c.front-else-begins_with_digit.ensures ∙ mended_plain c.args.word.now (sym c.begins_with_digit.ensures ∙ c.if-begins_with_digit.false) in
    subst (λ l. IfOk c.name_of-else-begins_with_digit.result (λ name. name ≡ l)) whole c.name_of-else-begins_with_digit.ensures
