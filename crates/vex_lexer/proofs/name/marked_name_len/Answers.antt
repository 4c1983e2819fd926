use Rattle.std.proofs.Common.{◌∙◌, sym, subst, refl, drop, length}
use Rattle.std.proofs.lemmas.List.{take_rest}
use Rattle.vex_lexer.specs.Longest.{IsLongest}
use Rattle.vex_lexer.specs.Words.{is_name, is_marked_name}
use Rattle.vex_lexer.proofs.Longest.{mark_onto}
use Rattle.vex_lexer.proofs.name.marked_name_len.Goals as goal

pub returns : goal.returns
returns c =
    let text = c.args.rest.now in
    let mark = c.args.mark.now in
    let name : IsLongest is_name (drop (length mark) text) c.name_len.result = subst (λ t. IsLongest is_name t c.name_len.result) (take_rest text (length mark)) c.name_len.ensures in
    subst (IsLongest (is_marked_name mark) text) (sym c.onto.ensures) (mark_onto mark is_name text c.name_len.result (sym c.starts_with.ensures.value ∙ c.if-not-starts_with.false) refl name)
