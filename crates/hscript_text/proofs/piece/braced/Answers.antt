use Rattle.std.proofs.Common.{◌≡◌, take, Some, subst, sym, ap, ◌∙◌, arith}
use Rattle.std.proofs.lemmas.Str.{IsUtf8-drop}
use Rattle.std.specs.Option.{option_copied}
use Rattle.std.specs.Str.{IsCharBoundary, IsUtf8}
use Rattle.hscript_text.specs.Pieces.{name_len}
use Rattle.hscript_text.specs.Parts.{variables_of}
use Rattle.hscript_text.proofs.Cuts.{behind_name, behind_begins}
use Rattle.hscript_text.proofs.Pieces.{braced_taken}
use Rattle.hscript_text.proofs.piece.braced.Goals as goal

pub cut-requires : goal.cut-requires
cut-requires c =
    let n : c.name_len-n.result ≡ name_len c.args.text.now = c.name_len-n.ensures ∙ ap name_len c.as_bytes.ensures.value in
    subst (IsCharBoundary c.args.text.now) (sym n) (behind_name c.args.text.now c.utf8.text (omega arith))

pub cut-requires-2 : goal.cut-requires-2
cut-requires-2 c =
    let n : c.name_len-n.result ≡ name_len c.args.text.now = c.name_len-n.ensures ∙ ap name_len c.as_bytes.ensures.value in
    let at : IsCharBoundary c.args.text.now c.name_len-n.result = subst (IsCharBoundary c.args.text.now) (sym n) (behind_name c.args.text.now c.utf8.text (omega arith)) in
    let utf8 : IsUtf8 c.cut.result.1.now = subst IsUtf8 (sym c.cut.ensures.rest) (IsUtf8-drop c.args.text.now c.name_len-n.result c.utf8.text at) in
    behind_begins 125 c.cut.result.1.now (omega arith) utf8 (sym c.begins.ensures ∙ c.if-not-begins.false)

pub returns-in-Some-clause-ok : goal.returns-in-Some-clause-ok
returns-in-Some-clause-ok c =
    let n : c.name_len-n.result ≡ name_len c.args.text.now = c.name_len-n.ensures ∙ ap name_len c.as_bytes.ensures.value in
    let found : variables_of c.args.variables.now (take c.name_len-n.result c.args.text.now) ≡ Some c.as_str.result.now =
    ap (variables_of c.args.variables.now) (sym c.cut.ensures.front) ∙ sym c.get.ensures ∙ ap option_copied c.in-Some.is ∙ ap Some (sym c.as_str.ensures) in
    braced_taken (variables_of c.args.variables.now) c.args.text.now c.as_str.result.now c.cut.result.1.now c.cut-2.result.1.now c.name_len-n.result n c.if-n-eq0.false
    (sym c.begins.ensures ∙ c.if-not-begins.false) c.cut.ensures.rest c.cut-2.ensures.rest found
