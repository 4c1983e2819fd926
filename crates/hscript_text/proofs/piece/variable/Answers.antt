use Rattle.std.proofs.Common.{◌≡◌, IfErr, subst, sym, ap, ◌∙◌, arith}
use Rattle.std.proofs.lemmas.Result.{IfOk-weaker}
use Rattle.hscript_text.specs.Pieces.{name_len, braced, variable}
use Rattle.hscript_text.specs.Ends.{EndsAs}
use Rattle.hscript_text.specs.Parts.{variables_of}
use Rattle.hscript_text.proofs.Cuts.{behind_begins}
use Rattle.hscript_text.proofs.Pieces.{braced_variable, variable_braced}
use Rattle.hscript_text.proofs.piece.variable.Goals as goal

pub cut-requires : goal.cut-requires
cut-requires c = behind_begins 123 c.args.text.now (omega arith) c.utf8.text (sym c.begins.ensures ∙ c.if-begins.true)

pub returns-then-begins-clause-ok : goal.returns-then-begins-clause-ok
returns-then-begins-clause-ok c =
    IfOk-weaker c.braced.result _ _ (λ v. braced_variable (variables_of c.args.variables.now) c.args.text.now c.cut.result.1.now v.0.now v.1.now (sym c.begins.ensures ∙ c.if-begins.true) c.cut.ensures.rest)
    c.braced.ensures.ok

pub returns-then-begins-clause-err : goal.returns-then-begins-clause-err
returns-then-begins-clause-err c =
    let same : braced (variables_of c.args.variables.now) (name_len c.cut.result.1.now) c.cut.result.1.now ≡ variable (variables_of c.args.variables.now) c.args.text.now =
    ap (λ t. braced (variables_of c.args.variables.now) (name_len t) t) c.cut.ensures.rest ∙ sym (variable_braced (variables_of c.args.variables.now) c.args.text.now (sym c.begins.ensures ∙ c.if-begins.true)) in
    subst (λ p. IfErr c.braced.result (λ end. EndsAs p end)) same c.braced.ensures.err
