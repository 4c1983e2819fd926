use Rattle.std.proofs.Common.{◌==◌, false, position, subst, sym, ap, ◌∙◌, IfErr}
use Rattle.std.proofs.lemmas.Result.{IfOk-weaker}
use Rattle.hscript_text.specs.Words.{unescaped_quote}
use Rattle.hscript_text.specs.Ends.{EndsAs}
use Rattle.hscript_text.specs.Parts.{variables_of, IsEnd}
use Rattle.hscript_text.proofs.Closings.{single_end, double_end}
use Rattle.hscript_text.proofs.Openings.{behind_single, behind_double, first_single, first_double, quoted_read}
use Rattle.hscript_text.proofs.words.read_word.Goals as goal

pub cut-requires : goal.cut-requires
cut-requires c = behind_single c.args.text.now c.args.style c.utf8.text c.requires.some c.requires.begins c.in-Single.is

pub cut-requires-in-Double : goal.cut-requires-in-Double
cut-requires-in-Double c = behind_double c.args.text.now c.args.style c.utf8.text c.requires.some c.requires.begins c.in-Double.is

pub quoted-requires : goal.quoted-requires
quoted-requires c =
    let end = c.single_quote.ensures ∙ ap (position (λ b. b == 39)) c.as_bytes.ensures.value in
    subst (IsEnd c.cut.result.1.now) (sym end) (single_end c.cut.result.1.now)

pub quoted-requires-in-Double : goal.quoted-requires-in-Double
quoted-requires-in-Double c =
    let end = c.unescaped_quote.ensures ∙ ap (unescaped_quote false) c.as_bytes-in-Double.ensures.value in
    subst (IsEnd c.cut-in-Double.result.1.now) (sym end) (double_end false c.cut-in-Double.result.1.now)

pub returns-in-Single-clause-ok : goal.returns-in-Single-clause-ok
returns-in-Single-clause-ok c =
    let is = first_single (variables_of c.args.variables.now) c.args.style c.args.text.now c.cut.result.1.now c.single_quote.result c.in-Single.is c.cut.ensures.rest
    (c.single_quote.ensures ∙ ap (position (λ b. b == 39)) c.as_bytes.ensures.value) in
    IfOk-weaker c.quoted.result _ _ (λ read. quoted_read _ _ c.args.text.now c.cut.result.1.now read.0 read.1.now is c.cut.ensures.rest c.requires.some) c.quoted.ensures.ok

pub returns-in-Single-clause-err : goal.returns-in-Single-clause-err
returns-in-Single-clause-err c =
    let is = first_single (variables_of c.args.variables.now) c.args.style c.args.text.now c.cut.result.1.now c.single_quote.result c.in-Single.is c.cut.ensures.rest
    (c.single_quote.ensures ∙ ap (position (λ b. b == 39)) c.as_bytes.ensures.value) in
    subst (λ t. IfErr c.quoted.result (λ end. EndsAs t end)) (sym is) c.quoted.ensures.err

pub returns-in-Double-clause-ok : goal.returns-in-Double-clause-ok
returns-in-Double-clause-ok c =
    let is = first_double (variables_of c.args.variables.now) c.args.style c.args.text.now c.cut-in-Double.result.1.now c.unescaped_quote.result c.in-Double.is c.cut-in-Double.ensures.rest
    (c.unescaped_quote.ensures ∙ ap (unescaped_quote false) c.as_bytes-in-Double.ensures.value) in
    IfOk-weaker c.quoted-in-Double.result _ _ (λ read. quoted_read _ _ c.args.text.now c.cut-in-Double.result.1.now read.0 read.1.now is c.cut-in-Double.ensures.rest c.requires.some) c.quoted-in-Double.ensures.ok

pub returns-in-Double-clause-err : goal.returns-in-Double-clause-err
returns-in-Double-clause-err c =
    let is = first_double (variables_of c.args.variables.now) c.args.style c.args.text.now c.cut-in-Double.result.1.now c.unescaped_quote.result c.in-Double.is c.cut-in-Double.ensures.rest
    (c.unescaped_quote.ensures ∙ ap (unescaped_quote false) c.as_bytes-in-Double.ensures.value) in
    subst (λ t. IfErr c.quoted-in-Double.result (λ end. EndsAs t end)) (sym is) c.quoted-in-Double.ensures.err
