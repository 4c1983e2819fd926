use Rattle.std.proofs.Common.{◌≡◌, get_or, length, ◌<◌, subst, sym, ap, ◌∙◌, arith}
use Rattle.hscript_text.specs.declared.style.Opening.TheVariants as opening
use Rattle.hscript_text.specs.Words.{opening_of}
use Rattle.hscript_text.specs.Ends.{EndsAs}
use Rattle.hscript_text.specs.Parts.{variables_of, joined}
use Rattle.hscript_text.proofs.Openings.{behind_opening}
use Rattle.hscript_text.proofs.Lines.{joined_word, joined_refused, rest_further}
use Rattle.hscript_text.proofs.words.read_command.Goals as goal

pub cut-requires : goal.cut-requires
cut-requires c =
    let at : opening_of (get_or c.words.rest.now 0 0) ≡ opening.Blank = ap (λ t. opening_of (get_or t 0 0)) (sym c.as_bytes.ensures.value) ∙ sym c.opening_of.ensures ∙ c.in-Blank.is in
    let some : 0 < length c.words.rest.now = omega arith in
    behind_opening c.words.rest.now opening.Blank c.words.invariant.0 some at (λ q. cc)

pub cut-requires-in-LineEnd : goal.cut-requires-in-LineEnd
cut-requires-in-LineEnd c =
    let at : opening_of (get_or c.words.rest.now 0 0) ≡ opening.LineEnd = ap (λ t. opening_of (get_or t 0 0)) (sym c.as_bytes.ensures.value) ∙ sym c.opening_of.ensures ∙ c.in-LineEnd.is in
    let some : 0 < length c.words.rest.now = omega arith in
    behind_opening c.words.rest.now opening.LineEnd c.words.invariant.0 some at (λ q. cc)

pub returns-in-Err-clause-err : goal.returns-in-Err-clause-err
returns-in-Err-clause-err c =
    let at : opening_of (get_or c.words.rest.now 0 0) ≡ opening.Word c.in-Word.style = ap (λ t. opening_of (get_or t 0 0)) (sym c.as_bytes.ensures.value) ∙ sym c.opening_of.ensures ∙ c.in-Word.is in
    let some : 0 < length c.words.rest.now = omega arith in
    subst (λ m. EndsAs m c.in-Err.end) c.words.invariant.1 (joined_refused (variables_of c.args.variables.now) c.words.words.items c.words.rest.now c.in-Word.style c.in-Err.end some at c.in-Err.ensures.err)

pub words-preserved : goal.words-preserved
words-preserved c =
    let at : opening_of (get_or c.words.rest.now 0 0) ≡ opening.Word c.in-Word.style = ap (λ t. opening_of (get_or t 0 0)) (sym c.as_bytes.ensures.value) ∙ sym c.opening_of.ensures ∙ c.in-Word.is in
    let some : 0 < length c.words.rest.now = omega arith in
    let read = c.in-Ok.ensures.ok in
    let next = joined_word (variables_of c.args.variables.now) c.words.words.items c.words.rest.now c.in-Ok.read.1.now c.in-Ok.read.0 c.in-Word.style some at read in (
      c.in-Ok.ensures.utf8,
      ap (λ w. joined (variables_of c.args.variables.now) w c.in-Ok.read.1.now) c.in-Ok-push.ensures.items ∙ sym next ∙ c.words.invariant.1,
      rest_further c.args.text.now c.words.rest.now c.in-Ok.read.1.now read.bytes read.inside read.leaves c.words.invariant.2,
    )
