use Rattle.std.proofs.Common.{◌≡◌, ap, sym, ◌∙◌, subst, get_or}
use Rattle.std.specs.Str.{IsUtf8}
use Rattle.hscript_text.specs.declared.start.Start.TheVariants as start
use Rattle.hscript_text.specs.Reading.{start_of}
use Rattle.hscript_text.specs.Parts.{variables_of}
use Rattle.hscript_text.proofs.Cuts.{behind_between}
use Rattle.hscript_text.proofs.Readings.{comment_next}
use Rattle.hscript_text.proofs.unread.advance.Goals as goal

pub cut-requires : goal.cut-requires
cut-requires c =
    let text = c.args.unread.now.rest.now in
    let at : start_of (get_or text 0 0) ≡ start.Between = ap (λ t. start_of (get_or t 0 0)) (sym c.as_bytes.ensures.value) ∙ sym c.start_of.ensures ∙ c.in-Between.is in
    behind_between text (subst IsUtf8 c.as_bytes.ensures.value c.as_bytes.ensures.utf8) c.requires.some at

pub returns-in-Comment-clause-advances : goal.returns-in-Comment-clause-advances
returns-in-Comment-clause-advances c =
    let text = c.args.unread.now.rest.now in
    let at : start_of (get_or text 0 0) ≡ start.Comment = ap (λ t. start_of (get_or t 0 0)) (sym c.as_bytes.ensures.value) ∙ sym c.start_of.ensures ∙ c.in-Comment.is in
    c.go_on-in-Comment.ensures.reading
    ∙ comment_next (variables_of c.args.unread.now.variables) text c.from_line_end-behind.result.now c.requires.some at c.from_line_end-behind.ensures c.args.unread.now.line
