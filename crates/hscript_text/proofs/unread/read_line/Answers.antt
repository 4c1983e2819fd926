use Rattle.std.proofs.Common.{ap, sym, ◌∙◌, subst}
use Rattle.hscript_text.specs.Reading.{followed, is_set, reading_from}
use Rattle.hscript_text.specs.Ends.{EndsReading}
use Rattle.hscript_text.specs.Parts.{variables_of, reading_left}
use Rattle.hscript_text.proofs.Readings.{command_given, set_refused}
use Rattle.hscript_text.proofs.unread.read_line.Goals as goal

pub returns-in-Err-set-clause-advances : goal.returns-in-Err-set-clause-advances
returns-in-Err-set-clause-advances c =
    let u = c.args.unread.now in (
      subst (EndsReading (reading_left u)) (sym c.end_of-in-Err-set.ensures)
          (set_refused u.line (variables_of u.variables) u.rest.now c.in-Ok.read.1.now c.in-Ok.read.0.items c.is_set.result c.in-Err-set.end c.requires.some c.requires.begins c.in-Ok.ensures.ok (c.in-Ok.ensures.further c.requires.some)
          (c.is_set.ensures ∙ ap is_set c.as_slice.ensures.value) c.if-is_set.true c.in-Err-set.ensures.refused),
      ap (λ v. reading_from u.line v 0 u.rest.now) c.in-Err-set.ensures.err,
    )

pub returns-clause-advances : goal.returns-clause-advances
returns-clause-advances c =
    let u = c.args.unread.now in
    command_given u.line (variables_of u.variables) u.rest.now c.in-Ok.read.1.now c.in-Ok.read.0.items c.is_set.result c.requires.some c.requires.begins c.in-Ok.ensures.ok (c.in-Ok.ensures.further c.requires.some)
    (c.is_set.ensures ∙ ap is_set c.as_slice.ensures.value) c.if-is_set.false
    ∙ ap (followed (record { line = u.line; words = c.in-Ok.read.0.items })) (sym c.go_on-2.ensures.reading)
    ∙ ap (λ words. followed (record { line = u.line; words = words }) (reading_left c.go_on-2.new.unread)) (sym c.from_vec-words.ensures)
