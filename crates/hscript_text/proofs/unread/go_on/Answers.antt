use Rattle.std.proofs.Common.{ap, ◌∙◌, ◌-◌, length, take}
use Rattle.hscript_text.specs.Reading.{line_ends}
use Rattle.hscript_text.specs.Parts.{variables_of}
use Rattle.hscript_text.proofs.Readings.{left_behind}
use Rattle.hscript_text.proofs.unread.go_on.Goals as goal

pub returns-clause-reading : goal.returns-clause-reading
returns-clause-reading c =
    let text = c.args.unread.now.rest.now in
    left_behind c.args.unread.now.line c.line_ends.result (variables_of c.args.unread.now.variables) text c.args.behind.now c.requires.rest
    (c.line_ends.ensures.value ∙ ap (λ t. line_ends (take (length text - length c.args.behind.now) t)) c.as_bytes.ensures.value)
