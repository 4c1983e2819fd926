use Rattle.std.proofs.Common.{not, ap, ◌∙◌}
use Rattle.std.specs.List.{prefix_len}
use Rattle.hscript_text.specs.Reading.{is_line_end}
use Rattle.hscript_text.proofs.Cuts.{behind_line}
use Rattle.hscript_text.proofs.unread.from_line_end.Goals as goal

pub cut-requires : goal.cut-requires
cut-requires c = behind_line c.args.text.now c.line_len.result (c.line_len.ensures ∙ ap (prefix_len (λ b. not (is_line_end b))) c.as_bytes.ensures.value)
