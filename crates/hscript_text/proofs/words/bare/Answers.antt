use Rattle.std.proofs.Common.{ap, ◌∙◌}
use Rattle.std.specs.List.{prefix_len}
use Rattle.hscript_text.specs.Words.{is_bare}
use Rattle.hscript_text.proofs.Cuts.{behind_bare}
use Rattle.hscript_text.proofs.words.bare.Goals as goal

pub cut-requires : goal.cut-requires
cut-requires c = behind_bare c.args.text.now c.bare_len.result (c.bare_len.ensures ∙ ap (prefix_len is_bare) c.as_bytes.ensures.value)
