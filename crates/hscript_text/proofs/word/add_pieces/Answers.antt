use Rattle.std.proofs.Common.{sym, ap, ◌∙◌, get_or}
use Rattle.hscript_text.proofs.Cuts.{behind_mark}
use Rattle.hscript_text.proofs.word.add_pieces.Goals as goal

pub cut-requires : goal.cut-requires
cut-requires c =
    behind_mark c.args.style c.args.text.now (get_or c.as_bytes.result.now 0 0) c.utf8.text c.requires.some (ap (λ t. get_or t 0 0) c.as_bytes.ensures.value)
    (sym c.is_plain.ensures ∙ c.if-not-is_plain.true)
