use Rattle.std.proofs.Common.{sym, ap, ◌∙◌, arith}
use Rattle.std.specs.Option.{option_copied}
use Rattle.std.specs.Prelude.{get_or}
use Rattle.hscript_text.proofs.Cuts.{behind_escape}
use Rattle.hscript_text.proofs.piece.escape.Goals as goal

pub cut-requires : goal.cut-requires
cut-requires c =
    let same = c.as_bytes.ensures.value in
    behind_escape c.args.text.now c.in-Some.byte.now (get_or c.as_bytes.result.now 0 0) c.utf8.text (omega arith) (ap (λ t. get_or t 0 0) same)
    (sym (ap option_copied c.in-Some.is) ∙ c.escape_of.ensures)
