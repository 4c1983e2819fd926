use Rattle.std.proofs.Common.{◌≡◌, subst, sym, ap, ◌∙◌, arith}
use Rattle.std.specs.Str.{IsCharBoundary}
use Rattle.hscript_text.specs.Pieces.{name_len}
use Rattle.hscript_text.proofs.Cuts.{behind_name}
use Rattle.hscript_text.proofs.piece.named.Goals as goal

pub cut-requires : goal.cut-requires
cut-requires c =
    let n : c.name_len-n.result ≡ name_len c.args.text.now = c.name_len-n.ensures ∙ ap name_len c.as_bytes.ensures.value in
    subst (IsCharBoundary c.args.text.now) (sym n) (behind_name c.args.text.now c.utf8.text (omega arith))
