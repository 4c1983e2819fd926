use Rattle.std.proofs.Common.{subst}
use Rattle.hscript_text.specs.Parts.{IsEnd}
use Rattle.hscript_text.proofs.Cuts.{behind_end}
use Rattle.hscript_text.proofs.words.quoted.Goals as goal

pub cut-requires-2 : goal.cut-requires-2
cut-requires-2 c = behind_end c.args.text.now c.cut.result.1.now c.in-Some.n c.utf8.text (subst (IsEnd c.args.text.now) c.in-Some.is c.requires) c.cut.ensures.rest
