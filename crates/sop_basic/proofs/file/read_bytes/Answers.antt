use Rattle.std.proofs.Common.{sym, subst}
use Rattle.geo_text.specs.ObjMeaning.{meaning}
use Rattle.sop_basic.specs.Outcomes.{limited}
use Rattle.sop_basic.specs.File.{of_text}
use Rattle.sop_basic.specs.Making.{Gives}
use Rattle.sop_basic.proofs.FileLemmas.{memory_kept}
use Rattle.sop_basic.proofs.file.read_bytes.Goals as goal

pub returns-in_err-columns : goal.returns-in_err-columns
returns-in_err-columns c =
    memory_kept c.args.vault.now c.from_residual.result (limited (of_text (meaning c.args.bytes.now))) c.from_residual.ensures.1

pub returns-in-Ok : goal.returns-in-Ok
returns-in-Ok c = subst (λ r. Gives c.args.vault.now c.load.new.vault (limited (of_text r)) c.load.result) (sym c.in-Ok.ensures.ok) c.load.ensures
