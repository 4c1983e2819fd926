use Rattle.std.proofs.Common.{subst}
use Rattle.sop_basic.specs.Making.{Prepares}
use Rattle.sop_basic.proofs.MakingLemmas.{judged_ok, judged_err}
use Rattle.sop_basic.proofs.making.judged.Goals as goal

pub returns-in-Ok : goal.returns-in-Ok
returns-in-Ok c = λ opened outcome made.
    judged_ok opened c.args.vault.now c.args.key outcome c.judge.result c.judge.ensures (subst (λ r. Prepares opened c.args.vault.now c.args.key outcome r) c.in-Ok.is made)

pub returns-in-Err : goal.returns-in-Err
returns-in-Err c = λ opened outcome made.
    judged_err opened c.args.vault.now c.args.key outcome c.in-Err.stop (subst (λ r. Prepares opened c.args.vault.now c.args.key outcome r) c.in-Err.is made)
