use Rattle.sop_basic.specs.Outcomes.{limited}
use Rattle.sop_basic.proofs.MakingLemmas.{gives_made, gives_stopped}
use Rattle.sop_basic.proofs.making.finish.Goals as goal

pub returns-in-Ok-clause-gives : goal.returns-in-Ok-clause-gives
returns-in-Ok-clause-gives c = λ first opened g outcome add made.
    gives_made first opened c.args.vault.now c.args.vault.now c.args.key g add (limited outcome) (c.in-Ok.ensures opened outcome made)

pub returns-in-Err-clause-gives : goal.returns-in-Err-clause-gives
returns-in-Err-clause-gives c = λ first opened g outcome add made.
    gives_stopped first opened c.args.vault.now c.drop_geo.new.self c.args.key g add (limited outcome) c.in-Err.stop (c.in-Err.ensures opened outcome made) c.drop_geo.ensures.gone
