use Rattle.std.proofs.Common.{subst, Ok}
use Rattle.sop_vault.specs.Vaults.{Added}
use Rattle.sop_basic.proofs.MakingLemmas.{made_at_once, prepares_of}
use Rattle.sop_basic.proofs.making.hand_on.Goals as goal

pub returns-clause-gives : goal.returns-clause-gives
returns-clause-gives c = λ g there.
    let add = subst (λ o. Added c.args.vault.now c.share.new.self c.in_ok-key.key o) there c.in_ok-key.ensures.ok in
    c.finish.ensures.gives c.args.vault.now c.share.new.self g (Ok g) add (prepares_of c.share.new.self c.share.new.self c.in_ok-key.key (Ok g) (Ok tt) (made_at_once c.share.new.self c.in_ok-key.key g add.geos.here))
