use Rattle.sop_combine.specs.Combine.{combine_geo}
use Rattle.sop_basic.specs.Cook.{inputs_seen}
use Rattle.sop_basic.proofs.GivingLemmas.{as_before}
use Rattle.sop_combine.proofs.CombineLemmas.{good_made}
use Rattle.sop_combine.proofs.cook.cook_combine.Goals as goal

pub returns-clause-err : goal.returns-clause-err
returns-clause-err c =
    as_before c.args.vault.now c.cook_now-cooked.new.vault (combine_geo c.args.node_type c.args.parms.now (inputs_seen c.args.vault.now c.args.inputs.now)) c.cook_now-cooked.result c.is_vault.ensures c.is_vault-2.ensures c.cook_now-cooked.ensures

pub returns-clause-good : goal.returns-clause-good
returns-clause-good c =
    good_made c.args.vault.now c.cook_now-cooked.new.vault c.args.node_type c.args.parms.now c.args.inputs.now c.cook_now-cooked.result c.is_vault-2.ensures c.cook_now-cooked.ensures
