use Rattle.sop_basic.specs.Loads.{file_in}
use Rattle.sop_basic.specs.Basic.{basic_geo}
use Rattle.sop_basic.specs.Cook.{inputs_seen}
use Rattle.sop_basic.proofs.GivingLemmas.{as_before}
use Rattle.sop_basic.proofs.GoodLemmas.{good_made}
use Rattle.sop_basic.proofs.cook.cook_basic.Goals as goal

pub returns-clause-err : goal.returns-clause-err
returns-clause-err c =
    as_before c.args.vault.now c.cook_by_type-cooked.new.vault (basic_geo (file_in c.args.loaded.now) c.args.node_type c.args.parms.now (inputs_seen c.args.vault.now c.args.inputs.now)) c.cook_by_type-cooked.result c.is_vault.ensures c.is_vault-2.ensures c.cook_by_type-cooked.ensures.gives

pub returns-clause-good : goal.returns-clause-good
returns-clause-good c =
    good_made c.args.vault.now c.cook_by_type-cooked.new.vault (file_in c.args.loaded.now) c.args.node_type c.args.parms.now c.args.inputs.now c.cook_by_type-cooked.result c.is_vault-2.ensures c.requires.values c.cook_by_type-cooked.ensures.gives
