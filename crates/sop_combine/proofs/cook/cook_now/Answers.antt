use Rattle.std.proofs.Common.{ap, sym, subst}
use Rattle.sop_basic.specs.Making.{Gives}
use Rattle.sop_basic.specs.Cook.{inputs_seen}
use Rattle.sop_basic.proofs.CookLemmas.{gives_input}
use Rattle.sop_combine.specs.Blast.{blast_geo}
use Rattle.sop_combine.specs.GroupCreate.{groupcreate_geo}
use Rattle.sop_combine.specs.Combine.{combine_geo}
use Rattle.sop_combine.specs.Cook.{needs_input}
use Rattle.sop_combine.proofs.cook.cook_now.Goals as goal

pub returns-in-Merge : goal.returns-in-Merge
returns-in-Merge c =
    subst (λ t. Gives c.args.vault.now c.cook_merge.new.vault (combine_geo t c.args.parms.now (inputs_seen c.args.vault.now c.args.inputs.now)) c.cook_merge.result) (sym c.in-Merge.is) c.cook_merge.ensures

pub given-requires : goal.given-requires
given-requires c = c.requires.needed (ap needs_input c.in-Blast.is)

pub given-requires-in-GroupCreate : goal.given-requires-in-GroupCreate
given-requires-in-GroupCreate c = c.requires.needed (ap needs_input c.in-GroupCreate.is)

pub returns-in-Blast : goal.returns-in-Blast
returns-in-Blast c =
    subst (λ t. Gives c.args.vault.now c.cook_blast.new.vault (combine_geo t c.args.parms.now (inputs_seen c.args.vault.now c.args.inputs.now)) c.cook_blast.result) (sym c.in-Blast.is)
    (gives_input c.args.vault.now c.cook_blast.new.vault c.args.inputs.now 0 c.given.result (blast_geo c.args.parms.now) c.cook_blast.result c.requires.live c.given.ensures c.cook_blast.ensures)

pub returns-in-GroupCreate : goal.returns-in-GroupCreate
returns-in-GroupCreate c =
    subst (λ t. Gives c.args.vault.now c.cook_group_create.new.vault (combine_geo t c.args.parms.now (inputs_seen c.args.vault.now c.args.inputs.now)) c.cook_group_create.result) (sym c.in-GroupCreate.is)
    (gives_input c.args.vault.now c.cook_group_create.new.vault c.args.inputs.now 0 c.given-in-GroupCreate.result (groupcreate_geo c.args.parms.now) c.cook_group_create.result c.requires.live c.given-in-GroupCreate.ensures c.cook_group_create.ensures)
