use Rattle.std.proofs.Common.{ap, sym, subst, refl, Ok}
use Rattle.sop_net.specs.declared.node_type.NodeType.TheVariants as type
use Rattle.sop_net.specs.Network.{parm_at}
use Rattle.sop_basic.specs.Loads.{file_in}
use Rattle.sop_basic.specs.ParmTexts.{count_in}
use Rattle.sop_basic.specs.Making.{Gives}
use Rattle.sop_basic.specs.Xform.{xform_geo}
use Rattle.sop_basic.specs.Add.{add_geo}
use Rattle.sop_basic.specs.AttribCreate.{attrib_create_geo}
use Rattle.sop_basic.specs.AttribDelete.{attrib_delete_geo}
use Rattle.sop_basic.specs.Enumerate.{enumerate_geo}
use Rattle.sop_basic.specs.Basic.{basic_geo}
use Rattle.sop_basic.specs.Outcomes.{limited}
use Rattle.sop_basic.specs.Cook.{inputs_seen, needs_input}
use Rattle.sop_basic.proofs.CookLemmas.{first_live, seen_first, given_live, gives_input, not_handed}
use Rattle.sop_basic.proofs.cook.cook_by_type.Goals as goal

pub given-requires : goal.given-requires
given-requires c = c.requires.needed (ap needs_input c.in-Null.is)

pub hand_on-requires : goal.hand_on-requires
hand_on-requires c = given_live c.args.vault.now c.args.inputs.now c.given.result c.requires.live c.given.ensures

pub returns-in-Null-clause-gives : goal.returns-in-Null-clause-gives
returns-in-Null-clause-gives c =
    subst (λ t. Gives c.args.vault.now c.hand_on.new.vault (basic_geo (file_in c.args.loaded.now) t c.args.parms.now (inputs_seen c.args.vault.now c.args.inputs.now)) c.hand_on.result) (sym c.in-Null.is)
    (gives_input c.args.vault.now c.hand_on.new.vault c.args.inputs.now 0 c.given.result Ok c.hand_on.result c.requires.live c.given.ensures c.hand_on.ensures.gives)

pub given-requires-in-Switch : goal.given-requires-in-Switch
given-requires-in-Switch c = c.requires.needed (ap needs_input c.in-Switch.is)

pub hand_on-requires-in-Switch : goal.hand_on-requires-in-Switch
hand_on-requires-in-Switch c = given_live c.args.vault.now c.args.inputs.now c.given-in-Switch.result c.requires.live c.given-in-Switch.ensures

pub returns-in-Switch-clause-gives : goal.returns-in-Switch-clause-gives
returns-in-Switch-clause-gives c =
    subst (λ t. Gives c.args.vault.now c.hand_on-in-Switch.new.vault (basic_geo (file_in c.args.loaded.now) t c.args.parms.now (inputs_seen c.args.vault.now c.args.inputs.now)) c.hand_on-in-Switch.result) (sym c.in-Switch.is)
    (gives_input c.args.vault.now c.hand_on-in-Switch.new.vault c.args.inputs.now (count_in (parm_at c.args.parms.now 0)) c.given-in-Switch.result Ok c.hand_on-in-Switch.result c.requires.live c.given-in-Switch.ensures c.hand_on-in-Switch.ensures.gives)

pub given-requires-in-Xform : goal.given-requires-in-Xform
given-requires-in-Xform c = c.requires.needed (ap needs_input c.in-Xform.is)

pub cook_xform-requires-clause-live : goal.cook_xform-requires-clause-live
cook_xform-requires-clause-live c = given_live c.args.vault.now c.args.inputs.now c.given-in-Xform.result c.requires.live c.given-in-Xform.ensures

pub returns-in-Xform-clause-gives : goal.returns-in-Xform-clause-gives
returns-in-Xform-clause-gives c =
    subst (λ t. Gives c.args.vault.now c.cook_xform.new.vault (basic_geo (file_in c.args.loaded.now) t c.args.parms.now (inputs_seen c.args.vault.now c.args.inputs.now)) c.cook_xform.result) (sym c.in-Xform.is)
    (gives_input c.args.vault.now c.cook_xform.new.vault c.args.inputs.now 0 c.given-in-Xform.result (xform_geo c.args.parms.now) c.cook_xform.result c.requires.live c.given-in-Xform.ensures c.cook_xform.ensures)

pub given-requires-in-AttribCreate : goal.given-requires-in-AttribCreate
given-requires-in-AttribCreate c = c.requires.needed (ap needs_input c.in-AttribCreate.is)

pub cook_attrib_create-requires-clause-live : goal.cook_attrib_create-requires-clause-live
cook_attrib_create-requires-clause-live c = given_live c.args.vault.now c.args.inputs.now c.given-in-AttribCreate.result c.requires.live c.given-in-AttribCreate.ensures

pub returns-in-AttribCreate-clause-gives : goal.returns-in-AttribCreate-clause-gives
returns-in-AttribCreate-clause-gives c =
    subst (λ t. Gives c.args.vault.now c.cook_attrib_create.new.vault (basic_geo (file_in c.args.loaded.now) t c.args.parms.now (inputs_seen c.args.vault.now c.args.inputs.now)) c.cook_attrib_create.result) (sym c.in-AttribCreate.is)
    (gives_input c.args.vault.now c.cook_attrib_create.new.vault c.args.inputs.now 0 c.given-in-AttribCreate.result (attrib_create_geo c.args.parms.now) c.cook_attrib_create.result c.requires.live c.given-in-AttribCreate.ensures c.cook_attrib_create.ensures)

pub given-requires-in-Enumerate : goal.given-requires-in-Enumerate
given-requires-in-Enumerate c = c.requires.needed (ap needs_input c.in-Enumerate.is)

pub cook_enumerate-requires-clause-live : goal.cook_enumerate-requires-clause-live
cook_enumerate-requires-clause-live c = given_live c.args.vault.now c.args.inputs.now c.given-in-Enumerate.result c.requires.live c.given-in-Enumerate.ensures

pub returns-in-Enumerate-clause-gives : goal.returns-in-Enumerate-clause-gives
returns-in-Enumerate-clause-gives c =
    subst (λ t. Gives c.args.vault.now c.cook_enumerate.new.vault (basic_geo (file_in c.args.loaded.now) t c.args.parms.now (inputs_seen c.args.vault.now c.args.inputs.now)) c.cook_enumerate.result) (sym c.in-Enumerate.is)
    (gives_input c.args.vault.now c.cook_enumerate.new.vault c.args.inputs.now 0 c.given-in-Enumerate.result (enumerate_geo c.args.parms.now) c.cook_enumerate.result c.requires.live c.given-in-Enumerate.ensures c.cook_enumerate.ensures)

pub cook_add-requires-clause-live : goal.cook_add-requires-clause-live
cook_add-requires-clause-live c = first_live c.args.vault.now c.args.inputs.now c.first.result c.requires.live c.first.ensures

pub returns-in-Add-clause-gives : goal.returns-in-Add-clause-gives
returns-in-Add-clause-gives c =
    subst (λ t. Gives c.args.vault.now c.cook_add.new.vault (basic_geo (file_in c.args.loaded.now) t c.args.parms.now (inputs_seen c.args.vault.now c.args.inputs.now)) c.cook_add.result) (sym c.in-Add.is)
    (subst (λ o. Gives c.args.vault.now c.cook_add.new.vault (limited (add_geo c.args.parms.now o)) c.cook_add.result) (sym (seen_first c.args.vault.now c.args.inputs.now c.first.result c.first.ensures)) c.cook_add.ensures)

pub given-requires-in-AttribDelete : goal.given-requires-in-AttribDelete
given-requires-in-AttribDelete c = c.requires.needed (ap needs_input c.in-AttribDelete.is)

pub cook_attrib_delete-requires-clause-live : goal.cook_attrib_delete-requires-clause-live
cook_attrib_delete-requires-clause-live c = given_live c.args.vault.now c.args.inputs.now c.given-in-AttribDelete.result c.requires.live c.given-in-AttribDelete.ensures

pub returns-in-AttribDelete-clause-gives : goal.returns-in-AttribDelete-clause-gives
returns-in-AttribDelete-clause-gives c =
    subst (λ t. Gives c.args.vault.now c.cook_attrib_delete.new.vault (basic_geo (file_in c.args.loaded.now) t c.args.parms.now (inputs_seen c.args.vault.now c.args.inputs.now)) c.cook_attrib_delete.result) (sym c.in-AttribDelete.is)
    (gives_input c.args.vault.now c.cook_attrib_delete.new.vault c.args.inputs.now 0 c.given-in-AttribDelete.result (attrib_delete_geo c.args.parms.now) c.cook_attrib_delete.result c.requires.live c.given-in-AttribDelete.ensures c.cook_attrib_delete.ensures)

pub returns-in-File-clause-pages : goal.returns-in-File-clause-pages
returns-in-File-clause-pages c = not_handed c.args.node_type type.File c.in-File.is refl

pub returns-in-Add-clause-pages : goal.returns-in-Add-clause-pages
returns-in-Add-clause-pages c = not_handed c.args.node_type type.Add c.in-Add.is refl

pub returns-in-Line-clause-pages : goal.returns-in-Line-clause-pages
returns-in-Line-clause-pages c = not_handed c.args.node_type type.Line c.in-Line.is refl

pub returns-in-Grid-clause-pages : goal.returns-in-Grid-clause-pages
returns-in-Grid-clause-pages c = not_handed c.args.node_type type.Grid c.in-Grid.is refl

pub returns-in-Box-clause-pages : goal.returns-in-Box-clause-pages
returns-in-Box-clause-pages c = not_handed c.args.node_type type.Box c.in-Box.is refl

pub returns-in-Xform-clause-pages : goal.returns-in-Xform-clause-pages
returns-in-Xform-clause-pages c = not_handed c.args.node_type type.Xform c.in-Xform.is refl

pub returns-in-AttribCreate-clause-pages : goal.returns-in-AttribCreate-clause-pages
returns-in-AttribCreate-clause-pages c = not_handed c.args.node_type type.AttribCreate c.in-AttribCreate.is refl

pub returns-in-AttribDelete-clause-pages : goal.returns-in-AttribDelete-clause-pages
returns-in-AttribDelete-clause-pages c = not_handed c.args.node_type type.AttribDelete c.in-AttribDelete.is refl

pub returns-in-Enumerate-clause-pages : goal.returns-in-Enumerate-clause-pages
returns-in-Enumerate-clause-pages c = not_handed c.args.node_type type.Enumerate c.in-Enumerate.is refl

pub returns-in-Null-clause-pages : goal.returns-in-Null-clause-pages
returns-in-Null-clause-pages c handed = c.hand_on.ensures.pages

pub returns-in-Switch-clause-pages : goal.returns-in-Switch-clause-pages
returns-in-Switch-clause-pages c handed = c.hand_on-in-Switch.ensures.pages
