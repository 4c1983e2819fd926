use Rattle.std.proofs.Common.{◌≤◌, Bool, List, length, ap, sym, ◌∙◌, subst, Ok, refl, leb-true}
use Rattle.sop_model.specs.declared.geo.Geo.{Geo}
use Rattle.sop_model.specs.Geometry.{count_of}
use Rattle.sop_model.specs.Values.{kind_of}
use Rattle.sop_net.specs.declared.node_type.NodeType.TheVariants as type
use Rattle.sop_net.specs.NodeTable.{parms_of}
use Rattle.sop_net.specs.Network.{parm_at}
use Rattle.sop_vault.specs.Keyed.{at}
use Rattle.sop_vault.specs.Vaults.{Added}
use Rattle.sop_basic.specs.ParmTexts.{class_in}
use Rattle.sop_basic.specs.Making.{Gives}
use Rattle.sop_basic.specs.Outcomes.{limited}
use Rattle.sop_basic.specs.AttribCreate.{may_have, set_under}
use Rattle.sop_basic.proofs.ParmLemmas.{parm_read, value_at}
use Rattle.sop_basic.proofs.MakingLemmas.{there_is, same_there, prepares_live}
use Rattle.sop_basic.proofs.SelectLemmas.{selected_long}
use Rattle.sop_basic.proofs.CreateLemmas.{create_refused, create_is, create_stops, told_fits, told_within}
use Rattle.sop_basic.proofs.attrib_create.cook_attrib_create.Goals as goal

pub returns-in-Err : goal.returns-in-Err
returns-in-Err c = λ g there. create_refused c.args.parms.now c.args.vault.now c.in-Err.stop c.in-Err.ensures g

pub returns-in-Err-selected : goal.returns-in-Err-selected
returns-in-Err-selected c = λ g there.
    let parms = c.args.parms.now in
    let class = c.class_in-class.ensures ∙ ap class_in (sym (parm_read parms 0 c.text.result.now c.text.ensures)) in
    let text = sym (parm_read parms 4 c.text-2.result.now c.text-2.ensures) in
    create_stops parms c.class_in-class.result (parm_at parms 1) c.text-2.result.now c.in-Ok.value class refl text c.in-Ok.ensures c.args.vault.now g c.in-Err-selected.stop (c.in-Err-selected.ensures.err g there)

pub set_elements-made-requires-clause-each : goal.set_elements-made-requires-clause-each
set_elements-made-requires-clause-each c = λ h there.
    let v = c.args.vault.now in
    let (g, opens) = there_is (at v.geos c.args.input) c.requires.live in
    let add = subst (λ o. Added v c.share.new.self c.in_ok-key.key o) opens c.in_ok-key.ensures.ok in
    let each = selected_long g c.class_in-class.result c.text-2.result.now c.in-Ok-selected.flags.items (c.in-Ok-selected.ensures.ok g opens) in
    ap (λ (xs : List Bool). length xs) c.deref.ensures.value ∙ each ∙ ap (λ (x : Geo). count_of x c.class_in-class.result) (same_there (at c.share.new.self.geos c.in_ok-key.key) g h add.geos.here there)

pub set_elements-made-requires-clause-fits : goal.set_elements-made-requires-clause-fits
set_elements-made-requires-clause-fits c =
    let parms = c.args.parms.now in
    let class = c.class_in-class.ensures ∙ ap class_in (sym (parm_read parms 0 c.text.result.now c.text.ensures)) in
    let name = sym (parm_read parms 1 c.text-3.result.now c.text-3.ensures) in
    ap (λ x. may_have x c.text-3.result.now (kind_of c.in-Ok.value)) class ∙ ap (λ n. may_have (class_in (parm_at parms 0)) n (kind_of c.in-Ok.value)) name ∙ told_fits parms c.in-Ok.value c.in-Ok.ensures

pub set_elements-made-requires-clause-within : goal.set_elements-made-requires-clause-within
set_elements-made-requires-clause-within c =
    let parms = c.args.parms.now in
    let short : length (parm_at parms 3) ≤ 1024 = leb-true (length (parm_at parms 3)) 1024 (value_at (parms_of type.AttribCreate) parms c.requires.values 3 _ refl) in
    told_within parms c.in-Ok.value short c.in-Ok.ensures

pub finish-requires : goal.finish-requires
finish-requires c =
    let (g, there) = there_is (at c.args.vault.now.geos c.args.input) c.requires.live in
    let add = subst (λ o. Added c.args.vault.now c.share.new.self c.in_ok-key.key o) there c.in_ok-key.ensures.ok in
    prepares_live c.share.new.self c.set_elements-made.new.vault c.in_ok-key.key (Ok (set_under c.class_in-class.result c.text-3.result.now c.in-Ok.value g c.deref.result.now)) c.set_elements-made.result (c.set_elements-made.ensures g add.geos.here)

pub returns : goal.returns
returns c = λ g there.
    let parms = c.args.parms.now in
    let class = c.class_in-class.ensures ∙ ap class_in (sym (parm_read parms 0 c.text.result.now c.text.ensures)) in
    let name = sym (parm_read parms 1 c.text-3.result.now c.text-3.ensures) in
    let text = sym (parm_read parms 4 c.text-2.result.now c.text-2.ensures) in
    let flags = c.deref.result.now in
    let add = subst (λ o. Added c.args.vault.now c.share.new.self c.in_ok-key.key o) there c.in_ok-key.ensures.ok in
    let outcome = Ok (set_under c.class_in-class.result c.text-3.result.now c.in-Ok.value g flags) in
    subst (λ o. Gives c.args.vault.now c.finish.new.vault (limited o) c.finish.result)
    (create_is parms c.class_in-class.result c.text-3.result.now c.text-2.result.now c.in-Ok.value class name text c.in-Ok.ensures g flags (c.in-Ok-selected.ensures.ok g there ∙ ap Ok (sym c.deref.ensures.value)))
    (c.finish.ensures.gives c.args.vault.now c.share.new.self g outcome add (c.set_elements-made.ensures g add.geos.here))
