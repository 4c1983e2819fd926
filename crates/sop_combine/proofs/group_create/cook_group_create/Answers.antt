use Rattle.std.proofs.Common.{ap, sym, ◌∙◌, subst, refl, Ok, Bool, List, length}
use Rattle.sop_model.specs.Names.{is_name}
use Rattle.sop_model.specs.declared.geo.Geo.{Geo}
use Rattle.sop_model.specs.Geometry.{count_of}
use Rattle.sop_vault.specs.Keyed.{at}
use Rattle.sop_vault.specs.Vaults.{Added}
use Rattle.sop_basic.specs.ParmTexts.{class_in}
use Rattle.sop_basic.specs.Making.{Gives}
use Rattle.sop_basic.specs.Outcomes.{limited}
use Rattle.sop_basic.proofs.ParmLemmas.{parm_read}
use Rattle.sop_basic.proofs.MakingLemmas.{there_is, same_there, kept_same, prepares_live}
use Rattle.sop_combine.specs.GroupCreate.{combination_in, with_group, members_combined}
use Rattle.sop_basic.proofs.SelectLemmas.{selected_long}
use Rattle.sop_combine.proofs.CreateLemmas.{name_refused, create_is, create_stops}
use Rattle.sop_combine.proofs.group_create.cook_group_create.Goals as goal

pub returns-then-not-is_name : goal.returns-then-not-is_name
returns-then-not-is_name c = λ g there.
    let parms = c.args.parms.now in
    let class = c.class_in-class.ensures ∙ ap class_in (sym (parm_read parms 0 c.text.result.now c.text.ensures)) in
    let name = sym (parm_read parms 1 c.text-name.result.now c.text-name.ensures) in
    (name_refused parms c.class_in-class.result c.text-name.result.now class name g (sym (ap is_name c.as_bytes.ensures.value) ∙ sym c.is_name.ensures ∙ c.if-not-is_name.true), kept_same c.args.vault.now)

pub returns-in-Err : goal.returns-in-Err
returns-in-Err c = λ g there.
    let parms = c.args.parms.now in
    let class = c.class_in-class.ensures ∙ ap class_in (sym (parm_read parms 0 c.text.result.now c.text.ensures)) in
    let name = sym (parm_read parms 1 c.text-name.result.now c.text-name.ensures) in
    let text = sym (parm_read parms 2 c.text-2.result.now c.text-2.ensures) in
    create_stops parms c.class_in-class.result c.text-name.result.now class name c.text-2.result.now text _ refl (sym (ap is_name c.as_bytes.ensures.value) ∙ sym c.is_name.ensures ∙ c.if-not-is_name.false) c.args.vault.now g c.in-Err.stop (c.in-Err.ensures.err g there)

pub combine_members-made-requires-clause-each : goal.combine_members-made-requires-clause-each
combine_members-made-requires-clause-each c = λ h there.
    let v = c.args.vault.now in
    let (g, opens) = there_is (at v.geos c.args.input) c.requires.live in
    let add = subst (λ o. Added v c.share.new.self c.in_ok-key.key o) opens c.in_ok-key.ensures.ok in
    let each = selected_long g c.class_in-class.result c.text-2.result.now c.in-Ok.flags.items (c.in-Ok.ensures.ok g opens) in
    ap (λ (xs : List Bool). length xs) c.deref.ensures.value ∙ each ∙ ap (λ (x : Geo). count_of x c.class_in-class.result) (same_there (at c.share.new.self.geos c.in_ok-key.key) g h add.geos.here there)

pub finish-requires : goal.finish-requires
finish-requires c =
    let (g, there) = there_is (at c.args.vault.now.geos c.args.input) c.requires.live in
    let add = subst (λ o. Added c.args.vault.now c.share.new.self c.in_ok-key.key o) there c.in_ok-key.ensures.ok in
    let class = c.class_in-class.result in
    let name = c.text-name.result.now in
    prepares_live c.share.new.self c.combine_members-made.new.vault c.in_ok-key.key (Ok (members_combined c.of-combination.result (with_group g class name) class name c.deref.result.now)) c.combine_members-made.result (c.combine_members-made.ensures g add.geos.here)

pub returns : goal.returns
returns c = λ g there.
    let v = c.args.vault.now in
    let parms = c.args.parms.now in
    let class = c.class_in-class.ensures ∙ ap class_in (sym (parm_read parms 0 c.text.result.now c.text.ensures)) in
    let name = sym (parm_read parms 1 c.text-name.result.now c.text-name.ensures) in
    let text = sym (parm_read parms 2 c.text-2.result.now c.text-2.ensures) in
    let combination = c.of-combination.ensures ∙ ap combination_in (sym (parm_read parms 3 c.text-3.result.now c.text-3.ensures)) in
    let flags = c.deref.result.now in
    let add = subst (λ o. Added v c.share.new.self c.in_ok-key.key o) there c.in_ok-key.ensures.ok in
    let outcome = Ok (members_combined c.of-combination.result (with_group g c.class_in-class.result c.text-name.result.now) c.class_in-class.result c.text-name.result.now flags) in
    subst (λ o. Gives v c.finish.new.vault (limited o) c.finish.result)
    (create_is parms c.class_in-class.result c.text-name.result.now class name c.text-2.result.now text c.of-combination.result combination (sym (ap is_name c.as_bytes.ensures.value) ∙ sym c.is_name.ensures ∙ c.if-not-is_name.false) g flags (c.in-Ok.ensures.ok g there ∙ ap Ok (sym c.deref.ensures.value)))
    (c.finish.ensures.gives v c.share.new.self g outcome add (c.combine_members-made.ensures g add.geos.here))
