use Rattle.std.proofs.Common.{ap, sym, ◌∙◌, subst, Ok, Bool, List, length}
use Rattle.sop_model.specs.declared.geo.Geo.{Geo}
use Rattle.sop_model.specs.Geometry.{count_of}
use Rattle.sop_vault.specs.Keyed.{at}
use Rattle.sop_vault.specs.Vaults.{Added}
use Rattle.sop_basic.specs.ParmTexts.{class_in}
use Rattle.sop_basic.specs.Making.{Gives}
use Rattle.sop_basic.specs.Outcomes.{limited}
use Rattle.sop_basic.specs.Enumerate.{counted_under}
use Rattle.sop_basic.proofs.ParmLemmas.{parm_read}
use Rattle.sop_basic.proofs.MakingLemmas.{there_is, same_there, prepares_live, kept_same}
use Rattle.sop_basic.proofs.SelectLemmas.{selected_long}
use Rattle.sop_basic.proofs.EnumerateLemmas.{refused, counts, counts_stop, may_name, may_apart}
use Rattle.sop_basic.proofs.enumerate.cook_enumerate.Goals as goal

pub returns-then-not-may_count : goal.returns-then-not-may_count
returns-then-not-may_count c = λ g there.
    let class = c.class_in-class.ensures ∙ ap class_in (sym (parm_read c.args.parms.now 0 c.text.result.now c.text.ensures)) in
    let name = sym (parm_read c.args.parms.now 1 c.text-name.result.now c.text-name.ensures) in
    (refused c.args.parms.now c.class_in-class.result c.text-name.result.now class name (sym c.may_count.ensures ∙ c.if-not-may_count.true) g, kept_same c.args.vault.now)

pub returns-in-Err : goal.returns-in-Err
returns-in-Err c = λ g there.
    let parms = c.args.parms.now in
    let class = c.class_in-class.ensures ∙ ap class_in (sym (parm_read parms 0 c.text.result.now c.text.ensures)) in
    let name = sym (parm_read parms 1 c.text-name.result.now c.text-name.ensures) in
    let text = sym (parm_read parms 2 c.text-2.result.now c.text-2.ensures) in
    counts_stop parms c.class_in-class.result c.text-name.result.now class name c.text-2.result.now text (sym c.may_count.ensures ∙ c.if-not-may_count.false) c.args.vault.now g c.in-Err.stop (c.in-Err.ensures.err g there)

pub count_elements-made-requires-clause-name : goal.count_elements-made-requires-clause-name
count_elements-made-requires-clause-name c = may_name c.class_in-class.result c.text-name.result.now (sym c.may_count.ensures ∙ c.if-not-may_count.false)

pub count_elements-made-requires-clause-apart : goal.count_elements-made-requires-clause-apart
count_elements-made-requires-clause-apart c = may_apart c.class_in-class.result c.text-name.result.now (sym c.may_count.ensures ∙ c.if-not-may_count.false)

pub count_elements-made-requires-clause-each : goal.count_elements-made-requires-clause-each
count_elements-made-requires-clause-each c = λ h there.
    let v = c.args.vault.now in
    let (g, opens) = there_is (at v.geos c.args.input) c.requires.live in
    let add = subst (λ o. Added v c.share.new.self c.in_ok-key.key o) opens c.in_ok-key.ensures.ok in
    let each = selected_long g c.class_in-class.result c.text-2.result.now c.in-Ok.flags.items (c.in-Ok.ensures.ok g opens) in
    ap (λ (xs : List Bool). length xs) c.deref.ensures.value ∙ each ∙ ap (λ (x : Geo). count_of x c.class_in-class.result) (same_there (at c.share.new.self.geos c.in_ok-key.key) g h add.geos.here there)

pub finish-requires : goal.finish-requires
finish-requires c =
    let (g, there) = there_is (at c.args.vault.now.geos c.args.input) c.requires.live in
    let add = subst (λ o. Added c.args.vault.now c.share.new.self c.in_ok-key.key o) there c.in_ok-key.ensures.ok in
    prepares_live c.share.new.self c.count_elements-made.new.vault c.in_ok-key.key (Ok (counted_under c.class_in-class.result c.text-name.result.now g c.deref.result.now)) c.count_elements-made.result (c.count_elements-made.ensures g add.geos.here)

pub returns : goal.returns
returns c = λ g there.
    let parms = c.args.parms.now in
    let class = c.class_in-class.ensures ∙ ap class_in (sym (parm_read parms 0 c.text.result.now c.text.ensures)) in
    let name = sym (parm_read parms 1 c.text-name.result.now c.text-name.ensures) in
    let text = sym (parm_read parms 2 c.text-2.result.now c.text-2.ensures) in
    let flags = c.deref.result.now in
    let add = subst (λ o. Added c.args.vault.now c.share.new.self c.in_ok-key.key o) there c.in_ok-key.ensures.ok in
    let outcome = Ok (counted_under c.class_in-class.result c.text-name.result.now g flags) in
    subst (λ o. Gives c.args.vault.now c.finish.new.vault (limited o) c.finish.result)
    (counts parms c.class_in-class.result c.text-name.result.now class name c.text-2.result.now text (sym c.may_count.ensures ∙ c.if-not-may_count.false) g flags (c.in-Ok.ensures.ok g there ∙ ap Ok (sym c.deref.ensures.value)))
    (c.finish.ensures.gives c.args.vault.now c.share.new.self g outcome add (c.count_elements-made.ensures g add.geos.here))
