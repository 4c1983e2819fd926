use Rattle.std.proofs.Common.{ap, sym, ◌∙◌, subst, arith, Ok, Bool, List, length}
use Rattle.sop_model.specs.declared.class.Class.TheVariants.{Point}
use Rattle.sop_model.specs.declared.geo.Geo.{Geo}
use Rattle.sop_vault.specs.Keyed.{at}
use Rattle.sop_vault.specs.Vaults.{Added}
use Rattle.sop_basic.specs.ParmTexts.{vector_in}
use Rattle.sop_basic.specs.Making.{Gives}
use Rattle.sop_basic.specs.Outcomes.{limited}
use Rattle.sop_basic.specs.Movements.{points_moved}
use Rattle.sop_basic.specs.Rules.{moving}
use Rattle.sop_basic.specs.declared.xform.Move.{Move}
use Rattle.sop_basic.proofs.ParmLemmas.{parm_read}
use Rattle.sop_basic.proofs.MakingLemmas.{there_is, same_there, prepares_of}
use Rattle.sop_basic.proofs.SelectLemmas.{selected_long}
use Rattle.sop_basic.proofs.XformLemmas.{xform_is, xform_stops}
use Rattle.sop_basic.proofs.xform.cook_xform.Goals as goal

pub returns-in-Err : goal.returns-in-Err
returns-in-Err c = λ g there.
    let parms = c.args.parms.now in
    let text = sym (parm_read parms 2 c.text.result.now c.text.ensures) in
    xform_stops parms c.text.result.now text c.args.vault.now g c.in-Err.stop (c.in-Err.ensures.err g there)

pub move_points-made-requires-clause-told : goal.move_points-made-requires-clause-told
move_points-made-requires-clause-told c = λ h there i lt.
    let v = c.args.vault.now in
    let (g, opens) = there_is (at v.geos c.args.input) c.requires.live in
    let add = subst (λ o. Added v c.share.new.self c.in_ok-key.key o) opens c.in_ok-key.ensures.ok in
    let each = selected_long g Point c.text.result.now c.in-Ok.flags.items (c.in-Ok.ensures.ok g opens) in
    let flags = ap (λ (xs : List Bool). length xs) c.deref.ensures.value in
    let points = ap (λ (x : Geo). length x.points) (same_there (at c.share.new.self.geos c.in_ok-key.key) g h add.geos.here there) in
    omega (arith, lt)

pub returns : goal.returns
returns c = λ g there.
    let v = c.args.vault.now in
    let parms = c.args.parms.now in
    let text = sym (parm_read parms 2 c.text.result.now c.text.ensures) in
    let by = c.vector_in.ensures ∙ ap vector_in (sym (parm_read parms 0 c.text-2.result.now c.text-2.ensures)) in
    let scale = c.vector_in-2.ensures ∙ ap vector_in (sym (parm_read parms 1 c.text-3.result.now c.text-3.ensures)) in
    let add = subst (λ o. Added v c.share.new.self c.in_ok-key.key o) there c.in_ok-key.ensures.ok in
    let move : Move = record { by = c.vector_in.result; scale = c.vector_in-2.result; selected = c.deref.result } in
    let outcome = points_moved (moving move) g in
    subst (λ o. Gives v c.finish.new.vault (limited o) c.finish.result)
    (xform_is parms c.text.result.now text move by scale g (c.in-Ok.ensures.ok g there ∙ ap Ok (sym c.deref.ensures.value)))
    (c.finish.ensures.gives v c.share.new.self g outcome add (prepares_of c.share.new.self c.move_points-made.new.vault c.in_ok-key.key outcome c.move_points-made.result (c.move_points-made.ensures g add.geos.here)))
