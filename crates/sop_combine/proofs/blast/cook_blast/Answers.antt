use Rattle.std.proofs.Common.{◌≡◌, ap, sym, ◌∙◌, subst, Ok, Bool, List, length}
use Rattle.sop_model.specs.declared.geo.Geo.{Geo}
use Rattle.sop_model.specs.Sweep.{swept, MarkSet, AreMarksOf}
use Rattle.sop_vault.specs.Keyed.{at}
use Rattle.sop_vault.specs.Vaults.{Added}
use Rattle.sop_basic.specs.ParmTexts.{class_in}
use Rattle.sop_basic.specs.Making.{Gives}
use Rattle.sop_basic.specs.Outcomes.{limited}
use Rattle.sop_basic.proofs.ParmLemmas.{parm_read}
use Rattle.sop_basic.proofs.MakingLemmas.{there_and, same_there, live_of, prepares_of}
use Rattle.sop_combine.specs.Blast.{is_on, chosen, marks_on, blast_geo}
use Rattle.sop_basic.proofs.SelectLemmas.{selected_long, memory_stops}
use Rattle.sop_combine.proofs.MarkLemmas.{chosen_long, are_marks}
use Rattle.sop_combine.proofs.BlastLemmas.{blast_stops, blast_is}
use Rattle.sop_combine.proofs.blast.cook_blast.Goals as goal

pub returns-in-Err : goal.returns-in-Err
returns-in-Err c = λ g there.
    let parms = c.args.parms.now in
    let class = c.class_in-class.ensures ∙ ap class_in (sym (parm_read parms 0 c.text.result.now c.text.ensures)) in
    let text = sym (parm_read parms 1 c.text-2.result.now c.text-2.ensures) in
    blast_stops parms c.class_in-class.result c.text-2.result.now class text c.args.vault.now g c.in-Err.stop (c.in-Err.ensures.err g there)

pub marks_on-requires-clause-each : goal.marks_on-requires-clause-each
marks_on-requires-clause-each c = ap (λ (xs : List Bool). length xs) c.deref.ensures.value ∙ selected_long c.view.result c.class_in-class.result c.text-2.result.now c.in-Ok.flags.items (c.in-Ok.ensures.ok c.view.result c.view.ensures.geo)

pub returns-in_err-marks : goal.returns-in_err-marks
returns-in_err-marks c = λ g there. memory_stops c.args.vault.now (limited (blast_geo c.args.parms.now g)) c.from_residual.result c.from_residual.ensures.1

pub sweep-made-requires : goal.sweep-made-requires
sweep-made-requires c =
    let g = c.view.result in
    let each = selected_long g c.class_in-class.result c.text-2.result.now c.in-Ok.flags.items (c.in-Ok.ensures.ok g c.view.ensures.geo) in
    let add = subst (λ o. Added c.args.vault.now c.share.new.self c.in_ok-key.key o) c.view.ensures.geo c.in_ok-key.ensures.ok in
    let flags = chosen c.is_on-negate.result c.deref.result.now in
    there_and (at c.share.new.self.geos c.in_ok-key.key) (λ (x : Geo). AreMarksOf x c.in_ok-marks.marks) (live_of c.share.new.self c.in_ok-key.key g add.geos.here)
    (λ h is. subst (λ (x : Geo). AreMarksOf x c.in_ok-marks.marks) (same_there (at c.share.new.self.geos c.in_ok-key.key) g h add.geos.here is)
    (subst (λ (m : MarkSet). AreMarksOf g m) (sym c.in_ok-marks.ensures) (are_marks g c.is_on-unused.result flags c.class_in-class.result (chosen_long c.is_on-negate.result c.deref.result.now ∙ ap (λ (xs : List Bool). length xs) c.deref.ensures.value ∙ each))))

pub returns : goal.returns
returns c = λ g there.
    let v = c.args.vault.now in
    let parms = c.args.parms.now in
    let class = c.class_in-class.ensures ∙ ap class_in (sym (parm_read parms 0 c.text.result.now c.text.ensures)) in
    let text = sym (parm_read parms 1 c.text-2.result.now c.text-2.ensures) in
    let negate = c.is_on-negate.ensures ∙ ap is_on (sym (parm_read parms 2 c.text-3.result.now c.text-3.ensures)) in
    let unused = c.is_on-unused.ensures ∙ ap is_on (sym (parm_read parms 3 c.text-4.result.now c.text-4.ensures)) in
    let flags = c.in-Ok.flags.items in
    let add = subst (λ o. Added v c.share.new.self c.in_ok-key.key o) there c.in_ok-key.ensures.ok in
    let same = same_there (at v.geos c.args.input) c.view.result g c.view.ensures.geo there in
    let marks : c.in_ok-marks.marks ≡ marks_on g c.class_in-class.result c.is_on-unused.result (chosen c.is_on-negate.result flags) = c.in_ok-marks.ensures ∙ ap (λ (x : Geo). marks_on x c.class_in-class.result c.is_on-unused.result (chosen c.is_on-negate.result c.deref.result.now)) same ∙ ap (λ (xs : List Bool). marks_on g c.class_in-class.result c.is_on-unused.result (chosen c.is_on-negate.result xs)) c.deref.ensures.value in
    subst (λ o. Gives v c.finish.new.vault (limited o) c.finish.result)
    (ap (λ (m : MarkSet). Ok (swept g m)) marks ∙ blast_is parms c.class_in-class.result c.text-2.result.now class text c.is_on-negate.result c.is_on-unused.result negate unused g flags (c.in-Ok.ensures.ok g there))
    (c.finish.ensures.gives v c.share.new.self g (Ok (swept g c.in_ok-marks.marks)) add (prepares_of c.share.new.self c.sweep-made.new.vault c.in_ok-key.key (Ok (swept g c.in_ok-marks.marks)) c.sweep-made.result (c.sweep-made.ensures g add.geos.here)))
