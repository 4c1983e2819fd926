use Rattle.std.proofs.Common.{ap, sym, ◌∙◌, None, refl}
use Rattle.std.specs.Prelude.{if◌then◌else◌}
use Rattle.sop_net.specs.Network.{parm_at}
use Rattle.sop_basic.specs.ParmTexts.{class_in}
use Rattle.sop_basic.specs.AttribCreate.{kind_in, value_in}
use Rattle.sop_basic.proofs.ParmLemmas.{parm_read}
use Rattle.sop_basic.proofs.CreateLemmas.{told_by}
use Rattle.sop_basic.proofs.attrib_create.read_value.Goals as goal

pub returns-in-Ok-Some : goal.returns-in-Ok-Some
returns-in-Ok-Some c =
    let parms = c.args.parms.now in
    let value = value_in c.kind_in-kind.result c.text-4.result.now in
    sym (told_by parms c.class_in.result c.text-3.result.now c.kind_in-kind.result c.text-4.result.now
    (c.class_in.ensures ∙ ap class_in (sym (parm_read parms 0 c.text-2.result.now c.text-2.ensures))) (sym (parm_read parms 1 c.text-3.result.now c.text-3.ensures))
    (c.kind_in-kind.ensures ∙ ap kind_in (sym (parm_read parms 2 c.text.result.now c.text.ensures))) (sym (parm_read parms 3 c.text-4.result.now c.text-4.ensures)))
    ∙ ap (λ b. if b then value else None) (sym c.may_have.ensures ∙ c.if-not-may_have.false) ∙ sym c.in-Ok-Some.ensures ∙ c.in-Ok-Some.field-0-is

pub returns-in-Ok-None : goal.returns-in-Ok-None
returns-in-Ok-None c =
    let parms = c.args.parms.now in
    let value = value_in c.kind_in-kind.result c.text-4.result.now in (
      sym (told_by parms c.class_in.result c.text-3.result.now c.kind_in-kind.result c.text-4.result.now
          (c.class_in.ensures ∙ ap class_in (sym (parm_read parms 0 c.text-2.result.now c.text-2.ensures))) (sym (parm_read parms 1 c.text-3.result.now c.text-3.ensures))
          (c.kind_in-kind.ensures ∙ ap kind_in (sym (parm_read parms 2 c.text.result.now c.text.ensures))) (sym (parm_read parms 3 c.text-4.result.now c.text-4.ensures)))
          ∙ ap (λ b. if b then value else None) (sym c.may_have.ensures ∙ c.if-not-may_have.false) ∙ sym c.in-Ok-None.ensures ∙ c.in-Ok-None.field-0-is,
      refl,
    )

pub returns-then-not-may_have : goal.returns-then-not-may_have
returns-then-not-may_have c =
    let parms = c.args.parms.now in (
      sym (told_by parms c.class_in.result c.text-3.result.now c.kind_in-kind.result _
          (c.class_in.ensures ∙ ap class_in (sym (parm_read parms 0 c.text-2.result.now c.text-2.ensures))) (sym (parm_read parms 1 c.text-3.result.now c.text-3.ensures))
          (c.kind_in-kind.ensures ∙ ap kind_in (sym (parm_read parms 2 c.text.result.now c.text.ensures))) refl)
          ∙ ap (λ b. if b then value_in c.kind_in-kind.result (parm_at parms 3) else None) (sym c.may_have.ensures ∙ c.if-not-may_have.true),
      refl,
    )
