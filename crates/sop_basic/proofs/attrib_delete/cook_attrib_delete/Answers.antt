use Rattle.std.proofs.Common.{ap, sym, ◌∙◌, subst, Ok}
use Rattle.sop_outside.specs.Blanks.{words_of}
use Rattle.sop_net.specs.Network.{parm_at}
use Rattle.sop_vault.specs.Vaults.{Added}
use Rattle.sop_basic.specs.ParmTexts.{class_in}
use Rattle.sop_basic.specs.Making.{Gives}
use Rattle.sop_basic.specs.Outcomes.{limited}
use Rattle.sop_basic.specs.AttribDelete.{staying, attrs_left}
use Rattle.sop_basic.proofs.ParmLemmas.{parm_read}
use Rattle.sop_basic.proofs.MakingLemmas.{prepares_of}
use Rattle.sop_basic.proofs.attrib_delete.cook_attrib_delete.Goals as goal

pub returns : goal.returns
returns c = λ g there.
    let parms = c.args.parms.now in
    let names = c.text-2.result.now in
    let class_is = c.class_in.ensures ∙ ap class_in (sym (parm_read parms 0 c.text.result.now c.text.ensures)) in
    let names_are = sym (parm_read parms 1 names c.text-2.ensures) in
    let add = subst (λ o. Added c.args.vault.now c.share.new.self c.in_ok-key.key o) there c.in_ok-key.ensures.ok in
    let left = attrs_left g c.class_in.result (staying g c.class_in.result (words_of names)) in
    subst (λ o. Gives c.args.vault.now c.finish.new.vault (limited o) c.finish.result)
    (ap (λ k. Ok (attrs_left g k (staying g k (words_of names)))) class_is ∙ ap (λ n. Ok (attrs_left g (class_in (parm_at parms 0)) (staying g (class_in (parm_at parms 0)) (words_of n)))) names_are)
    (c.finish.ensures.gives c.args.vault.now c.share.new.self g (Ok left) add (prepares_of c.share.new.self c.delete_matching-made.new.vault c.in_ok-key.key (Ok left) c.delete_matching-made.result (c.delete_matching-made.ensures g add.geos.here)))
