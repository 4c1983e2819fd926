use Rattle.std.proofs.Common.{ap, sym, ◌∙◌, subst, Ok}
use Rattle.std.specs.Prelude.{unwrap_or}
use Rattle.std.specs.Option.{option_and_then}
use Rattle.sop_model.specs.Geometry.{empty_geo}
use Rattle.sop_net.specs.Network.{parm_at}
use Rattle.sop_vault.specs.Keyed.{at}
use Rattle.sop_basic.specs.ParmTexts.{vectors_in}
use Rattle.sop_basic.specs.Making.{Gives}
use Rattle.sop_basic.specs.Outcomes.{limited}
use Rattle.sop_basic.specs.Add.{added}
use Rattle.sop_basic.proofs.ParmLemmas.{parm_read}
use Rattle.sop_basic.proofs.AddLemmas.{extends_live, extends_prepares}
use Rattle.sop_basic.proofs.add.cook_add.Goals as goal

pub finish-requires : goal.finish-requires
finish-requires c =
    let g = unwrap_or (option_and_then (at c.args.vault.now.geos) c.args.input) empty_geo in
    extends_live c.begin.new.vault c.add_all-made.new.vault c.in_ok-key.key (added g (vectors_in c.text.result.now) c.text-2.result.now) c.add_all-made.result (c.add_all-made.ensures g c.in_ok-key.ensures.ok.geos.here)

pub returns : goal.returns
returns c =
    let old = c.args.vault.now in
    let g = unwrap_or (option_and_then (at old.geos) c.args.input) empty_geo in
    let parms = c.args.parms.now in
    let points = sym (parm_read parms 0 c.text.result.now c.text.ensures) in
    let poly = sym (parm_read parms 1 c.text-2.result.now c.text-2.ensures) in
    let made = added g (vectors_in c.text.result.now) c.text-2.result.now in
    subst (λ o. Gives old c.finish.new.vault (limited o) c.finish.result)
    (ap (λ text. Ok (added g (vectors_in text) c.text-2.result.now)) points ∙ ap (λ text. Ok (added g (vectors_in (parm_at parms 0)) text)) poly)
    (c.finish.ensures.gives old c.begin.new.vault g (Ok made) c.in_ok-key.ensures.ok (extends_prepares c.begin.new.vault c.add_all-made.new.vault c.in_ok-key.key made c.add_all-made.result (c.add_all-made.ensures g c.in_ok-key.ensures.ok.geos.here)))
