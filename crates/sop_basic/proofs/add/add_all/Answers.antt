use Rattle.std.proofs.Common.{ap, ◌∙◌, length}
use Rattle.sop_model.specs.declared.geo.Geo.{Geo}
use Rattle.sop_vault.specs.Keyed.{at}
use Rattle.sop_basic.specs.ParmTexts.{vectors_in}
use Rattle.sop_basic.proofs.MakingLemmas.{same_there}
use Rattle.sop_basic.proofs.AddLemmas.{all_then}
use Rattle.sop_basic.proofs.add.add_all.Goals as goal

pub returns : goal.returns
returns c = λ g there.
    all_then c.args.vault.now c.add_places.new.vault c.add_poly.new.vault c.args.key g (vectors_in c.args.points.now) c.args.poly.now c.count-first.result c.add_poly.result
    (c.count-first.ensures ∙ ap (λ (x : Geo). length x.points) (same_there (at c.args.vault.now.geos c.args.key) c.view.result g c.view.ensures.geo there)) (c.in_ok-add_places.ensures g there) c.add_poly.ensures
