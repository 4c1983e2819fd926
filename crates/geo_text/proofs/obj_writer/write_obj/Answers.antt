use Rattle.std.proofs.Common.{◌≡◌, Ok, sym, subst}
use Rattle.geo_text.specs.ObjMeaning.{meaning}
use Rattle.geo_text.specs.Carried.{carried}
use Rattle.geo_text.proofs.ObjPrimsBack.{round_trip}
use Rattle.geo_text.proofs.obj_writer.write_obj.Goals as goal

pub returns-clause-back : goal.returns-clause-back
returns-clause-back g c =
    λ good fits. subst (λ t. meaning t ≡ Ok (carried (g.V.GeoView.geo c.args.view.now))) (sym c.in_ok-text.ensures.written) (round_trip (g.V.GeoView.geo c.args.view.now) good fits c.in_ok-text.ensures.real)
