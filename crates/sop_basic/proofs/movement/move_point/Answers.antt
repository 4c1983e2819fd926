use Rattle.std.proofs.Common.{◌≡◌, sym, ◌∙◌, subst, Some}
use Rattle.std.specs.Prelude.{slice_get}
use Rattle.sop_model.specs.declared.geo.Geo.{Geo}
use Rattle.sop_model.specs.Places.{places_of}
use Rattle.sop_vault.specs.Keyed.{at}
use Rattle.sop_basic.proofs.MakingLemmas.{same_there}
use Rattle.sop_basic.proofs.MovementLemmas.{point_fails, point_put}
use Rattle.sop_basic.proofs.movement.move_point.Goals as goal

pub put_point-requires-clause-from : goal.put_point-requires-clause-from
put_point-requires-clause-from g c = λ geo there.
    subst (λ (x : Geo). slice_get (places_of x) c.args.point ≡ Some c.place_of-place.result) (same_there (at c.args.vault.now.geos c.args.key) c.view.result geo c.view.ensures.geo there) c.place_of-place.ensures

pub returns-in-Ok : goal.returns-in-Ok
returns-in-Ok g c = λ geo there.
    point_put (g.M.Movement.rule c.args.movement.now) c.args.vault.now c.args.key c.view.result c.args.point c.place_of-place.result c.view.ensures.geo c.place_of-place.ensures
    c.put_point.new.vault c.in-Ok.target (sym c.target.ensures ∙ c.in-Ok.is) c.put_point.result geo there (c.put_point.ensures geo there)

pub returns-in-Err : goal.returns-in-Err
returns-in-Err g c =
    point_fails (g.M.Movement.rule c.args.movement.now) c.args.vault.now c.args.key c.view.result c.args.point c.place_of-place.result c.view.ensures.geo c.place_of-place.ensures
    c.in-Err._fault (sym c.target.ensures ∙ c.in-Err.is)
