use Rattle.std.proofs.Common.{Ok}
use Rattle.sop_model.specs.Geometry.{empty_geo}
use Rattle.sop_model.specs.Rows.{points_added}
use Rattle.sop_basic.specs.Movements.{points_moved, points_made}
use Rattle.sop_basic.proofs.MakingLemmas.{makes_then, makes_as}
use Rattle.sop_basic.proofs.MovementLemmas.{made_by_moving}
use Rattle.sop_basic.proofs.movement.make_points.Goals as goal

pub returns : goal.returns
returns g c =
    let rule = g.M.Movement.rule c.args.movement.now in
    let (h, is, ch) = c.in_ok-add_points.ensures empty_geo c.requires.fresh in
    makes_as c.args.vault.now c.move_points.new.vault c.args.key (points_moved rule (points_added empty_geo c.args.count)) (points_made rule c.args.count) c.move_points.result (made_by_moving rule c.args.count)
    (makes_then c.args.vault.now c.add_points.new.vault c.move_points.new.vault c.args.key (Ok (points_added empty_geo c.args.count)) (points_moved rule) h c.move_points.result is ch (c.move_points.ensures h ch.geos.here))
