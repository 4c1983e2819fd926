use Rattle.std.proofs.Common.{arith, ap, length}
use Rattle.sop_model.specs.declared.geo.Geo.{Geo}
use Rattle.sop_basic.proofs.MakingLemmas.{same_there, ended_as}
use Rattle.sop_vault.specs.Keyed.{at}
use Rattle.sop_basic.specs.Making.{Makes}
use Rattle.sop_basic.specs.Movements.{points_moved}
use Rattle.sop_basic.proofs.MovementLemmas.{moving_none, moving_live, moving_there, moving_more, moving_stopped, moving_done}
use Rattle.sop_basic.proofs.movement.move_points.Goals as goal

pub loop-point-init : goal.loop-point-init
loop-point-init g c = λ geo there. moving_none (g.M.Movement.rule c.args.movement.now) geo c.args.vault.now c.args.key there

pub move_point-requires-clause-live : goal.move_point-requires-clause-live
move_point-requires-clause-live g c =
    moving_live (g.M.Movement.rule c.args.movement.now) c.view.result c.args.vault.now c.loop-point.vault c.args.key c.loop-point.point (c.loop-point.invariant c.view.result c.view.ensures.geo)

pub move_point-requires-clause-there : goal.move_point-requires-clause-there
move_point-requires-clause-there g c =
    moving_there (g.M.Movement.rule c.args.movement.now) c.view.result c.args.vault.now c.loop-point.vault c.args.key c.loop-point.point (let lt = c.loop-point-test.true in let n = c.count-points.ensures in omega arith) (c.loop-point.invariant c.view.result c.view.ensures.geo)

pub move_point-requires-clause-told : goal.move_point-requires-clause-told
move_point-requires-clause-told g c = c.requires.told c.view.result c.view.ensures.geo c.loop-point.point (let lt = c.loop-point-test.true in let n = c.count-points.ensures in omega arith)

pub returns-in_err-move_point : goal.returns-in_err-move_point
returns-in_err-move_point g c = λ geo there.
    let points = ap (λ (x : Geo). length x.points) (same_there (at c.args.vault.now.geos c.args.key) c.view.result geo c.view.ensures.geo there) in
    let rule = g.M.Movement.rule c.args.movement.now in
    ended_as c.from_residual.result c.in_err-move_point.field-0.0 (Makes c.args.vault.now c.move_point.new.vault c.args.key (points_moved rule geo)) c.from_residual.ensures.1
    (moving_stopped rule geo c.args.vault.now c.loop-point.vault c.move_point.new.vault c.args.key c.loop-point.point
    (let lt = c.loop-point-test.true in let n = c.count-points.ensures in omega arith) (c.loop-point.invariant geo there) c.in_err-move_point.field-0.0 c.in_err-move_point.ensures)

pub loop-point-preserved : goal.loop-point-preserved
loop-point-preserved g c = λ geo there.
    let points = ap (λ (x : Geo). length x.points) (same_there (at c.args.vault.now.geos c.args.key) c.view.result geo c.view.ensures.geo there) in
    moving_more (g.M.Movement.rule c.args.movement.now) geo c.args.vault.now c.loop-point.vault c.move_point.new.vault c.args.key c.loop-point.point
    (let lt = c.loop-point-test.true in let n = c.count-points.ensures in omega arith) (c.loop-point.invariant geo there) c.in_ok-move_point.ensures

pub returns : goal.returns
returns g c = λ geo there.
    let points = ap (λ (x : Geo). length x.points) (same_there (at c.args.vault.now.geos c.args.key) c.view.result geo c.view.ensures.geo there) in
    moving_done (g.M.Movement.rule c.args.movement.now) geo c.args.vault.now c.loop-point.vault c.args.key c.loop-point.point
    (let no = c.loop-point-test.false in let n = c.count-points.ensures in let k = c.loop-point.auto.point-end in omega arith) (c.loop-point.invariant geo there)
