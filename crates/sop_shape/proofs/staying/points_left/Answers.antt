use Rattle.std.proofs.Common.{◌∙◌, not, ◌&&◌, ◌||◌, ap, length}
use Rattle.sop_model.specs.Sweep.{is_marked}
use Rattle.sop_shape.specs.Tests.{is_touched, point_test}
use Rattle.sop_shape.proofs.StayLemmas.{flags_more, touched_read}
use Rattle.sop_shape.proofs.staying.points_left.Goals as goal

pub loop-point-preserved : goal.loop-point-preserved
loop-point-preserved c =
    let points = c.points-points.result.now in
    let k = c.loop-point.point in
    let refers = c.args.refers.now in
    let given = touched_read c.args.giving_up.now refers (length points) k c.index.result.now c.in_ok-given_up.given_up.items c.in_ok-given_up.ensures c.loop-point-test.true c.index.ensures in
    let used = touched_read c.args.staying.now refers (length points) k c.index-in-loop-point.result.now c.in_ok-used.used.items c.in_ok-used.ensures c.loop-point-test.true c.index-in-loop-point.ensures in
    flags_more (point_test points (is_touched c.args.giving_up.now refers) (is_touched c.args.staying.now refers)) k c.point_stays.result c.loop-point.made.items c.push.new.self.items
    (c.point_stays.ensures ∙ ap (λ b. not (is_marked points k || (b && not c.index-in-loop-point.result.now))) given ∙ ap (λ b. not (is_marked points k || (is_touched c.args.giving_up.now refers k && not b))) used)
    c.loop-point.invariant c.in_ok-push.ensures.items
