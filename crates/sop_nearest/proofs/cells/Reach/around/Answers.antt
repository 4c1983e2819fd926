use Rattle.std.proofs.lemmas.Bool.{and_from}
use Rattle.sop_nearest.proofs.Grid.{parts_within}
use Rattle.sop_nearest.proofs.cells.Reach.around.Goals as goal

pub returns : goal.returns
returns c = λ place within.
    let near = parts_within place c.args.ball.now.center c.args.ball.now.radius within in
    and_from _ _ (c.around.ensures place.x near.0) (and_from _ _ (c.around-2.ensures place.y near.1) (c.around-3.ensures place.z near.2))
