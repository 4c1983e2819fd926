use Rattle.sop_bench.proofs.GridLemmas.{point_placed}
use Rattle.sop_bench.proofs.grids.place_point.Goals as goal

pub returns : goal.returns
returns c = point_placed _ _ c.args.key c.args.points c.args.point _ c.set.result c.ok.result c.ok.ensures.value c.requires.there c.set.ensures.ok
