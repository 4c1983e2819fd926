use Rattle.sop_basic.proofs.AddLemmas.{point_set}
use Rattle.sop_basic.proofs.add.add_point.Goals as goal

pub returns : goal.returns
returns c =
    point_set c.args.vault.now c.add_points.new.self c.args.key c.in_default.ensures.ok c.set_value.new.vault c.args.place c.count-number.result c.set_value.result c.view.result c.view.ensures.geo c.count-number.ensures c.set_value.ensures
