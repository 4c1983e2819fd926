use Rattle.sop_fixed.proofs.Roots.{root_is}
use Rattle.sop_fixed.proofs.square_root.root.Goals as goal

pub returns-clause-value : goal.returns-clause-value
returns-clause-value c = root_is c.args.n c.root_below.result c.requires c.root_below.ensures
