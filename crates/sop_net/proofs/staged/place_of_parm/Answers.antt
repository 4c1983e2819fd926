use Rattle.std.proofs.Common.{◌∙◌, rules, tests}
use Rattle.std.specs.Prelude.{bytes_eq}
use Rattle.std.proofs.lemmas.Iterator.{YieldsList-from_slice}
use Rattle.std.proofs.lemmas.Iterator.Search.{position_from_yields_List}
use Rattle.sop_net.specs.Rows.{parm_meant}
use Rattle.sop_net.specs.declared.table.Parm.{Parm}
use Rattle.sop_net.specs.NodeTable as table
use Rattle.sop_net.proofs.Searches.{position-map}
use Rattle.sop_net.proofs.staged.place_of_parm.Goals as goal

pub returns : goal.returns
returns c =
    position_from_yields_List (λ (p : Parm). bytes_eq p.name.now c.args.name.now) _ _ _ c.position.ensures.ran
    (YieldsList-from_slice c.args.parms.now c.iter.ensures.rest) (search (rules, tests))
    ∙ position-map parm_meant (λ (p : table.Parm). bytes_eq p.name c.args.name.now) c.args.parms.now
