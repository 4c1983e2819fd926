use Rattle.std.proofs.Common.{◌≡◌, ◌++◌, drop}
use Rattle.std.specs.Prelude.{map}
use Rattle.sop_net.specs.NodeTable.{default_parms}
use Rattle.sop_net.specs.Rows.{parm_meant}
use Rattle.sop_net.proofs.node.Parms.defaults.Given as goal

abbrev pub invariant-loop-parm : goal.invariant-loop-parm
invariant-loop-parm l = l.texts.items ++ map (λ p. p.default) (map parm_meant (drop l.parm-index l.rows)) ≡ default_parms l.fn.node_type
