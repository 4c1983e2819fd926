use Rattle.std.proofs.Common.{◌≡◌, ◌∙◌, ap, length, arith}
use Rattle.sop_net.specs.NodeTable.{inputs_of}
use Rattle.sop_net.proofs.SwitchLemmas.{one-wire}
use Rattle.sop_net.proofs.node.Node.used_wires.Goals as goal

pub returns-in-Switch : goal.returns-in-Switch
returns-in-Switch c =
    let inputs : length c.args.self.now.wires ≡ 32 = c.requires.inputs ∙ ap inputs_of c.in-Switch.is in
    one-wire c.args.self.now c.as_slice.result.now c.switch_input-input.result c.in-Switch.is c.as_slice.ensures c.switch_input-input.ensures.value (omega arith)
