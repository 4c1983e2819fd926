use Rattle.std.proofs.Common.{arith, Ok}
use Rattle.sop_basic.specs.Box.{sides}
use Rattle.sop_basic.specs.Shapes.{shape}
use Rattle.sop_basic.specs.Rules.{box_rule}
use Rattle.sop_basic.proofs.BoxLemmas.{four_corners, side_within}
use Rattle.sop_basic.proofs.MovementLemmas.{made_points, made_many, made_then}
use Rattle.sop_basic.proofs.box_node.make_box.Goals as goal

pub add_quads-requires-clause-points : goal.add_quads-requires-clause-points
add_quads-requires-clause-points c = made_points (box_rule c.args.shape.now) 8 c.args.vault.now c.make_points.new.vault c.args.key c.in_ok-make_points.ensures (omega arith)

pub add_quads-requires-clause-four : goal.add_quads-requires-clause-four
add_quads-requires-clause-four c = four_corners

pub add_quads-requires-clause-within : goal.add_quads-requires-clause-within
add_quads-requires-clause-within c = λ places there i lt. side_within _ (made_many (box_rule c.args.shape.now) 8 c.args.vault.now c.make_points.new.vault c.args.key c.in_ok-make_points.ensures places there) i

pub returns : goal.returns
returns c =
    made_then (box_rule c.args.shape.now) 8 c.args.vault.now c.make_points.new.vault c.args.key c.in_ok-make_points.ensures c.add_quads.new.vault (λ places. Ok (shape places sides)) c.add_quads.result c.add_quads.ensures
