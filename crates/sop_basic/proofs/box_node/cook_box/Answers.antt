use Rattle.std.proofs.Common.{subst}
use Rattle.sop_model.specs.Geometry.{empty_geo}
use Rattle.sop_basic.specs.Making.{Gives}
use Rattle.sop_basic.specs.Outcomes.{limited}
use Rattle.sop_basic.specs.Rules.{box_made}
use Rattle.sop_basic.proofs.MakingLemmas.{prepares_of}
use Rattle.sop_basic.proofs.box_node.cook_box.Goals as goal

pub returns : goal.returns
returns c =
    subst (λ b. Gives c.args.vault.now c.finish.new.vault (limited (box_made b)) c.finish.result) c.of-shape.ensures
    (c.finish.ensures.gives c.args.vault.now c.empty.new.self empty_geo (box_made c.of-shape.result) c.in_ok-key.ensures.ok (prepares_of c.empty.new.self c.make_box-made.new.vault c.in_ok-key.key (box_made c.of-shape.result) c.make_box-made.result c.make_box-made.ensures))
