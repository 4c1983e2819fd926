use Rattle.std.proofs.Common.{subst}
use Rattle.sop_model.specs.Geometry.{empty_geo}
use Rattle.sop_basic.specs.Making.{Gives}
use Rattle.sop_basic.specs.Outcomes.{limited}
use Rattle.sop_basic.specs.Rules.{line_made}
use Rattle.sop_basic.proofs.MakingLemmas.{prepares_of}
use Rattle.sop_basic.proofs.line.cook_line.Goals as goal

pub returns : goal.returns
returns c =
    subst (λ l. Gives c.args.vault.now c.finish.new.vault (limited (line_made l)) c.finish.result) c.of-line.ensures.value
    (c.finish.ensures.gives c.args.vault.now c.empty.new.self empty_geo (line_made c.of-line.result) c.in_ok-key.ensures.ok (prepares_of c.empty.new.self c.make_line-made.new.vault c.in_ok-key.key (line_made c.of-line.result) c.make_line-made.result c.make_line-made.ensures))
