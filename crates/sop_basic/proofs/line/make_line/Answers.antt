use Rattle.std.proofs.Common.{Ok}
use Rattle.sop_basic.specs.Line.{line_through}
use Rattle.sop_basic.specs.Rules.{line_rule, line_made}
use Rattle.sop_basic.specs.Making.{Makes}
use Rattle.sop_basic.proofs.MakingLemmas.{ended_as}
use Rattle.sop_basic.proofs.MovementLemmas.{made_points, made_many, made_then, unmade_then}
use Rattle.sop_basic.proofs.line.make_line.Goals as goal

pub returns-in_err-make_points : goal.returns-in_err-make_points
returns-in_err-make_points c =
    ended_as c.from_residual.result c.in_err-make_points.field-0.0 (Makes c.args.vault.now c.make_points.new.vault c.args.key (line_made c.args.line.now)) c.from_residual.ensures.1
    (unmade_then (line_rule c.args.line.now) c.args.line.now.points c.args.vault.now c.make_points.new.vault c.args.key c.in_err-make_points.field-0.0 (λ places. Ok (line_through places)) c.in_err-make_points.ensures)

pub add_through-requires-clause-points : goal.add_through-requires-clause-points
add_through-requires-clause-points c = made_points (line_rule c.args.line.now) c.args.line.now.points c.args.vault.now c.make_points.new.vault c.args.key c.in_ok-make_points.ensures c.requires.few

pub add_through-requires-clause-many : goal.add_through-requires-clause-many
add_through-requires-clause-many c = made_many (line_rule c.args.line.now) c.args.line.now.points c.args.vault.now c.make_points.new.vault c.args.key c.in_ok-make_points.ensures

pub returns : goal.returns
returns c =
    made_then (line_rule c.args.line.now) c.args.line.now.points c.args.vault.now c.make_points.new.vault c.args.key c.in_ok-make_points.ensures c.add_through.new.vault (λ places. Ok (line_through places)) c.add_through.result c.add_through.ensures
