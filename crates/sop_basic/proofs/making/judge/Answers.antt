use Rattle.std.proofs.Common.{◌≡◌}
use Rattle.sop_model.specs.declared.geo.Geo.{Geo}
use Rattle.sop_model.specs.Geometry.{geo_weight}
use Rattle.sop_vault.specs.Keyed.{at}
use Rattle.sop_vault.proofs.PassLemmas.{readable_at}
use Rattle.sop_basic.proofs.MakingLemmas.{if_there, judges_by, judges_not}
use Rattle.sop_basic.proofs.making.judge.Goals as goal

pub returns-then-weight-gt-MOST_WEIGHT : goal.returns-then-weight-gt-MOST_WEIGHT
returns-then-weight-gt-MOST_WEIGHT c = λ g there.
    judges_not g c.weight.result (if_there (at c.args.vault.now.geos c.args.key) (λ (h : Geo). c.weight.result ≡ geo_weight h) g there c.weight.ensures) c.if-weight-gt-MOST_WEIGHT.true

pub returns : goal.returns
returns c = λ g there.
    judges_by g c.weight.result (readable_at c.args.vault.now c.is_vault.ensures c.args.key g there).0.within (if_there (at c.args.vault.now.geos c.args.key) (λ (h : Geo). c.weight.result ≡ geo_weight h) g there c.weight.ensures) c.if-weight-gt-MOST_WEIGHT.false
