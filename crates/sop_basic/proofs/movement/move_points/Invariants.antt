use Rattle.std.proofs.Common.{◌≡◌, Some}
use Rattle.sop_model.specs.declared.geo.Geo.{Geo}
use Rattle.sop_vault.specs.Keyed.{at}
use Rattle.sop_basic.proofs.MovementLemmas.{IsMoving}
use Rattle.sop_basic.proofs.movement.move_points.Given as goal

abbrev pub invariant-loop-point : goal.invariant-loop-point
invariant-loop-point g l = (geo : Geo) → at l.initial.vault.geos l.key ≡ Some geo → IsMoving (g.M.Movement.rule l.movement) geo l.initial.vault l.vault l.key l.point
