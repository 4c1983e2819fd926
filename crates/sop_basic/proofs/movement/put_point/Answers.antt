use Rattle.sop_vault.proofs.PassLemmas.{readable_at}
use Rattle.sop_basic.proofs.MovementLemmas.{position_first, point_stays}
use Rattle.sop_basic.proofs.movement.put_point.Goals as goal

pub returns-then-is_one : goal.returns-then-is_one
returns-then-is_one c = λ geo there.
    point_stays c.args.vault.now c.args.key geo c.args.point c.args.from.now c.args.to.now (c.is_one.ensures c.if-is_one.true) (readable_at c.args.vault.now c.is_vault.ensures c.args.key geo there).0 (c.requires.from geo there) there

pub set_value-requires-clause-kind : goal.set_value-requires-clause-kind
set_value-requires-clause-kind c = λ geo there. (position_first geo.point.heads (readable_at c.args.vault.now c.is_vault.ensures c.args.key geo there).0.sound.position).1
