use Rattle.std.proofs.Common.{drop, ◌+◌, sym, subst}
use Rattle.sop_vault.specs.Vaults.{VaultMap}
use Rattle.sop_cook.proofs.KeptLemmas.{Left, left_all, left_next, left_over, left_live, left_none}
use Rattle.sop_cook.proofs.kept.drop_all.Goals as goal
use Rattle.sop_cook.proofs.kept.drop_all.Goals.{in-Some, in_default}

pub loop-key-init : goal.loop-key-init
loop-key-init c = left_all c.args.vault.now c.args.keys.now c.requires

pub drop_geo-requires : goal.drop_geo-requires
drop_geo-requires c = left_live c.args.vault.now c.loop-key.vault c.args.keys.now c.loop-key.key-index c.in-Some.key c.key-item.result c.key-item.result c.loop-key-test.true (sym c.key-item.is) c.in-Some.is c.loop-key.invariant

pub loop-key-preserved : goal.loop-key-preserved
loop-key-preserved c =
    let all = c.args.keys.now in
    let i = c.loop-key.key-index in
    let item = c.key-item.result in
    elim c.match-key.branch [
      | in-Some w ↦ subst (λ (v : VaultMap). Left c.args.vault.now v all (drop (i + 1) all)) (sym w.vault-is) (left_next c.args.vault.now c.loop-key.vault w.drop_geo.new.self all i w.in-Some.key item item c.loop-key-test.true (sym c.key-item.is) w.in-Some.is w.drop_geo.ensures.gone c.loop-key.invariant)
      | in_default w ↦ subst (λ (v : VaultMap). Left c.args.vault.now v all (drop (i + 1) all)) (sym w.vault-is) (left_over c.args.vault.now c.loop-key.vault all i item item c.loop-key-test.true (sym c.key-item.is) w.in_default.is c.loop-key.invariant)
    ]

pub returns : goal.returns
returns c = left_none c.args.vault.now c.loop-key.vault c.args.keys.now c.loop-key.key-index c.loop-key-test.false c.loop-key.invariant
