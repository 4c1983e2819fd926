use Rattle.std.proofs.Common.{◌≡◌, ◌∙◌, ap, sym, subst, refl}
use Rattle.std.specs.Prelude.{Some, None}
use Rattle.sop_model.specs.Geometry.{empty_geo}
use Rattle.sop_vault.specs.Vaults.{VaultMap, vault_of, Counted, Added}
use Rattle.sop_vault.proofs.VaultLemmas.{step_kept, step_added, idle_counted, idle_before, as_before, err_by}
use Rattle.sop_vault.proofs.vault.Vault.empty.Goals as goal
use Rattle.sop_vault.proofs.vault.Vault.empty.Goals.{After-reserve}

slots_same : (c : After-reserve) → c.self.inside.sheets.slots ≡ c.reserve.new.self.slots
slots_same c = ap (λ s. s.slots) (sym c.reserve.ensures.rest_kept)

counted : (c : After-reserve) → Counted c.self.inside.shelf c.self.inside.names c.reserve.new.self.slots
counted c = subst (Counted c.self.inside.shelf c.self.inside.names) (slots_same c) c.self.invariant

seen : (c : After-reserve) → vault_of c.self.inside.shelf c.self.inside.names c.reserve.new.self.slots ≡ c.args.self.now
seen c = ap (vault_of c.self.inside.shelf c.self.inside.names) (sym (slots_same c)) ∙ c.self.view_is

pub returns-in_err-reserve-clause-err : goal.returns-in_err-reserve-clause-err
returns-in_err-reserve-clause-err c =
    let d = (goal.at.returns-in_err-reserve-clause-err c).After-reserve in
    err_by c.from_residual.result (as_before c.self.inside.shelf c.self.inside.names c.self.inside.sheets.slots c.reserve.new.self.slots c.args.self.now c.self.view_is (sym (slots_same d)))

pub invariant_of-self-in_err-made : goal.invariant_of-self-in_err-made
invariant_of-self-in_err-made c =
    let d = (goal.at.invariant_of-self-in_err-made c).After-reserve in
    idle_counted c.self.inside.shelf c.empty-made.new.shelf c.self.inside.names c.empty-made.new.names c.reserve.new.self.slots (counted d) c.in_err-made.ensures.err c.each_is_counted.ensures

pub returns-in_err-made-clause-err : goal.returns-in_err-made-clause-err
returns-in_err-made-clause-err c =
    let d = (goal.at.returns-in_err-made-clause-err c).After-reserve in
    err_by c.from_residual-in_err-made.result (idle_before c.self.inside.shelf c.empty-made.new.shelf c.self.inside.names c.empty-made.new.names c.reserve.new.self.slots (counted d) c.in_err-made.ensures.err c.each_is_counted.ensures c.args.self.now (seen d))

pub invariant_of-self-2 : goal.invariant_of-self-2
invariant_of-self-2 c =
    let d = (goal.at.invariant_of-self-2 c).After-reserve in
    let e = c.insert_reserved-key.ensures in
    let made = c.in_ok-made.ensures.made in
    step_kept c.self.inside.shelf c.empty-made.new.shelf c.self.inside.names c.empty-made.new.names c.reserve.new.self.slots c.insert_reserved-key.new.self.slots (counted d) c.insert_reserved-key.result None (Some c.in_ok-made.field-0)
    made.grows e.was_vacant e.updates.changed e.updates.others made.shifts c.each_is_counted.ensures made.sheet

pub returns-clause-ok : goal.returns-clause-ok
returns-clause-ok c =
    let d = (goal.at.returns-clause-ok c).After-reserve in
    let e = c.insert_reserved-key.ensures in
    let made = c.in_ok-made.ensures.made in
    let after = vault_of c.empty-made.new.shelf c.empty-made.new.names c.insert_reserved-key.new.self.slots in
    let added = step_added c.self.inside.shelf c.empty-made.new.shelf c.self.inside.names c.empty-made.new.names c.reserve.new.self.slots c.insert_reserved-key.new.self.slots (counted d) c.insert_reserved-key.result None (Some c.in_ok-made.field-0)
    made.grows e.was_vacant e.updates.changed e.updates.others made.shifts c.each_is_counted.ensures refl (Some empty_geo) (ap Some c.in_ok-made.ensures.geo) in
    subst (λ (v : VaultMap). Added v after c.insert_reserved-key.result (Some empty_geo)) (seen d) added
