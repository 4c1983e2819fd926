use Rattle.std.proofs.Common.{◌≡◌, ◌∙◌, ap, sym, subst, refl}
use Rattle.std.specs.Prelude.{Some, None}
use Rattle.sop_vault.specs.Vaults.{VaultMap, vault_of, Counted, Added}
use Rattle.sop_vault.proofs.VaultLemmas.{step_kept, step_added, idle_counted, idle_before, as_before, err_by}
use Rattle.sop_vault.proofs.vault.Vault.load.Goals as goal
use Rattle.sop_vault.proofs.vault.Vault.load.Given.{Over}
use Rattle.sop_vault.proofs.vault.Vault.load.Goals.{After-reserve}

slots_same : (g : Over) (c : After-reserve g) → c.self.inside.sheets.slots ≡ c.reserve.new.self.slots
slots_same g c = ap (λ s. s.slots) (sym c.reserve.ensures.rest_kept)

counted : (g : Over) (c : After-reserve g) → Counted c.self.inside.shelf c.self.inside.names c.reserve.new.self.slots
counted g c = subst (Counted c.self.inside.shelf c.self.inside.names) (slots_same g c) c.self.invariant

seen : (g : Over) (c : After-reserve g) → vault_of c.self.inside.shelf c.self.inside.names c.reserve.new.self.slots ≡ c.args.self.now
seen g c = ap (vault_of c.self.inside.shelf c.self.inside.names) (sym (slots_same g c)) ∙ c.self.view_is

pub returns-in_err-reserve-clause-err : goal.returns-in_err-reserve-clause-err
returns-in_err-reserve-clause-err g c =
    let d = (goal.at.returns-in_err-reserve-clause-err g c).After-reserve in
    err_by c.from_residual.result (as_before c.self.inside.shelf c.self.inside.names c.self.inside.sheets.slots c.reserve.new.self.slots c.args.self.now c.self.view_is (sym (slots_same g d)))

pub invariant_of-self-in_err-made : goal.invariant_of-self-in_err-made
invariant_of-self-in_err-made g c =
    let d = (goal.at.invariant_of-self-in_err-made g c).After-reserve in
    idle_counted c.self.inside.shelf c.of_view-made.new.shelf c.self.inside.names c.of_view-made.new.names c.reserve.new.self.slots (counted g d) c.in_err-made.ensures.err c.each_is_counted.ensures

pub returns-in_err-made-clause-err : goal.returns-in_err-made-clause-err
returns-in_err-made-clause-err g c =
    let d = (goal.at.returns-in_err-made-clause-err g c).After-reserve in
    err_by c.from_residual-in_err-made.result (idle_before c.self.inside.shelf c.of_view-made.new.shelf c.self.inside.names c.of_view-made.new.names c.reserve.new.self.slots (counted g d) c.in_err-made.ensures.err c.each_is_counted.ensures c.args.self.now (seen g d))

pub invariant_of-self-2 : goal.invariant_of-self-2
invariant_of-self-2 g c =
    let d = (goal.at.invariant_of-self-2 g c).After-reserve in
    let e = c.insert_reserved-key.ensures in
    let made = c.in_ok-made.ensures.made in
    step_kept c.self.inside.shelf c.of_view-made.new.shelf c.self.inside.names c.of_view-made.new.names c.reserve.new.self.slots c.insert_reserved-key.new.self.slots (counted g d) c.insert_reserved-key.result None (Some c.in_ok-made.field-0)
    made.grows e.was_vacant e.updates.changed e.updates.others made.shifts c.each_is_counted.ensures made.sheet

pub returns-clause-ok : goal.returns-clause-ok
returns-clause-ok g c =
    let d = (goal.at.returns-clause-ok g c).After-reserve in
    let e = c.insert_reserved-key.ensures in
    let made = c.in_ok-made.ensures.made in
    let after = vault_of c.of_view-made.new.shelf c.of_view-made.new.names c.insert_reserved-key.new.self.slots in
    let added = step_added c.self.inside.shelf c.of_view-made.new.shelf c.self.inside.names c.of_view-made.new.names c.reserve.new.self.slots c.insert_reserved-key.new.self.slots (counted g d) c.insert_reserved-key.result None (Some c.in_ok-made.field-0)
    made.grows e.was_vacant e.updates.changed e.updates.others made.shifts c.each_is_counted.ensures refl (Some (g.V.GeoView.geo c.args.view.now)) (ap Some c.in_ok-made.ensures.geo) in
    subst (λ (v : VaultMap). Added v after c.insert_reserved-key.result (Some (g.V.GeoView.geo c.args.view.now))) (seen g d) added
