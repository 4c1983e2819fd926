use Rattle.std.proofs.Common.{◌≡◌, ◌<◌, ◌^◌, ◌∙◌, length, ap, sym, subst, refl, arith}
use Rattle.std.specs.Prelude.{Some, None}
use Rattle.sop_columns.proofs.NameLemmas.{grows_none}
use Rattle.sop_vault.specs.Keyed.{at}
use Rattle.sop_vault.specs.Vaults.{VaultMap, vault_of, Counted, Added}
use Rattle.sop_vault.proofs.VaultLemmas.{here_held, seen_here, room_here, step_kept, step_added, shared_sheet, as_before, err_by}
use Rattle.sop_vault.proofs.vault.Vault.share.Goals as goal
use Rattle.sop_vault.proofs.vault.Vault.share.Goals.{After-reserve, After-capacity-capacity}

same_slots : (c : After-reserve) → c.self.inside.sheets.slots ≡ c.reserve.new.self.slots
same_slots c = ap (λ s. s.slots) (sym c.reserve.ensures.rest_kept)

pub returns-in_err-reserve-clause-err : goal.returns-in_err-reserve-clause-err
returns-in_err-reserve-clause-err c =
    let d = (goal.at.returns-in_err-reserve-clause-err c).After-reserve in
    err_by c.from_residual.result (as_before c.self.inside.shelf c.self.inside.names c.self.inside.sheets.slots c.reserve.new.self.slots c.args.self.now c.self.view_is (sym (same_slots d)))

pub returns-in_err-sheet-clause-err : goal.returns-in_err-sheet-clause-err
returns-in_err-sheet-clause-err c =
    let d = (goal.at.returns-in_err-sheet-clause-err c).After-reserve in
    err_by c.from_residual-in_err-sheet.result (as_before c.self.inside.shelf c.self.inside.names c.self.inside.sheets.slots c.reserve.new.self.slots c.args.self.now c.self.view_is (sym (same_slots d)))

module _ (c : After-capacity-capacity) where
  slots_same : c.self.inside.sheets.slots ≡ c.reserve.new.self.slots
  slots_same = ap (λ s. s.slots) (sym c.reserve.ensures.rest_kept)

  counted : Counted c.self.inside.shelf c.self.inside.names c.reserve.new.self.slots
  counted = subst (Counted c.self.inside.shelf c.self.inside.names) slots_same c.self.invariant

  there : at c.reserve.new.self.slots c.key.inside.key ≡ Some c.in_ok-sheet.sheet
  there = sym c.in-Some.ensures ∙ ap Some (sym c.in_ok-sheet.ensures)

  few : length c.reserve.new.self.slots < 2 ^ 64
  few = let a = c.capacity-capacity.ensures.slots in let b = c.capacity-capacity.type_inv in omega arith

  seen : vault_of c.self.inside.shelf c.self.inside.names c.reserve.new.self.slots ≡ c.args.self.now
  seen = ap (vault_of c.self.inside.shelf c.self.inside.names) (sym slots_same) ∙ c.self.view_is

pub hold-requires-clause-held : goal.hold-requires-clause-held
hold-requires-clause-held c = let d = (goal.at.hold-requires-clause-held c).After-capacity-capacity in here_held _ c.self.inside.names _ (counted d) c.key.inside.key _ (there d)

pub hold-requires-clause-room : goal.hold-requires-clause-room
hold-requires-clause-room c = let d = (goal.at.hold-requires-clause-room c).After-capacity-capacity in room_here _ c.self.inside.names _ (counted d) c.key.inside.key _ (there d) (few d)

pub invariant_of-self-2 : goal.invariant_of-self-2
invariant_of-self-2 c =
    let d = (goal.at.invariant_of-self-2 c).After-capacity-capacity in
    let e = c.insert_reserved-key.ensures in
    step_kept c.self.inside.shelf c.hold.new.shelf c.self.inside.names c.self.inside.names c.reserve.new.self.slots c.insert_reserved-key.new.self.slots (counted d) c.insert_reserved-key.result None (Some c.in_ok-sheet.sheet)
    (grows_none c.self.inside.names) e.was_vacant e.updates.changed e.updates.others c.hold.ensures.shifts c.each_is_counted.ensures (shared_sheet c.self.inside.shelf c.self.inside.names c.reserve.new.self.slots (counted d) c.key.inside.key c.in_ok-sheet.sheet (there d) c.hold.new.shelf c.hold.ensures.shifts).0

pub returns-clause-ok : goal.returns-clause-ok
returns-clause-ok c =
    let d = (goal.at.returns-clause-ok c).After-capacity-capacity in
    let e = c.insert_reserved-key.ensures in
    let kept = shared_sheet c.self.inside.shelf c.self.inside.names c.reserve.new.self.slots (counted d) c.key.inside.key c.in_ok-sheet.sheet (there d) c.hold.new.shelf c.hold.ensures.shifts in
    let after = vault_of c.hold.new.shelf c.self.inside.names c.insert_reserved-key.new.self.slots in
    let here = seen_here c.self.inside.shelf c.self.inside.names c.reserve.new.self.slots (counted d) c.key.inside.key c.in_ok-sheet.sheet (there d) c.args.self.now (seen d) c.args.key c.key.view_is in
    let made = step_added c.self.inside.shelf c.hold.new.shelf c.self.inside.names c.self.inside.names c.reserve.new.self.slots c.insert_reserved-key.new.self.slots (counted d) c.insert_reserved-key.result None (Some c.in_ok-sheet.sheet)
    (grows_none c.self.inside.names) e.was_vacant e.updates.changed e.updates.others c.hold.ensures.shifts c.each_is_counted.ensures refl (at c.args.self.now.geos c.args.key) (ap Some kept.1 ∙ sym here) in
    subst (λ (v : VaultMap). Added v after c.insert_reserved-key.result (at c.args.self.now.geos c.args.key)) (seen d) made
