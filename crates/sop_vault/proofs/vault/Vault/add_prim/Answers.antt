use Rattle.std.proofs.Common.{◌<◌, ◌^◌, length, sym, arith}
use Rattle.sop_model.specs.declared.geo.Geo.{Geo}
use Rattle.sop_model.specs.Rows.{prim_added}
use Rattle.sop_vault.proofs.VaultLemmas.{here_held, room_for_here, call_counted, stays_counted, changed_clause, kept_clause, unchanged, err_by}
use Rattle.sop_vault.proofs.vault.Vault.add_prim.Goals as goal

pub returns-in-Err-clause-err : goal.returns-in-Err-clause-err
returns-in-Err-clause-err c = unchanged c.args.self.now

pub add_prim-added-requires-clause-held : goal.add_prim-added-requires-clause-held
add_prim-added-requires-clause-held c = here_held c.self.inside.shelf c.self.inside.names c.self.inside.sheets.slots c.self.invariant c.number.result c.in-Some.sheet.now (sym c.in-Some.ensures.value)

pub add_prim-added-requires-clause-room : goal.add_prim-added-requires-clause-room
add_prim-added-requires-clause-room c =
    let few : length c.self.inside.sheets.slots < 2 ^ 64 = let a = c.capacity-capacity.ensures.slots in let b = c.capacity-capacity.type_inv in omega arith in
    room_for_here c.self.inside.shelf c.self.inside.names c.self.inside.sheets.slots c.self.invariant c.number.result c.in-Some.sheet.now (sym c.in-Some.ensures.value) few

pub invariant_of-self : goal.invariant_of-self
invariant_of-self c = stays_counted c.self.inside.shelf c.self.inside.names c.self.inside.sheets.slots c.self.invariant c.number.result c.in-Some.sheet.now (sym c.in-Some.ensures.value) c.add_prim-added.new.shelf c.add_prim-added.new.names c.add_prim-added.new.self c.each_is_counted.ensures c.in_err-added.ensures.err

pub returns-in_err-added-clause-err : goal.returns-in_err-added-clause-err
returns-in_err-added-clause-err c =
    err_by c.from_residual.result (kept_clause c.self.inside.shelf c.self.inside.names c.self.inside.sheets.slots c.self.invariant c.number.result c.in-Some.sheet.now (sym c.in-Some.ensures.value) c.add_prim-added.new.shelf c.add_prim-added.new.names c.add_prim-added.new.self c.each_is_counted.ensures c.in_err-added.ensures.err c.args.self.now c.self.view_is)

pub invariant_of-self-2 : goal.invariant_of-self-2
invariant_of-self-2 c = call_counted c.self.inside.shelf c.self.inside.names c.self.inside.sheets.slots c.self.invariant c.number.result c.in-Some.sheet.now (sym c.in-Some.ensures.value) c.add_prim-added.new.shelf c.add_prim-added.new.names c.add_prim-added.new.self c.each_is_counted.ensures c.in_ok-added.ensures.ok.step

pub returns-clause-ok : goal.returns-clause-ok
returns-clause-ok c =
    changed_clause c.self.inside.shelf c.self.inside.names c.self.inside.sheets.slots c.self.invariant c.number.result c.in-Some.sheet.now (sym c.in-Some.ensures.value) c.add_prim-added.new.shelf c.add_prim-added.new.names c.add_prim-added.new.self c.each_is_counted.ensures
    (λ (g : Geo). prim_added g c.args.closed c.args.points.now) c.in_ok-added.ensures.ok c.args.self.now c.self.view_is c.args.key c.number.ensures

pub returns-in-Err-clause-refused : goal.returns-in-Err-clause-refused
returns-in-Err-clause-refused c = c.in-Err.ensures.refused c.args.closed
