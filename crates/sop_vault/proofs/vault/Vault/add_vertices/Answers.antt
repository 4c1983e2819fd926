use Rattle.std.proofs.Common.{◌<◌, ◌^◌, length, sym, arith}
use Rattle.sop_model.specs.declared.geo.Geo.{Geo}
use Rattle.sop_model.specs.Rows.{vertices_added}
use Rattle.sop_vault.proofs.VaultLemmas.{here_held, room_for_here, call_counted, stays_counted, changed_clause, kept_clause, unchanged, err_by}
use Rattle.sop_vault.proofs.vault.Vault.add_vertices.Goals as goal

pub returns-in-Err-clause-err : goal.returns-in-Err-clause-err
returns-in-Err-clause-err c = unchanged c.args.self.now

pub add_vertices-added-requires-clause-held : goal.add_vertices-added-requires-clause-held
add_vertices-added-requires-clause-held c = here_held c.self.inside.shelf c.self.inside.names c.self.inside.sheets.slots c.self.invariant c.number.result c.in-Some.sheet.now (sym c.in-Some.ensures.value)

pub add_vertices-added-requires-clause-room : goal.add_vertices-added-requires-clause-room
add_vertices-added-requires-clause-room c =
    let few : length c.self.inside.sheets.slots < 2 ^ 64 = let a = c.capacity-capacity.ensures.slots in let b = c.capacity-capacity.type_inv in omega arith in
    room_for_here c.self.inside.shelf c.self.inside.names c.self.inside.sheets.slots c.self.invariant c.number.result c.in-Some.sheet.now (sym c.in-Some.ensures.value) few

pub invariant_of-self : goal.invariant_of-self
invariant_of-self c = stays_counted c.self.inside.shelf c.self.inside.names c.self.inside.sheets.slots c.self.invariant c.number.result c.in-Some.sheet.now (sym c.in-Some.ensures.value) c.add_vertices-added.new.shelf c.add_vertices-added.new.names c.add_vertices-added.new.self c.each_is_counted.ensures c.in_err-added.ensures.err

pub returns-in_err-added-clause-err : goal.returns-in_err-added-clause-err
returns-in_err-added-clause-err c =
    err_by c.from_residual.result (kept_clause c.self.inside.shelf c.self.inside.names c.self.inside.sheets.slots c.self.invariant c.number.result c.in-Some.sheet.now (sym c.in-Some.ensures.value) c.add_vertices-added.new.shelf c.add_vertices-added.new.names c.add_vertices-added.new.self c.each_is_counted.ensures c.in_err-added.ensures.err c.args.self.now c.self.view_is)

pub invariant_of-self-2 : goal.invariant_of-self-2
invariant_of-self-2 c = call_counted c.self.inside.shelf c.self.inside.names c.self.inside.sheets.slots c.self.invariant c.number.result c.in-Some.sheet.now (sym c.in-Some.ensures.value) c.add_vertices-added.new.shelf c.add_vertices-added.new.names c.add_vertices-added.new.self c.each_is_counted.ensures c.in_ok-added.ensures.ok.step

pub returns-clause-ok : goal.returns-clause-ok
returns-clause-ok c =
    changed_clause c.self.inside.shelf c.self.inside.names c.self.inside.sheets.slots c.self.invariant c.number.result c.in-Some.sheet.now (sym c.in-Some.ensures.value) c.add_vertices-added.new.shelf c.add_vertices-added.new.names c.add_vertices-added.new.self c.each_is_counted.ensures
    (λ (g : Geo). vertices_added g c.args.adds.now) c.in_ok-added.ensures.ok c.args.self.now c.self.view_is c.args.key c.number.ensures
