use Rattle.std.proofs.Common.{◌<◌, ◌^◌, length, sym, arith}
use Rattle.sop_model.specs.declared.geo.Geo.{Geo}
use Rattle.sop_model.specs.Geometry.{count_of}
use Rattle.sop_model.specs.Rows.{reordered, IsOrderOf}
use Rattle.sop_vault.proofs.VaultLemmas.{here_held, room_for_here, known, call_counted, stays_counted, changed_clause, kept_clause, err_by}
use Rattle.sop_vault.proofs.vault.Vault.reorder.Goals as goal

pub reorder-moved-requires-clause-held : goal.reorder-moved-requires-clause-held
reorder-moved-requires-clause-held c = here_held c.self.inside.shelf c.self.inside.names c.self.inside.sheets.slots c.self.invariant c.number.result c.in-Some.sheet.now (sym c.in-Some.ensures.value)

pub reorder-moved-requires-clause-room : goal.reorder-moved-requires-clause-room
reorder-moved-requires-clause-room c =
    let few : length c.self.inside.sheets.slots < 2 ^ 64 = let a = c.capacity-capacity.ensures.slots in let b = c.capacity-capacity.type_inv in omega arith in
    room_for_here c.self.inside.shelf c.self.inside.names c.self.inside.sheets.slots c.self.invariant c.number.result c.in-Some.sheet.now (sym c.in-Some.ensures.value) few

pub reorder-moved-requires-clause-order : goal.reorder-moved-requires-clause-order
reorder-moved-requires-clause-order c =
    known c.self.inside.shelf c.self.inside.names c.self.inside.sheets.slots c.self.invariant c.number.result c.in-Some.sheet.now (sym c.in-Some.ensures.value) c.args.self.now c.self.view_is c.args.key c.number.ensures
    (λ (g : Geo). IsOrderOf (count_of g c.args.class) c.args.perm.now) c.requires.order

pub invariant_of-self : goal.invariant_of-self
invariant_of-self c =
    stays_counted c.self.inside.shelf c.self.inside.names c.self.inside.sheets.slots c.self.invariant c.number.result c.in-Some.sheet.now (sym c.in-Some.ensures.value)
    c.reorder-moved.new.shelf c.reorder-moved.new.names c.reorder-moved.new.self c.each_is_counted.ensures c.in_err-moved.ensures.err

pub returns-in_err-moved-clause-err : goal.returns-in_err-moved-clause-err
returns-in_err-moved-clause-err c =
    err_by c.from_residual.result (kept_clause c.self.inside.shelf c.self.inside.names c.self.inside.sheets.slots c.self.invariant c.number.result c.in-Some.sheet.now (sym c.in-Some.ensures.value)
    c.reorder-moved.new.shelf c.reorder-moved.new.names c.reorder-moved.new.self c.each_is_counted.ensures c.in_err-moved.ensures.err c.args.self.now c.self.view_is)

pub invariant_of-self-2 : goal.invariant_of-self-2
invariant_of-self-2 c =
    call_counted c.self.inside.shelf c.self.inside.names c.self.inside.sheets.slots c.self.invariant c.number.result c.in-Some.sheet.now (sym c.in-Some.ensures.value)
    c.reorder-moved.new.shelf c.reorder-moved.new.names c.reorder-moved.new.self c.each_is_counted.ensures c.in_ok-moved.ensures.ok.step

pub returns-clause-ok : goal.returns-clause-ok
returns-clause-ok c =
    changed_clause c.self.inside.shelf c.self.inside.names c.self.inside.sheets.slots c.self.invariant c.number.result c.in-Some.sheet.now (sym c.in-Some.ensures.value)
    c.reorder-moved.new.shelf c.reorder-moved.new.names c.reorder-moved.new.self c.each_is_counted.ensures
    (λ (g : Geo). reordered g c.args.class c.args.perm.now) c.in_ok-moved.ensures.ok c.args.self.now c.self.view_is c.args.key c.number.ensures
