use Rattle.std.proofs.Common.{◌<◌, ◌^◌, length, sym, arith}
use Rattle.sop_model.specs.declared.geo.Geo.{Geo}
use Rattle.sop_model.specs.Sweep.{swept, AreMarksOf}
use Rattle.sop_vault.proofs.VaultLemmas.{here_held, room_for_here, known, call_counted, stays_counted, changed_clause, kept_clause, err_by}
use Rattle.sop_vault.proofs.vault.Vault.keep.Goals as goal

pub keep-kept-requires-clause-held : goal.keep-kept-requires-clause-held
keep-kept-requires-clause-held c = here_held c.self.inside.shelf c.self.inside.names c.self.inside.sheets.slots c.self.invariant c.number.result c.in-Some.sheet.now (sym c.in-Some.ensures.value)

pub keep-kept-requires-clause-room : goal.keep-kept-requires-clause-room
keep-kept-requires-clause-room c =
    let few : length c.self.inside.sheets.slots < 2 ^ 64 = let a = c.capacity-capacity.ensures.slots in let b = c.capacity-capacity.type_inv in omega arith in
    room_for_here c.self.inside.shelf c.self.inside.names c.self.inside.sheets.slots c.self.invariant c.number.result c.in-Some.sheet.now (sym c.in-Some.ensures.value) few

pub keep-kept-requires-clause-marks : goal.keep-kept-requires-clause-marks
keep-kept-requires-clause-marks c =
    known c.self.inside.shelf c.self.inside.names c.self.inside.sheets.slots c.self.invariant c.number.result c.in-Some.sheet.now (sym c.in-Some.ensures.value) c.args.self.now c.self.view_is c.args.key c.number.ensures
    (λ (g : Geo). AreMarksOf g c.args.marks.now) c.requires.marks

pub invariant_of-self : goal.invariant_of-self
invariant_of-self c =
    stays_counted c.self.inside.shelf c.self.inside.names c.self.inside.sheets.slots c.self.invariant c.number.result c.in-Some.sheet.now (sym c.in-Some.ensures.value)
    c.keep-kept.new.shelf c.keep-kept.new.names c.keep-kept.new.self c.each_is_counted.ensures c.in_err-kept.ensures.err

pub returns-in_err-kept-clause-err : goal.returns-in_err-kept-clause-err
returns-in_err-kept-clause-err c =
    err_by c.from_residual.result (kept_clause c.self.inside.shelf c.self.inside.names c.self.inside.sheets.slots c.self.invariant c.number.result c.in-Some.sheet.now (sym c.in-Some.ensures.value)
    c.keep-kept.new.shelf c.keep-kept.new.names c.keep-kept.new.self c.each_is_counted.ensures c.in_err-kept.ensures.err c.args.self.now c.self.view_is)

pub invariant_of-self-2 : goal.invariant_of-self-2
invariant_of-self-2 c =
    call_counted c.self.inside.shelf c.self.inside.names c.self.inside.sheets.slots c.self.invariant c.number.result c.in-Some.sheet.now (sym c.in-Some.ensures.value)
    c.keep-kept.new.shelf c.keep-kept.new.names c.keep-kept.new.self c.each_is_counted.ensures c.in_ok-kept.ensures.ok.step

pub returns-clause-ok : goal.returns-clause-ok
returns-clause-ok c =
    changed_clause c.self.inside.shelf c.self.inside.names c.self.inside.sheets.slots c.self.invariant c.number.result c.in-Some.sheet.now (sym c.in-Some.ensures.value)
    c.keep-kept.new.shelf c.keep-kept.new.names c.keep-kept.new.self c.each_is_counted.ensures
    (λ (g : Geo). swept g c.args.marks.now) c.in_ok-kept.ensures.ok c.args.self.now c.self.view_is c.args.key c.number.ensures
