use Rattle.std.proofs.Common.{◌≡◌, length, map, ap, sym, subst}
use Rattle.std.specs.Prelude.{All}
use Rattle.sop_model.specs.declared.geo.Geo.{Geo}
use Rattle.sop_model.specs.Geometry.{count_of}
use Rattle.sop_model.specs.Rows.{column_held, HasHead, IsOfHead}
use Rattle.sop_cells.specs.Shelves.{joined}
use Rattle.sop_columns.specs.Names.{NameTable, value_of}
use Rattle.sop_sheets.specs.Sheets.{geo_of, Becomes}
use Rattle.sop_vault.specs.Vaults.{VaultMap}
use Rattle.sop_vault.proofs.VaultLemmas.{here_held, known, call_counted, stays_counted, changed_clause, kept_clause}
use Rattle.sop_vault.proofs.vault.Vault.adopt.Goals as goal

pub adopt-adopted-requires-clause-held : goal.adopt-adopted-requires-clause-held
adopt-adopted-requires-clause-held c = here_held c.self.inside.shelf c.self.inside.names c.self.inside.sheets.slots c.self.invariant c.number.result c.in-Some.sheet.now (sym c.in-Some.ensures.value)

pub adopt-adopted-requires-clause-kinds : goal.adopt-adopted-requires-clause-kinds
adopt-adopted-requires-clause-kinds c =
    let here = geo_of c.self.inside.shelf c.self.inside.names c.in-Some.sheet.now in
    subst (λ (names : NameTable). All (IsOfHead here c.args.class c.args.head) (map (value_of names) (joined c.args.pages))) (sym (ap (λ (v : VaultMap). v.names) c.self.view_is))
    ((known c.self.inside.shelf c.self.inside.names c.self.inside.sheets.slots c.self.invariant c.number.result c.in-Some.sheet.now (sym c.in-Some.ensures.value) c.args.self.now c.self.view_is c.args.key c.number.ensures
    (λ (g : Geo). HasHead g c.args.class c.args.head × (length (joined c.args.pages) ≡ count_of g c.args.class) × All (IsOfHead g c.args.class c.args.head) (map (value_of c.args.self.now.names) (joined c.args.pages))) c.requires.there).2)

pub invariant_of-self : goal.invariant_of-self
invariant_of-self c = stays_counted c.self.inside.shelf c.self.inside.names c.self.inside.sheets.slots c.self.invariant c.number.result c.in-Some.sheet.now (sym c.in-Some.ensures.value) c.adopt-adopted.new.shelf c.self.inside.names c.adopt-adopted.new.self c.each_is_counted.ensures c.in-Err.ensures.err.0

pub returns-in-Err-clause-err : goal.returns-in-Err-clause-err
returns-in-Err-clause-err c = (kept_clause c.self.inside.shelf c.self.inside.names c.self.inside.sheets.slots c.self.invariant c.number.result c.in-Some.sheet.now (sym c.in-Some.ensures.value) c.adopt-adopted.new.shelf c.self.inside.names c.adopt-adopted.new.self c.each_is_counted.ensures c.in-Err.ensures.err.0 c.args.self.now c.self.view_is, c.in-Err.ensures.err.1)

pub invariant_of-self-2 : goal.invariant_of-self-2
invariant_of-self-2 c = call_counted c.self.inside.shelf c.self.inside.names c.self.inside.sheets.slots c.self.invariant c.number.result c.in-Some.sheet.now (sym c.in-Some.ensures.value) c.adopt-adopted.new.shelf c.self.inside.names c.adopt-adopted.new.self c.each_is_counted.ensures c.in_default-adopted.ensures.ok.step

pub returns-clause-ok : goal.returns-clause-ok
returns-clause-ok c =
    let op = λ (names : NameTable) (g : Geo). column_held g c.args.class c.args.head (map (value_of names) (joined c.args.pages)) in
    let here = geo_of c.self.inside.shelf c.self.inside.names c.in-Some.sheet.now in
    let made = subst (λ (names : NameTable). Becomes c.self.inside.shelf c.adopt-adopted.new.shelf c.self.inside.names c.self.inside.names c.in-Some.sheet.now c.adopt-adopted.new.self (op names here)) (ap (λ (v : VaultMap). v.names) c.self.view_is) c.in_default-adopted.ensures.ok in
    changed_clause c.self.inside.shelf c.self.inside.names c.self.inside.sheets.slots c.self.invariant c.number.result c.in-Some.sheet.now (sym c.in-Some.ensures.value) c.adopt-adopted.new.shelf c.self.inside.names c.adopt-adopted.new.self c.each_is_counted.ensures (op c.args.self.now.names) made c.args.self.now c.self.view_is c.args.key c.number.ensures
