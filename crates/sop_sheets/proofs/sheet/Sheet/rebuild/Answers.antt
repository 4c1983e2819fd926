use Rattle.std.proofs.Common.{◌∙◌, sym, subst}
use Rattle.sop_tables.proofs.MadeLemmas.{still_held}
use Rattle.sop_sheets.specs.Sheets.{SheetLists, places_of, Becomes}
use Rattle.sop_sheets.specs.Remade.{sheet_of}
use Rattle.sop_sheets.proofs.RemadeLemmas.{remade_becomes}
use Rattle.sop_sheets.proofs.sheet.Sheet.rebuild.Goals as goal

pub replace-requires : goal.replace-requires
replace-requires c =
    let made = c.in_ok-made.ensures.made in record { held = still_held c.args.shelf.now c.remade.new.shelf _ (places_of c.args.self.now) made.shifts c.requires.held }

pub returns-clause-ok : goal.returns-clause-ok
returns-clause-ok c g rebuilt =
    let made = c.in_ok-made.ensures.made in
    let becomes = λ (sheet : SheetLists). Becomes c.args.shelf.now c.replace.new.shelf c.args.names.now c.remade.new.names c.args.self.now (record sheet { shape = c.args.topology }) g in
    subst becomes (sym (c.self.view_is ∙ c.replace.ensures.new))
    (remade_becomes c.args.shelf.now c.remade.new.shelf c.replace.new.shelf c.args.names.now c.remade.new.names c.args.self.now c.args.changes (sheet_of c.in_ok-made.made c.args.self.now.shape) c.requires.held made c.replace.ensures.shifts
    g c.args.topology rebuilt.sets rebuilt.rows rebuilt.has rebuilt.sound rebuilt.within rebuilt.values)
