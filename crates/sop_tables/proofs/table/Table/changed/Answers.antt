use Rattle.std.proofs.Common.{◌≡◌, List, refl, subst}
use Rattle.std.specs.Prelude.{IfOk}
use Rattle.sop_model.specs.declared.geo.Row.{Row}
use Rattle.sop_columns.proofs.NameLemmas.{grows_none}
use Rattle.sop_tables.specs.Tables.{rows}
use Rattle.sop_tables.proofs.MadeLemmas.{on_err, no_step}
use Rattle.sop_tables.proofs.ChangedRows.{changed_as}
use Rattle.sop_tables.proofs.table.Table.changed.Goals as goal

pub returns-in_err-set-clause-err : goal.returns-in_err-set-clause-err
returns-in_err-set-clause-err c = on_err _ (no_step _ _ _ _ refl (grows_none _))

pub returns-clause-rows : goal.returns-clause-rows
returns-clause-rows c =
    let P : List Row → Type 0 = λ x. IfOk c.changed_under.result (λ t. rows c.changed_under.new.shelf c.changed_under.new.names t ≡ x) in
    subst P (changed_as c.args.shelf.now c.args.names.now c.args.self.now c.requires.source.table c.args.change c.requires.source.fits) c.changed_under.ensures.rows
