use Rattle.std.proofs.Common.{arith}
use Rattle.sop_tables.proofs.FreshLemmas.{no_step}
use Rattle.sop_tables.proofs.fresh.fresh_columns.Goals as goal

pub returns-in_err-columns-clause-err : goal.returns-in_err-columns-clause-err
returns-in_err-columns-clause-err c = grind (arith, no_step c.args.shelf.now c.args.names.now)
