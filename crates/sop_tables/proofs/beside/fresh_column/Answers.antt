use Rattle.std.proofs.Common.{◌≡◌, replicate}
use Rattle.std.proofs.lemmas.List.{length-replicate}
use Rattle.std.proofs.lemmas.Result.{IfOk-at_ok, on_err_weaker}
use Rattle.sop_model.specs.Values.{default_of}
use Rattle.sop_cells.specs.Shelves.{Shifts}
use Rattle.sop_columns.specs.Values.{values, IsColumn}
use Rattle.sop_tables.proofs.MadeLemmas.{ok_of, no_step}
use Rattle.sop_tables.proofs.JoinedLemmas.{whole_made}
use Rattle.sop_tables.proofs.beside.fresh_column.Goals as goal

pub returns-clause-err : goal.returns-clause-err
returns-clause-err c = on_err_weaker _ (λ e. no_step _ _ _ _ e c.new.ensures.grows) c.new.ensures.err

pub returns-clause-made : goal.returns-clause-made
returns-clause-made c =
    let s = c.args.shelf.now in let t = c.new.new.shelf in let n = c.args.names.now in let m = c.new.new.names in
    let vs = replicate c.args.count (default_of c.args.head.now.kind) in
    ok_of _ (λ new e. whole_made s t n m _ c.args.head.now vs new
    (IfOk-at_ok (λ x. Shifts s t _ x) e c.new.ensures.shifts) c.new.ensures.grows
    (IfOk-at_ok (IsColumn t m) e c.new.ensures.column)
    (IfOk-at_ok (λ x. values t m x ≡ vs) e c.new.ensures.values) (length-replicate c.args.count (default_of c.args.head.now.kind)))
