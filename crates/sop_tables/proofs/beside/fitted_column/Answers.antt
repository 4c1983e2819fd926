use Rattle.std.proofs.Common.{◌≡◌, ◌+◌, ◌++◌, map, replicate, rules, tests, arith}
use Rattle.std.proofs.lemmas.List.{length-map}
use Rattle.std.proofs.lemmas.Result.{IfOk-at_ok}
use Rattle.sop_model.specs.Values.{default_of}
use Rattle.sop_cells.specs.Shelves.{Shifts}
use Rattle.sop_columns.specs.Fitted.{fitted_to}
use Rattle.sop_columns.specs.Values.{values, IsColumn}
use Rattle.sop_tables.specs.Tables.{held}
use Rattle.sop_tables.specs.Changes.{IsNewColumn}
use Rattle.sop_tables.proofs.MadeLemmas.{ok_of}
use Rattle.sop_tables.proofs.ColumnLemmas.{length-held}
use Rattle.sop_tables.proofs.JoinedLemmas.{whole_made, fitted_same}
use Rattle.sop_tables.proofs.beside.fitted_column.Goals as goal

pub returns-then-eq-clause-made : goal.returns-then-eq-clause-made
returns-then-eq-clause-made c =
    let s = c.args.shelf.now in let t = c.longer_column.new.shelf in let n = c.args.names.now in let m = c.longer_column.new.names in
    let vs = held s n c.args.count c.args.column.now in
    let same : c.args.own ≡ c.args.head.now.kind = search (rules, tests) in
    ok_of _ (λ new e. fitted_same s t n m c.args.count c.args.own c.args.head.now vs new same c.requires.kinds
    (IfOk-at_ok (IsNewColumn s t n m (c.args.count + 0) c.args.head.now (vs ++ replicate 0 (default_of c.args.head.now.kind))) e c.longer_column.ensures.made))

pub returns-else-eq-clause-made : goal.returns-else-eq-clause-made
returns-else-eq-clause-made c =
    let s = c.args.shelf.now in let t = c.converted.new.shelf in let n = c.args.names.now in let m = c.converted.new.names in
    let vs = held s n c.args.count c.args.column.now in
    let long = length-map vs (fitted_to c.args.head.now.kind) in
    let many = length-held s n c.args.count (default_of c.args.own) c.args.column.now c.requires.column in
    ok_of _ (λ new e. whole_made s t n m c.args.count c.args.head.now (map (fitted_to c.args.head.now.kind) vs) new
    (IfOk-at_ok (λ x. Shifts s t _ x) e c.converted.ensures.shifts) c.converted.ensures.grows
    (IfOk-at_ok (IsColumn t m) e c.converted.ensures.column)
    (IfOk-at_ok (λ x. values t m x ≡ map (fitted_to c.args.head.now.kind) vs) e c.converted.ensures.values) (omega arith))
