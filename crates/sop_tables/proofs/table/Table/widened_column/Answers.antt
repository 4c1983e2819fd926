use Rattle.std.proofs.Common.{◌+◌, ◌++◌, ℕ, List, replicate, append-nil, ap, sym, ◌∙◌, subst}
use Rattle.std.specs.Prelude.{IfOk, slice_get}
use Rattle.std.proofs.lemmas.Option.{slice_get_within}
use Rattle.sop_model.specs.declared.value.Value.{Value}
use Rattle.sop_model.specs.Values.{default_of}
use Rattle.sop_tables.specs.Tables.{TableLists, held}
use Rattle.sop_tables.specs.Changes.{values_or, values_under, IsNewColumn}
use Rattle.sop_tables.proofs.BesideLemmas.{table_column, table_column_held}
use Rattle.sop_tables.proofs.JoinedLemmas.{as_it_was}
use Rattle.sop_tables.proofs.table.Table.widened_column.Goals as goal

pub longer_column-requires-clause-column : goal.longer_column-requires-clause-column
longer_column-requires-clause-column c =
    let at = sym c.in-Some.ensures in
    table_column c.args.shelf.now c.args.names.now c.args.self.now c.requires.table c.requires.held c.args.k c.in-Some.column.now at _ _ (ap (λ (tb : TableLists). tb.count) c.self.view_is)
    (c.requires.head (slice_get_within c.args.self.now.columns c.args.k c.in-Some.column.now at))

pub longer_column-requires-clause-held : goal.longer_column-requires-clause-held
longer_column-requires-clause-held c = table_column_held c.args.shelf.now c.args.names.now c.args.self.now c.requires.table c.requires.held c.args.k c.in-Some.column.now (sym c.in-Some.ensures)

pub returns-in-Some-clause-made : goal.returns-in-Some-clause-made
returns-in-Some-clause-made c =
    let s = c.args.shelf.now in let t = c.longer_column.new.shelf in let n = c.args.names.now in let m = c.longer_column.new.names in
    let self = c.args.self.now in let h = c.args.head.now in let p = c.in-Some.column.now in
    let P : ℕ → Type 0 = λ k. IfOk c.longer_column.result (IsNewColumn s t n m (k + 0) h (held s n k p ++ replicate 0 (default_of h.kind))) in
    let is = append-nil (held s n self.count p) ∙ ap (values_or s n self.count (values_under s n c.args.other.now h)) c.in-Some.ensures in
    as_it_was c.longer_column.result s t n m self.count h (held s n self.count p ++ replicate 0 (default_of h.kind)) (values_or s n self.count (values_under s n c.args.other.now h) (slice_get self.columns c.args.k)) is
    (subst P (ap (λ (tb : TableLists). tb.count) c.self.view_is) c.longer_column.ensures.made)

pub returns-in-None-clause-made : goal.returns-in-None-clause-made
returns-in-None-clause-made c =
    let s = c.args.shelf.now in let t = c.column_under.new.shelf in let n = c.args.names.now in let m = c.column_under.new.names in
    let self = c.args.self.now in let h = c.args.head.now in
    let P : ℕ → Type 0 = λ k. IfOk c.column_under.result (IsNewColumn s t n m k h (values_under s n c.args.other.now h)) in
    let Q : List Value → Type 0 = λ vs. IfOk c.column_under.result (IsNewColumn s t n m self.count h vs) in
    subst Q (ap (values_or s n self.count (values_under s n c.args.other.now h)) c.in-None.ensures) (subst P (sym c.requires.same) c.column_under.ensures.made)
