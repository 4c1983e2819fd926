use Rattle.std.proofs.Common.{◌≡◌, ◌+◌, ◌++◌, ◌^◌, ℕ, [], replicate, take, ap, sym, ◌∙◌, subst, arith}
use Rattle.std.specs.Prelude.{IfOk}
use Rattle.std.proofs.lemmas.Option.{slice_get_within}
use Rattle.std.proofs.lemmas.Result.{on_err_weaker}
use Rattle.sop_model.specs.Values.{default_of}
use Rattle.sop_columns.proofs.NameLemmas.{grows_none}
use Rattle.sop_tables.specs.Tables.{TableLists, held}
use Rattle.sop_tables.specs.Changes.{first_values, values_or, IsNewColumn}
use Rattle.sop_tables.proofs.KeptLemmas.{values_kept, column_of_kept}
use Rattle.sop_tables.proofs.MadeLemmas.{no_step, stays_beside}
use Rattle.sop_tables.proofs.BesideLemmas.{table_column, table_column_held, room_after}
use Rattle.sop_tables.proofs.JoinedLemmas.{new_few, helped_all}
use Rattle.sop_tables.proofs.table.Table.joined_column.Goals as goal

pub joined_column-requires-clause-first : goal.joined_column-requires-clause-first
joined_column-requires-clause-first c =
    let at = sym c.in-Some.ensures in
    table_column c.args.shelf.now c.args.names.now c.args.self.now c.requires.table c.requires.held c.args.k c.in-Some.column.now at _ _ (ap (λ (tb : TableLists). tb.count) c.self.view_is)
    (c.requires.head (slice_get_within c.args.self.now.columns c.args.k c.in-Some.column.now at))

pub joined_column-requires-clause-first_held : goal.joined_column-requires-clause-first_held
joined_column-requires-clause-first_held c = table_column_held c.args.shelf.now c.args.names.now c.args.self.now c.requires.table c.requires.held c.args.k c.in-Some.column.now (sym c.in-Some.ensures)

pub returns-in-Some-clause-err : goal.returns-in-Some-clause-err
returns-in-Some-clause-err c = on_err_weaker _ (λ e. no_step _ _ _ _ e (grows_none _)) c.joined_column.ensures.err

pub joined_column-made-requires-clause-second : goal.joined_column-made-requires-clause-second
joined_column-made-requires-clause-second c =
    let s = c.args.shelf.now in let t = c.fresh_column.new.shelf in let n = c.args.names.now in let m = c.fresh_column.new.names in let made = c.in_ok-first.ensures.made in
    column_of_kept s t [] c.in_ok-first.first n m made.shifts made.grows c.args.more _ c.args.second.now (stays_beside s t c.in_ok-first.first n m c.args.second.now c.requires.column_held) c.requires.column

pub joined_column-made-requires-clause-room : goal.joined_column-made-requires-clause-room
joined_column-made-requires-clause-room c =
    let made = c.in_ok-first.ensures.made in
    room_after _ _ c.in_ok-first.first (2 ^ 22) (2 ^ 20) made.shifts (new_few _ _ _ _ _ _ _ c.in_ok-first.first (let m = c.requires.most in let e = ap (λ (tb : TableLists). tb.count) c.self.view_is in omega arith) made) (omega arith) c.requires.room

pub returns-clause-made : goal.returns-clause-made
returns-clause-made c =
    let s = c.args.shelf.now in let t = c.fresh_column.new.shelf in let u = c.joined_column-made.new.shelf in let v = c.release.new.shelf in
    let n = c.args.names.now in let m = c.fresh_column.new.names in
    let self = c.args.self.now in let h = c.args.head.now in let first = c.in_ok-first.first in
    let made = c.in_ok-first.ensures.made in
    let size = ap (λ (tb : TableLists). tb.count) c.self.view_is in
    let P : ℕ → Type 0 = λ k. IfOk c.joined_column-made.result (IsNewColumn t u m m (k + c.args.more) h (held t m k first ++ held t m c.args.more c.args.second.now)) in
    let firsts = subst (λ (k : ℕ). held t m k first ≡ replicate k (default_of h.kind)) size made.values in
    let none = ap (values_or s n self.count (replicate self.count (default_of h.kind))) c.in_default.ensures in
    let seconds = ap (take c.args.more) (values_kept s t [] first n m made.shifts made.grows c.args.second.now (stays_beside s t first n m c.args.second.now c.requires.column_held) c.requires.column.numbered) in
    helped_all s t u v n m m first made.shifts made.grows c.release.ensures.shifts c.joined_column-made.result (self.count + c.args.more) h
    (held t m self.count first ++ held t m c.args.more c.args.second.now) (first_values s n self c.args.k h ++ held s n c.args.more c.args.second.now) (λ j. (firsts ∙ none) j ++ seconds j)
    (subst P size c.joined_column-made.ensures.made)
