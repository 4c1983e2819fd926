use Rattle.std.proofs.Common.{◌+◌, ◌++◌, ◌^◌, ℕ, replicate, ap, subst, arith}
use Rattle.std.specs.Prelude.{IfOk}
use Rattle.sop_model.specs.Values.{default_of}
use Rattle.sop_tables.specs.Tables.{TableLists, held}
use Rattle.sop_tables.specs.Changes.{first_values, values_under, IsNewColumn}
use Rattle.sop_tables.proofs.SourceLemmas.{table_stays, values_or_stay}
use Rattle.sop_tables.proofs.BesideLemmas.{room_after}
use Rattle.sop_tables.proofs.JoinedLemmas.{new_few, helped_all}
use Rattle.sop_tables.proofs.table.Table.appended_column.Goals as goal

pub joined_column-made-requires-clause-table : goal.joined_column-made-requires-clause-table
joined_column-made-requires-clause-table c =
    let made = c.in_ok-second.ensures.made in
    table_stays c.args.shelf.now c.column_under.new.shelf c.args.names.now c.column_under.new.names c.in_ok-second.second made.shifts made.grows c.args.self.now c.requires.table c.requires.held

pub joined_column-made-requires-clause-room : goal.joined_column-made-requires-clause-room
joined_column-made-requires-clause-room c =
    let made = c.in_ok-second.ensures.made in
    room_after _ _ c.in_ok-second.second (2 ^ 24) (2 ^ 22) made.shifts (new_few _ _ _ _ _ _ _ c.in_ok-second.second c.requires.other.table.most made) (omega arith) c.requires.room

pub returns-clause-made : goal.returns-clause-made
returns-clause-made c =
    let s = c.args.shelf.now in let t = c.column_under.new.shelf in let u = c.joined_column-made.new.shelf in let v = c.release.new.shelf in
    let n = c.args.names.now in let m = c.column_under.new.names in let o = c.joined_column-made.new.names in
    let self = c.args.self.now in let other = c.args.other.now in let h = c.args.head.now in let second = c.in_ok-second.second in
    let made = c.in_ok-second.ensures.made in
    let P : ℕ → Type 0 = λ k. IfOk c.joined_column-made.result (IsNewColumn t u m o (self.count + k) h (first_values t m self c.args.k h ++ held t m k second)) in
    let firsts = values_or_stay s t n m second made.shifts made.grows self c.requires.table c.requires.held (replicate self.count (default_of h.kind)) c.args.k in
    let seconds = made.values in
    helped_all s t u v n m o second made.shifts made.grows c.release.ensures.shifts c.joined_column-made.result (self.count + other.count) h
    (first_values t m self c.args.k h ++ held t m other.count second) (first_values s n self c.args.k h ++ values_under s n other h) (λ j. firsts j ++ seconds j)
    (subst P (ap (λ (tb : TableLists). tb.count) c.other.view_is) c.joined_column-made.ensures.made)
