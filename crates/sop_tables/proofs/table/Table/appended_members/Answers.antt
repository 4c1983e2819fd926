use Rattle.std.proofs.Common.{◌+◌, ◌≤◌, ◌*◌, ℕ, List, [], length, ap, ◌∙◌, subst, refl, arith}
use Rattle.std.specs.Prelude.{position, slice_get}
use Rattle.std.specs.Str.{bytes_eq}
use Rattle.std.proofs.lemmas.Result.{IfOk-at_ok}
use Rattle.sop_tables.specs.Tables.{TableLists}
use Rattle.sop_tables.proofs.MadeLemmas.{ok_of}
use Rattle.sop_tables.proofs.BesideLemmas.{group_room}
use Rattle.sop_tables.proofs.NamedLemmas.{first_group, named_group}
use Rattle.sop_tables.proofs.JoinedLemmas.{joined_group}
use Rattle.sop_columns.specs.Bits.{flag, placed, AreBits, AreJoined}
use Rattle.sop_cells.specs.Shelves.{Shifts}
use Rattle.sop_tables.specs.Changes.{first_flag, flag_named}
use Rattle.std.specs.Option.{option_and_then}
use Rattle.std.specs.Prelude.{unwrap_or}
use Rattle.sop_tables.proofs.NamedLemmas.{IsGroup}
use Rattle.sop_tables.proofs.table.Table.appended_members.Goals as goal

first : (c : goal.After-other) → IsGroup c.args.shelf.now c.args.self.now.count (first_flag c.args.shelf.now c.args.self.now c.args.k) c.group_or-first.result.now
first c = first_group c.args.shelf.now c.args.names.now c.args.self.now c.requires.table c.requires.held c.args.k c.group_or-first.result.now c.group_or-first.ensures

second : (c : goal.After-other) → IsGroup c.args.shelf.now c.args.other.now.count (flag_named c.args.shelf.now c.args.other.now c.args.group.now) c.group_under-second.result.now
second c =
    named_group c.args.shelf.now c.args.names.now c.args.other.now c.requires.other.table c.requires.other.held c.args.group.now c.group_under-second.result.now
    (c.group_under-second.ensures ∙ ap (λ (name : List ℕ). unwrap_or (option_and_then (slice_get c.args.other.now.members) (position (λ g. bytes_eq g name) c.args.other.now.set.groups)) []) c.as_str.ensures)

pub appended-requires-clause-bits : goal.appended-requires-clause-bits
appended-requires-clause-bits c = (first c).bits

pub appended-requires-clause-more_bits : goal.appended-requires-clause-more_bits
appended-requires-clause-more_bits c = (second c).bits

pub appended-requires-clause-off : goal.appended-requires-clause-off
appended-requires-clause-off c = λ k l. (first c).members.off k (let e = ap (λ (tb : TableLists). tb.count) c.self.view_is in omega arith)

pub appended-requires-clause-room : goal.appended-requires-clause-room
appended-requires-clause-room c = group_room c.args.shelf.now c.group_or-first.result.now c.group_or-first.result.now refl (let f = (first c).members.few in omega arith) c.requires.room

pub returns-clause-made : goal.returns-clause-made
returns-clause-made c =
    let s = c.args.shelf.now in let t = c.appended.new.shelf in
    let a = c.args.self.now.count in let b = c.args.other.now.count in
    let one = first_group s c.args.names.now c.args.self.now c.requires.table c.requires.held c.args.k c.group_or-first.result.now c.group_or-first.ensures in
    let two = named_group s c.args.names.now c.args.other.now c.requires.other.table c.requires.other.held c.args.group.now c.group_under-second.result.now
    (c.group_under-second.ensures ∙ ap (λ (name : List ℕ). unwrap_or (option_and_then (slice_get c.args.other.now.members) (position (λ g. bytes_eq g name) c.args.other.now.set.groups)) []) c.as_str.ensures) in
    let sizes = ap (λ (tb : TableLists). tb.count) c.self.view_is in let others = ap (λ (tb : TableLists). tb.count) c.other.view_is in
    ok_of _ (λ new e. joined_group s t a b c.group_or-first.result.now c.group_under-second.result.now (first_flag s c.args.self.now c.args.k) (flag_named s c.args.other.now c.args.group.now) new c.requires.most one.flags two.flags
    (IfOk-at_ok (λ x. Shifts s t [] (placed x)) e c.appended.ensures.shifts)
    (IfOk-at_ok (AreBits t) e c.appended.ensures.bits)
    (subst (λ (k : ℕ). AreJoined (flag t new) (flag s c.group_or-first.result.now) k (flag s c.group_under-second.result.now) b) sizes
    (subst (λ (k : ℕ). AreJoined (flag t new) (flag s c.group_or-first.result.now) c.self.inside.count (flag s c.group_under-second.result.now) k) others
    (IfOk-at_ok (λ x. AreJoined (flag t x) (flag s c.group_or-first.result.now) c.self.inside.count (flag s c.group_under-second.result.now) c.other.inside.count) e c.appended.ensures.flags)))
    (IfOk-at_ok (λ x. (n : ℕ) → length c.group_or-first.result.now ≤ n → c.self.inside.count + c.other.inside.count ≤ 131072 * n → length x ≤ n) e c.appended.ensures.few 31
    (let f = one.members.few in omega arith) (let m = c.requires.most in omega arith)))
