use Rattle.std.proofs.Common.{◌≡◌, ◌∙◌, ◌<◌, [], List, length, ap, sym, subst, arith}
use Rattle.std.specs.Prelude.{Option}
use Rattle.sop_cells.specs.declared.place.Place.{Place}
use Rattle.sop_columns.specs.Bits.{flag, AreBits}
use Rattle.sop_tables.specs.Tables.{TableLists, members_at}
use Rattle.sop_tables.proofs.MemberLemmas.{members_there}
use Rattle.sop_tables.proofs.ReadLemmas.{at_view, flag_read}
use Rattle.sop_tables.proofs.table.Table.member.Goals as goal
use Rattle.sop_tables.proofs.table.Table.member.Goals.{After-self, After-index}

there : (c : After-self) → c.args.group < length c.args.self.now.members
there c = let l = c.requires.table.groups in omega arith

read : (c : After-index) → c.index.result.now ≡ members_at c.args.self.now c.args.group
read c = at_view c.self.inside.members.items c.args.self.now.members c.args.group c.index.result.now [] (ap (λ (t : TableLists). t.members) c.self.view_is) (there (goal.at.get-requires c).After-self) c.index.ensures

pub get-requires : goal.get-requires
get-requires c =
    subst (AreBits c.args.shelf.now) (sym (read c)) (members_there c.args.shelf.now c.args.names.now c.args.self.now c.requires.table c.requires.held c.args.group c.requires.group)

pub returns : goal.returns
returns c =
    flag_read c.args.shelf.now c.args.names.now c.args.self.now c.args.element c.requires.element c.args.group (there (goal.at.returns c).After-self) c.get.result
    (c.get.ensures ∙ ap (λ (p : List (Option Place)). flag c.args.shelf.now p c.args.element) (read (goal.at.returns c).After-index))
