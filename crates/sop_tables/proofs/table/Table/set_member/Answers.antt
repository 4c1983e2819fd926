use Rattle.std.proofs.Common.{◌≡◌, ◌∙◌, ◌<◌, ◌≤◌, ◌/◌, ℕ, List, length, ap, sym, subst}
use Rattle.std.specs.Prelude.{Option}
use Rattle.sop_cells.specs.declared.place.Place.{Place}
use Rattle.sop_cells.specs.Shelves.{Shifts}
use Rattle.sop_columns.specs.Bits.{flag, placed, AreBits}
use Rattle.sop_columns.proofs.NameLemmas.{grows_none}
use Rattle.sop_model.specs.Rows.{changed_at, with_flag}
use Rattle.sop_tables.specs.Tables.{TableLists, rows, members_at, with_members, IsTableStep}
use Rattle.sop_tables.proofs.MemberLemmas.{members_there}
use Rattle.sop_tables.proofs.ReadLemmas.{put_back}
use Rattle.sop_tables.proofs.SetLemmas.{same_step, members_read, flag_set_step, flag_set_rows}
use Rattle.sop_tables.proofs.table.Table.set_member.Goals as goal
use Rattle.sop_tables.proofs.table.Table.set_member.Goals.{After-index_mut-members}

read : (c : After-index_mut-members) → c.index_mut-members.result.now ≡ members_at c.args.self.now c.args.group
read c = members_read c.args.shelf.now c.args.shelf.now c.args.names.now c.args.self.now c.requires.table c.requires.held c.args.group c.requires.group c.self.inside.members.items c.index_mut-members.result.now
    (ap (λ (t : TableLists). t.members) c.self.view_is) c.index_mut-members.ensures.value

pub set-requires : goal.set-requires
set-requires c = record {
  bits =
      subst (AreBits c.args.shelf.now) (sym (read (goal.at.set-requires c).After-index_mut-members))
      (members_there c.args.shelf.now c.args.names.now c.args.self.now c.requires.table c.requires.held c.args.group c.requires.group);
}

pub returns-in_err-set-clause-step : goal.returns-in_err-set-clause-step
returns-in_err-set-clause-step c =
    same_step c.args.shelf.now c.set.new.shelf c.args.names.now c.args.names.now c.args.self.now c.requires.table c.requires.held _ c.in_err-set.ensures.err.0
    (ap (λ (ms : List (List (Option Place))). record { set = c.self.inside.set; columns = c.self.inside.columns.items; members = ms; count = c.self.inside.count })
    (put_back c.self.inside.members.items c.args.group c.index_mut-members.result.now c.set.new.self c.index_mut-members.ensures.value c.in_err-set.ensures.err.1) ∙ c.self.view_is)
    (grows_none c.args.names.now)

pub returns-clause-rows : goal.returns-clause-rows
returns-clause-rows c =
    let at = read (goal.at.returns-clause-rows c).After-index_mut-members in
    let P : TableLists → Type 0 = λ t. rows c.set.new.shelf c.args.names.now t ≡ changed_at (with_flag c.args.group c.args.on) (rows c.args.shelf.now c.args.names.now c.args.self.now) c.args.element in
    let Q : List (Option Place) → Type 0 = λ p. Shifts c.args.shelf.now c.set.new.shelf (placed p) (placed c.set.new.self) in
    let L : List (Option Place) → Type 0 = λ p. (k : ℕ) → length p ≤ k → c.args.element / 131072 < k → length c.set.new.self ≤ k in
    subst P (ap (λ (t : TableLists). with_members t c.args.group c.set.new.self) (sym c.self.view_is))
    (flag_set_rows c.args.shelf.now c.set.new.shelf c.args.names.now c.args.self.now c.requires.table c.requires.held c.args.group c.requires.group c.args.element c.requires.element c.args.on c.set.new.self
    (subst Q at c.set.ensures.shifts) c.set.ensures.bits (subst L at c.set.ensures.few) c.in_ok-set.ensures.here (λ i d. c.in_ok-set.ensures.others i d ∙ ap (λ (p : List (Option Place)). flag c.args.shelf.now p i) at))

pub returns-clause-step : goal.returns-clause-step
returns-clause-step c =
    let at = read (goal.at.returns-clause-step c).After-index_mut-members in
    let P : TableLists → Type 0 = λ t. IsTableStep c.args.shelf.now c.set.new.shelf c.args.names.now c.args.names.now c.args.self.now t in
    let Q : List (Option Place) → Type 0 = λ p. Shifts c.args.shelf.now c.set.new.shelf (placed p) (placed c.set.new.self) in
    let L : List (Option Place) → Type 0 = λ p. (k : ℕ) → length p ≤ k → c.args.element / 131072 < k → length c.set.new.self ≤ k in
    subst P (ap (λ (t : TableLists). with_members t c.args.group c.set.new.self) (sym c.self.view_is))
    (flag_set_step c.args.shelf.now c.set.new.shelf c.args.names.now c.args.self.now c.requires.table c.requires.held c.args.group c.requires.group c.args.element c.requires.element c.args.on c.set.new.self
    (subst Q at c.set.ensures.shifts) c.set.ensures.bits (subst L at c.set.ensures.few) c.in_ok-set.ensures.here (λ i d. c.in_ok-set.ensures.others i d ∙ ap (λ (p : List (Option Place)). flag c.args.shelf.now p i) at))
