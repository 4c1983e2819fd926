use Rattle.std.proofs.Common.{◌≡◌, ◌∙◌, ◌∷◌, ◌++◌, [], ap, sym, subst}
use Rattle.sop_tables.specs.Tables.{TableLists, rows, IsTableStep}
use Rattle.sop_tables.proofs.MemberLemmas.{with_last_members, group_step, group_rows}
use Rattle.sop_tables.proofs.table.Table.add_group.Goals as goal
use Rattle.sop_tables.proofs.table.Table.add_group.Goals.{After-push_reserved}

made : (c : After-push_reserved) → record { set = record { heads = c.self.inside.set.heads; groups = c.add.new.self }; columns = c.self.inside.columns.items; members = c.push_reserved.new.self.items; count = c.self.inside.count } ≡ with_last_members c.args.self.now c.args.name
made c =
    let g = c.in_ok-add.ensures.ok in
    let r = c.reserve.ensures.items in
    let e = c.empty.ensures in
    let m = c.push_reserved.ensures.items ∙ (λ j. r j ++ e j ∷ []) in
    (λ j. record { set = record { heads = c.self.inside.set.heads; groups = g j }; columns = c.self.inside.columns.items; members = m j; count = c.self.inside.count })
    ∙ ap (λ (t : TableLists). with_last_members t c.args.name) c.self.view_is

pub returns-clause-rows : goal.returns-clause-rows
returns-clause-rows c s n = ap (rows s n) (made c) ∙ group_rows s n c.args.self.now c.args.name

pub returns-clause-step : goal.returns-clause-step
returns-clause-step c s n is = subst (IsTableStep s s n n c.args.self.now) (sym (made c)) (group_step s n c.args.self.now c.args.name is c.requires)
