use Rattle.std.proofs.Common.{◌≡◌, ◌≢◌, ◌<◌, ◌∙◌, length, sym, arith}
use Rattle.std.specs.Prelude.{None}
use Rattle.sop_model.specs.declared.geo.Geo.{Geo}
use Rattle.sop_model.specs.Limits.{most_groups}
use Rattle.sop_model.specs.Geometry.{heads_of}
use Rattle.sop_model.specs.Rows.{group_named, group_added}
use Rattle.sop_vault.specs.Refusals.{PassesLimit}
use Rattle.sop_vault.proofs.HeadLemmas.{told, group_here, groups_here, group_full, none_by, some_by}
use Rattle.sop_vault.proofs.vault.Vault.group_number.Goals as goal

pub returns-then-is_some-clause-refused : goal.returns-then-is_some-clause-refused
returns-then-is_some-clause-refused c =
    told c.self.inside.shelf c.self.inside.names c.self.inside.sheets.slots c.self.invariant c.number.result c.in-Some.sheet.now (sym c.in-Some.ensures) c.args.self.now c.self.view_is c.args.key c.number.ensures (λ (g : Geo). group_named g c.args.class c.args.name.now ≢ None)
    (λ none. some_by c.find_group.result (sym c.is_some.ensures ∙ c.if-is_some.true) (c.find_group.ensures ∙ group_here c.self.inside.shelf c.self.inside.names c.self.inside.sheets.slots c.self.invariant c.number.result c.in-Some.sheet.now (sym c.in-Some.ensures) c.args.class c.args.name.now ∙ none))

pub returns-then-number-ge-MOST_GROUPS-clause-refused : goal.returns-then-number-ge-MOST_GROUPS-clause-refused
returns-then-number-ge-MOST_GROUPS-clause-refused c =
    let none = none_by c.find_group.result (sym c.is_some.ensures ∙ c.if-is_some.false) in
    told c.self.inside.shelf c.self.inside.names c.self.inside.sheets.slots c.self.invariant c.number.result c.in-Some.sheet.now (sym c.in-Some.ensures) c.args.self.now c.self.view_is c.args.key c.number.ensures (λ (g : Geo). (group_named g c.args.class c.args.name.now ≡ None) × PassesLimit (group_added g c.args.class c.args.name.now))
    (sym (group_here c.self.inside.shelf c.self.inside.names c.self.inside.sheets.slots c.self.invariant c.number.result c.in-Some.sheet.now (sym c.in-Some.ensures) c.args.class c.args.name.now) ∙ sym c.find_group.ensures ∙ none, group_full c.self.inside.shelf c.self.inside.names c.self.inside.sheets.slots c.self.invariant c.number.result c.in-Some.sheet.now (sym c.in-Some.ensures) c.args.class c.args.name.now (let e = groups_here c.self.inside.shelf c.self.inside.names c.self.inside.sheets.slots c.self.invariant c.number.result c.in-Some.sheet.now (sym c.in-Some.ensures) c.args.class in let f = c.groups-number.ensures in let t = c.if-number-ge-MOST_GROUPS.true in omega arith))

pub returns-clause-ok : goal.returns-clause-ok
returns-clause-ok c =
    let none = none_by c.find_group.result (sym c.is_some.ensures ∙ c.if-is_some.false) in
    told c.self.inside.shelf c.self.inside.names c.self.inside.sheets.slots c.self.invariant c.number.result c.in-Some.sheet.now (sym c.in-Some.ensures) c.args.self.now c.self.view_is c.args.key c.number.ensures
    (λ (g : Geo). (group_named g c.args.class c.args.name.now ≡ None) × (c.groups-number.result ≡ length (heads_of g c.args.class).groups) × (c.groups-number.result < most_groups))
    (sym (group_here c.self.inside.shelf c.self.inside.names c.self.inside.sheets.slots c.self.invariant c.number.result c.in-Some.sheet.now (sym c.in-Some.ensures) c.args.class c.args.name.now) ∙ sym c.find_group.ensures ∙ none, c.groups-number.ensures ∙ groups_here c.self.inside.shelf c.self.inside.names c.self.inside.sheets.slots c.self.invariant c.number.result c.in-Some.sheet.now (sym c.in-Some.ensures) c.args.class, (let f = c.if-number-ge-MOST_GROUPS.false in omega arith))
