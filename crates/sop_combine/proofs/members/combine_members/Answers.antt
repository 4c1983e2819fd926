use Rattle.std.proofs.Common.{◌≡◌, ap, sym, ◌∙◌, subst, refl, Ok, length}
use Rattle.sop_model.specs.declared.geo.Geo.{Geo}
use Rattle.sop_model.specs.Geometry.{count_of}
use Rattle.sop_model.specs.Rows.{HasGroup}
use Rattle.sop_vault.specs.Keyed.{at}
use Rattle.sop_basic.proofs.MakingLemmas.{same_there, there_is, makes_as, makes_then, prepares_of}
use Rattle.sop_combine.specs.GroupCreate.{with_group, members_combined}
use Rattle.sop_combine.specs.Marked.{class_changed, combining}
use Rattle.sop_combine.proofs.GroupLemmas.{group_below, with_group_count, members_are, group_stopped}
use Rattle.sop_combine.proofs.members.combine_members.Goals as goal

pub returns-in-Err : goal.returns-in-Err
returns-in-Err c = λ g there.
    group_stopped c.args.combination c.args.vault.now c.ensure_group.new.vault c.args.key c.args.class c.args.name.now (with_group g c.args.class c.args.name.now) c.args.flags.now c.in-Err.stop (c.in-Err.ensures g there)

pub set_members-requires-clause-group : goal.set_members-requires-clause-group
set_members-requires-clause-group c = λ h there.
    let (g, opens) = there_is (at c.args.vault.now.geos c.args.key) c.requires.live in
    let (ch, named) = c.in-Ok.ensures g opens in
    let after = with_group g c.args.class c.args.name.now in
    subst (λ (x : Geo). HasGroup x c.args.class c.in-Ok.group) (same_there (at c.ensure_group.new.vault.geos c.args.key) after h ch.geos.here there) (group_below after c.args.class c.args.name.now c.in-Ok.group named)

pub set_members-requires-clause-each : goal.set_members-requires-clause-each
set_members-requires-clause-each c = λ h there.
    let (g, opens) = there_is (at c.args.vault.now.geos c.args.key) c.requires.live in
    let (ch, named) = c.in-Ok.ensures g opens in
    let after = with_group g c.args.class c.args.name.now in
    subst (λ (x : Geo). length c.args.flags.now ≡ count_of x c.args.class) (same_there (at c.ensure_group.new.vault.geos c.args.key) after h ch.geos.here there) (c.requires.each g opens ∙ sym (with_group_count g c.args.class c.args.name.now))

pub returns : goal.returns
returns c = λ g there.
    let v = c.args.vault.now in
    let class = c.args.class in
    let flags = c.args.flags.now in
    let (ch, named) = c.in-Ok.ensures g there in
    let after = with_group g class c.args.name.now in
    let each = c.requires.each g there ∙ sym (with_group_count g class c.args.name.now) in
    let change = combining c.args.combination c.in-Ok.group flags in
    let outcome = Ok (members_combined c.args.combination after class c.args.name.now flags) in
    prepares_of v c.set_members.new.vault c.args.key outcome c.set_members.result
    (makes_as v c.set_members.new.vault c.args.key (Ok (class_changed change after class)) outcome c.set_members.result (ap Ok (members_are c.args.combination after class c.args.name.now c.in-Ok.group flags named each))
    (makes_then v c.ensure_group.new.vault c.set_members.new.vault c.args.key (Ok after) (λ (x : Geo). Ok (class_changed change x class)) after c.set_members.result refl ch (c.set_members.ensures after ch.geos.here)))
