use Rattle.std.proofs.Common.{◌≡◌, ap, sym, ◌∙◌, subst, refl, Some, Ok}
use Rattle.sop_model.specs.declared.geo.Geo.{Geo}
use Rattle.sop_model.specs.Rows.{group_named}
use Rattle.sop_columns.proofs.NameLemmas.{grows_none}
use Rattle.sop_vault.specs.Keyed.{at}
use Rattle.sop_basic.proofs.MakingLemmas.{same_there}
use Rattle.sop_combine.specs.GroupCreate.{with_group_at}
use Rattle.sop_combine.specs.Steps.{FindsGroup}
use Rattle.sop_combine.proofs.members.ensure_group.Goals as goal

pub returns-in-Some : goal.returns-in-Some
returns-in-Some c = λ g there.
    let v = c.args.vault.now in
    let same = same_there (at v.geos c.args.key) c.view.result g c.view.ensures.geo there in
    let named : group_named g c.args.class c.args.name.now ≡ Some c.in-Some.group = ap (λ (x : Geo). group_named x c.args.class c.args.name.now) (sym same) ∙ sym c.find_group.ensures ∙ c.in-Some.is in
    let found : FindsGroup v v c.args.key c.args.class c.args.name.now g (Ok c.in-Some.group) = (record { geos = record { here = there; others = λ other apart. refl }; held = λ other apart. refl; names = grows_none v.names }, named) in
    subst (λ (x : Geo). FindsGroup v v c.args.key c.args.class c.args.name.now x (Ok c.in-Some.group)) (sym (ap (with_group_at g c.args.class c.args.name.now) named)) found
