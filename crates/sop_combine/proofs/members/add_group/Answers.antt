use Rattle.std.proofs.Common.{◌≡◌, Some, length}
use Rattle.sop_model.specs.declared.geo.Geo.{Geo}
use Rattle.sop_model.specs.Geometry.{heads_of}
use Rattle.sop_model.specs.Rows.{group_added}
use Rattle.sop_vault.specs.Keyed.{at}
use Rattle.sop_vault.specs.Vaults.{Changed}
use Rattle.sop_basic.proofs.MakingLemmas.{if_there}
use Rattle.sop_combine.proofs.GroupLemmas.{group_new}
use Rattle.sop_combine.proofs.members.add_group.Goals as goal

pub returns-in-Ok : goal.returns-in-Ok
returns-in-Ok c = λ g there.
    let o = at c.args.vault.now.geos c.args.key in (
      if_there o (λ (g : Geo). Changed c.args.vault.now c.add_group.new.self c.args.key (Some (group_added g c.args.class c.args.name.now))) g there c.in-Ok.ensures.ok,
      group_new g c.args.class c.args.name.now c.in-Ok.group (c.requires.free g there) (if_there o (λ (g : Geo). c.in-Ok.group ≡ length (heads_of g c.args.class).groups) g there c.in-Ok.ensures.number),
    )
