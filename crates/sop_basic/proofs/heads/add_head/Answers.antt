use Rattle.std.proofs.Common.{◌≡◌, Some, length}
use Rattle.sop_model.specs.declared.geo.Head.{Head}
use Rattle.sop_model.specs.Geometry.{heads_of}
use Rattle.sop_model.specs.Rows.{attr_added}
use Rattle.sop_vault.specs.Keyed.{at}
use Rattle.sop_vault.specs.Vaults.{Changed}
use Rattle.sop_basic.proofs.MakingLemmas.{if_there}
use Rattle.sop_basic.proofs.HeadLemmas.{added_at}
use Rattle.sop_basic.proofs.heads.add_head.Goals as goal

pub returns-in-Ok : goal.returns-in-Ok
returns-in-Ok c = λ g there.
    let h : Head = record { name = c.args.name.now; kind = c.args.kind } in
    let o = at c.args.vault.now.geos c.args.key in (
      if_there o (λ g. Changed c.args.vault.now c.add_attr.new.self c.args.key (Some (attr_added g c.args.class h))) g there c.in-Ok.ensures.ok,
      added_at g c.args.class h c.in-Ok.number (c.requires.free g there) (if_there o (λ g. c.in-Ok.number ≡ length (heads_of g c.args.class).heads) g there c.in-Ok.ensures.number),
    )
