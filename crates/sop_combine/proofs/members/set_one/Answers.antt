use Rattle.std.proofs.Common.{◌≡◌, ap, sym, ◌∙◌, subst, Some, Ok}
use Rattle.sop_model.specs.declared.geo.Geo.{Geo}
use Rattle.sop_model.specs.Geometry.{rows_of, flag_at}
use Rattle.sop_model.specs.Rows.{changed_at, with_flag, with_rows, member_set}
use Rattle.sop_vault.specs.Keyed.{at}
use Rattle.sop_vault.specs.Vaults.{Changed}
use Rattle.sop_basic.proofs.MakingLemmas.{same_there, if_there}
use Rattle.sop_combine.proofs.GroupLemmas.{one_combined}
use Rattle.sop_combine.proofs.members.set_one.Goals as goal

pub returns : goal.returns
returns c = λ g there.
    let v = c.args.vault.now in
    let same = same_there (at v.geos c.args.key) c.view.result g c.view.ensures.geo there in
    let old : flag_at g c.args.class c.args.group c.args.element ≡ Some c.member-old.result = subst (λ (x : Geo). flag_at x c.args.class c.args.group c.args.element ≡ Some c.member-old.result) same c.member-old.ensures in
    let on = c.combined-on.result in
    let ch = if_there (at v.geos c.args.key) (λ (x : Geo). Changed v c.set_member.new.self c.args.key (Some (member_set x c.args.class c.args.group c.args.element on))) g there c.in_default.ensures.ok in (
      member_set g c.args.class c.args.group c.args.element on,
      ap (λ rs. Ok (with_rows g c.args.class rs))
          (sym (one_combined c.args.combination c.args.group c.args.selected c.member-old.result (rows_of g c.args.class) c.args.element old) ∙ ap (λ b. changed_at (with_flag c.args.group b) (rows_of g c.args.class) c.args.element) (sym c.combined-on.ensures)),
      ch,
    )
