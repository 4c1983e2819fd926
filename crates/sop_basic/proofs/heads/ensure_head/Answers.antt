use Rattle.std.proofs.Common.{◌≡◌, ap, sym, ◌∙◌, subst, Some, Option, ℕ}
use Rattle.sop_model.specs.declared.geo.Head.{Head}
use Rattle.sop_model.specs.declared.geo.Geo.{Geo}
use Rattle.sop_model.specs.Rows.{head_named}
use Rattle.sop_vault.specs.Keyed.{at}
use Rattle.sop_basic.specs.Heads.{with_head_at}
use Rattle.sop_basic.specs.Fillings.{Finds}
use Rattle.sop_basic.proofs.MakingLemmas.{same_there}
use Rattle.sop_basic.proofs.heads.ensure_head.Goals as goal

pub returns-in-Some : goal.returns-in-Some
returns-in-Some c = λ g there.
    let h : Head = record { name = c.args.name.now; kind = c.args.kind } in
    let same = same_there (at c.args.vault.now.geos c.args.key) c.view.result g c.view.ensures.geo there in
    let named : head_named g c.args.class c.args.name.now ≡ Some c.in-Some.head = ap (λ (x : Geo). head_named x c.args.class c.args.name.now) (sym same) ∙ sym c.find.ensures ∙ c.in-Some.is in
    subst (λ (o : Option ℕ). Finds c.args.vault.now c.keep_head.new.vault c.args.key c.args.class h (with_head_at g c.args.class h o) c.keep_head.result) (sym named) (c.keep_head.ensures g there)
