use Rattle.std.proofs.Common.{◌≡◌, ap, sym, ◌∙◌, subst, Some, refl}
use Rattle.std.specs.Prelude.{Option, IfSome}
use Rattle.std.specs.Option.{option_and_then}
use Rattle.sop_model.specs.declared.geo.Geo.{Geo}
use Rattle.sop_columns.proofs.NameLemmas.{grows_none}
use Rattle.sop_vault.specs.Keyed.{at, IsLive}
use Rattle.sop_vault.specs.Vaults.{Changed}
use Rattle.sop_basic.specs.Additions.{Extends}
use Rattle.sop_basic.proofs.MakingLemmas.{there_is}
use Rattle.sop_combine.specs.Steps.{behind}
use Rattle.sop_combine.proofs.merge.append_input.Goals as goal

pub returns-in-Some : goal.returns-in-Some
returns-in-Some c = λ a into.
    let v = c.args.vault.now in
    let from = c.in-Some.from in
    let live = subst (λ o. IfSome o (IsLive v.geos)) c.in-Some.is c.requires.input in
    let (b, there) = there_is (at v.geos from) live in
    let seen : option_and_then (at v.geos) c.args.input ≡ Some b = ap (option_and_then (at v.geos)) c.in-Some.is ∙ there in
    subst (λ (o : Option Geo). Extends v c.append.new.vault c.args.key (behind a o) c.append.result) (sym seen) (c.append.ensures a b into there)

pub returns-in-None : goal.returns-in-None
returns-in-None c = λ a into.
    let v = c.args.vault.now in
    subst (λ (o : Option Geo). Changed v v c.args.key (Some (behind a o))) (sym (ap (option_and_then (at v.geos)) c.in-None.is))
    (record { geos = record { here = into; others = λ other apart. refl }; held = λ other apart. refl; names = grows_none v.names })
