use Rattle.std.proofs.Common.{◌≡◌, ap, sym, ◌∙◌, subst, Some, Ok}
use Rattle.std.specs.Prelude.{option_map, slice_get, if◌then◌else◌}
use Rattle.sop_outside.specs.Blanks.{words_of}
use Rattle.sop_model.specs.declared.geo.Geo.{Geo}
use Rattle.sop_model.specs.declared.geo.Head.{Head}
use Rattle.sop_model.specs.declared.fault.CookStop.TheVariants.{Memory}
use Rattle.sop_model.specs.Geometry.{heads_of, IsSound}
use Rattle.sop_model.specs.Rows.{head_named, attr_deleted}
use Rattle.sop_vault.specs.Keyed.{at}
use Rattle.sop_basic.specs.Making.{Makes}
use Rattle.sop_basic.specs.AttribDelete.{stays}
use Rattle.sop_basic.proofs.MakingLemmas.{same_there, made_at_once, untouched, ended_as}
use Rattle.sop_basic.proofs.DeleteLemmas.{kept_at, deleted_at}
use Rattle.sop_basic.proofs.attrib_delete.delete_one.Goals as goal

pub returns-then-stays : goal.returns-then-stays
returns-then-stays c = λ g h there here.
    let v = c.args.vault.now in
    let name = c.head_name-name.result.now in
    let same = same_there (at v.geos c.args.key) c.view-view.result g c.view-view.ensures.geo there in
    let named = subst (λ (x : Geo). option_map (λ (k : Head). k.name) (slice_get (heads_of x c.args.class).heads c.args.head) ≡ Some name) same c.head_name-name.ensures in
    subst (λ (x : Geo). Makes v v c.args.key (Ok x) (Ok tt)) (sym (kept_at g c.args.class (words_of c.args.names.now) c.args.head h name here named (sym c.stays.ensures ∙ c.if-stays.true))) (made_at_once v c.args.key g there)

pub returns-in_err-name : goal.returns-in_err-name
returns-in_err-name c = λ g h there here.
    let v = c.args.vault.now in
    ended_as c.from_residual.result Memory (Makes v v c.args.key (Ok (if stays c.args.class (words_of c.args.names.now) h.name then g else attr_deleted g c.args.class c.args.head))) c.from_residual.ensures.1 (untouched v c.args.key g there)

pub returns : goal.returns
returns c = λ g h there here.
    let v = c.args.vault.now in
    let name = c.head_name-name.result.now in
    let same = same_there (at v.geos c.args.key) c.view-view.result g c.view-view.ensures.geo there in
    let named = subst (λ (x : Geo). option_map (λ (k : Head). k.name) (slice_get (heads_of x c.args.class).heads c.args.head) ≡ Some name) same c.head_name-name.ensures in
    let copied = c.as_str.ensures ∙ c.in_ok-name.ensures in
    deleted_at g c.args.class (words_of c.args.names.now) c.args.head h name here named (subst IsSound same c.view-view.ensures.readable.sound) (sym c.stays.ensures ∙ c.if-stays.false)
    (λ x. Makes v c.delete_named.new.vault c.args.key (Ok x) c.delete_named.result) (λ k known. c.delete_named.ensures g k there (ap (head_named g c.args.class) copied ∙ known))
