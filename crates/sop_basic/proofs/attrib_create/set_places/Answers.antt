use Rattle.std.proofs.Common.{◌≡◌, sym, ap, ◌∙◌, subst, Some, None, Ok}
use Rattle.sop_model.specs.declared.geo.Geo.{Geo}
use Rattle.sop_model.specs.declared.value.Kind.TheVariants as kind
use Rattle.sop_model.specs.Values.{kind_of}
use Rattle.sop_model.specs.Rows.{kind_at, head_named}
use Rattle.sop_vault.specs.Keyed.{at}
use Rattle.sop_basic.specs.Heads.{with_column}
use Rattle.sop_basic.specs.Making.{Prepares}
use Rattle.sop_basic.specs.AttribCreate.{set_where}
use Rattle.sop_basic.specs.Fillings.{filled}
use Rattle.sop_basic.proofs.MakingLemmas.{same_there, prepares_of}
use Rattle.sop_basic.proofs.CreateLemmas.{set_is, place_named, places_stay}
use Rattle.sop_basic.proofs.attrib_create.set_places.Goals as goal

pub fill-requires-clause-kinds : goal.fill-requires-clause-kinds
fill-requires-clause-kinds c = λ g there i.
    let place = place_named c.view.result c.args.class c.args.name.now c.view.ensures.readable.sound.position c.requires.position in
    let first : c.in-Some.head ≡ 0 = let e : Some c.in-Some.head ≡ Some 0 = sym c.in-Some.is ∙ c.find.ensures ∙ place.0 in cc in
    subst (λ (x : Geo). kind_at x c.args.class c.in-Some.head ≡ Some (kind_of c.args.value.now)) (same_there (at c.args.vault.now.geos c.args.key) c.view.result g c.view.ensures.geo there)
    (ap (kind_at c.view.result c.args.class) first ∙ place.1 ∙ ap Some (sym c.requires.vector))

pub unreachable-requires : goal.unreachable-requires
unreachable-requires c =
    let place = place_named c.view.result c.args.class c.args.name.now c.view.ensures.readable.sound.position c.requires.position in
    let no : None ≡ Some 0 = sym c.in-None.is ∙ c.find.ensures ∙ place.0 in cc

pub returns : goal.returns
returns c = λ g there.
    let v = c.args.value.now in
    let same = same_there (at c.args.vault.now.geos c.args.key) c.view.result g c.view.ensures.geo there in
    let place = place_named c.view.result c.args.class c.args.name.now c.view.ensures.readable.sound.position c.requires.position in
    let named : head_named g c.args.class c.args.name.now ≡ Some 0 = subst (λ (x : Geo). head_named x c.args.class c.args.name.now ≡ Some 0) same place.0 in
    let kinded = subst (λ (x : Geo). kind_at x c.args.class 0 ≡ Some kind.Vector) same place.1 in
    let first : c.in-Some.head ≡ 0 = let e : Some c.in-Some.head ≡ Some 0 = sym c.in-Some.is ∙ c.find.ensures ∙ place.0 in cc in
    let stays = places_stay g c.args.class c.args.name.now (kind_of v) c.requires.vector named kinded in
    let change = set_where v c.args.selected.now in
    subst (λ (x : Geo). Prepares c.args.vault.now c.fill.new.vault c.args.key (Ok (with_column x c.args.class c.args.name.now change)) c.fill.result) (sym stays)
    (subst (λ (x : Geo). Prepares c.args.vault.now c.fill.new.vault c.args.key (Ok x) c.fill.result)
    (set_is v g c.args.class c.args.name.now c.in-Some.head c.args.selected.now (named ∙ ap Some (sym first)))
    (prepares_of c.args.vault.now c.fill.new.vault c.args.key (Ok (filled (λ k. v) c.args.class c.in-Some.head c.args.selected.now g)) c.fill.result (c.fill.ensures g there)))
