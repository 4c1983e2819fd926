use Rattle.std.proofs.Common.{sym, subst}
use Rattle.sop_vault.specs.Keyed.{at}
use Rattle.sop_basic.specs.ParmTexts.{vectors_in}
use Rattle.sop_basic.specs.Add.{with_points}
use Rattle.sop_basic.specs.Additions.{Extends}
use Rattle.sop_basic.proofs.MakingLemmas.{there_is, ended_as}
use Rattle.sop_basic.proofs.AddLemmas.{IsAdding, adding_none, adding_live, adding_more, adding_stopped, adding_done}
use Rattle.sop_basic.proofs.add.add_places.Goals as goal

pub loop-place-init : goal.loop-place-init
loop-place-init c = λ geo there.
    let v = c.args.vault.now in
    let places = vectors_in c.args.text.now in
    subst (λ text. IsAdding geo places v v c.args.key (vectors_in text)) (sym c.as_bytes-rest.ensures.value) (adding_none geo places v c.args.key there)

pub add_point-requires : goal.add_point-requires
add_point-requires c =
    let (g, there) = there_is (at c.args.vault.now.geos c.args.key) c.requires in
    adding_live g (vectors_in c.args.text.now) c.args.vault.now c.loop-place.vault c.args.key (vectors_in c.loop-place.rest.now) (c.loop-place.invariant g there)

pub returns-in_err-add_point : goal.returns-in_err-add_point
returns-in_err-add_point c = λ geo there.
    let places = vectors_in c.args.text.now in
    ended_as c.from_residual.result c.in_err-add_point.field-0.0 (Extends c.args.vault.now c.add_point.new.vault c.args.key (with_points geo places)) c.from_residual.ensures.1
    (adding_stopped geo places c.args.vault.now c.loop-place.vault c.args.key (vectors_in c.loop-place.rest.now) (c.loop-place.invariant geo there) c.add_point.new.vault c.in-Some.place (vectors_in c.in-Some.left.now) c.in-Some.ensures.vector
    c.in_err-add_point.field-0.0 c.in_err-add_point.ensures)

pub loop-place-preserved : goal.loop-place-preserved
loop-place-preserved c = λ geo there.
    adding_more geo (vectors_in c.args.text.now) c.args.vault.now c.loop-place.vault c.args.key (vectors_in c.loop-place.rest.now) (c.loop-place.invariant geo there) c.add_point.new.vault c.in-Some.place (vectors_in c.in-Some.left.now) c.in-Some.ensures.vector
    c.in_ok-add_point.ensures

pub returns : goal.returns
returns c = λ geo there.
    adding_done geo (vectors_in c.args.text.now) c.args.vault.now c.loop-place.vault c.args.key (vectors_in c.loop-place.rest.now) (c.loop-place.invariant geo there) c.in_default.ensures.none
