use Rattle.std.proofs.Common.{◌≡◌, suc, ◌-◌, ap, ◌∙◌, refl, subst, arith, Some, Ok, length}
use Rattle.sop_outside.specs.Blanks.{words_of}
use Rattle.sop_model.specs.declared.geo.Geo.{Geo}
use Rattle.sop_model.specs.Geometry.{heads_of, IsSound}
use Rattle.sop_vault.specs.Keyed.{at}
use Rattle.sop_vault.specs.Vaults.{Changed}
use Rattle.sop_basic.specs.Making.{Makes}
use Rattle.sop_basic.specs.AttribDelete.{staying, attrs_left}
use Rattle.sop_basic.proofs.MakingLemmas.{same_there, ended_as}
use Rattle.sop_basic.proofs.DeleteLemmas.{swept, sweep_none, sweep_there, sweep_more, sweep_stopped}
use Rattle.sop_basic.proofs.attrib_delete.delete_matching.Goals as goal

pub loop-head-init : goal.loop-head-init
loop-head-init c = λ geo there.
    let same = same_there (at c.args.vault.now.geos c.args.key) c.view.result geo c.view.ensures.geo there in
    sweep_none geo c.args.class (words_of c.args.names.now) c.args.vault.now c.args.key c.heads-heads.result there (subst IsSound same c.view.ensures.readable.sound)
    (c.heads-heads.ensures ∙ ap (λ (x : Geo). length (heads_of x c.args.class).heads) same)

pub delete_one-requires-clause-there : goal.delete_one-requires-clause-there
delete_one-requires-clause-there c =
    let next : c.loop-head.head ≡ suc (c.loop-head.head - 1) = let some = c.loop-head-test.true in omega arith in
    sweep_there c.view.result c.args.class (words_of c.args.names.now) c.args.vault.now c.loop-head.vault c.args.key (c.loop-head.head - 1) c.loop-head.head next (c.loop-head.invariant c.view.result c.view.ensures.geo)
    (let some = c.loop-head-test.true in let most = c.loop-head.auto.head in let n = c.heads-heads.ensures in omega arith)

pub loop-head-preserved : goal.loop-head-preserved
loop-head-preserved c = λ geo there.
    let next : c.loop-head.head ≡ suc (c.loop-head.head - 1) = let some = c.loop-head-test.true in omega arith in
    let count = c.heads-heads.ensures ∙ ap (λ (x : Geo). length (heads_of x c.args.class).heads) (same_there (at c.args.vault.now.geos c.args.key) c.view.result geo c.view.ensures.geo there) in
    sweep_more geo c.args.class (words_of c.args.names.now) c.args.vault.now c.loop-head.vault c.args.key (c.loop-head.head - 1) c.loop-head.head next (c.loop-head.invariant geo there)
    (let some = c.loop-head-test.true in let most = c.loop-head.auto.head in omega arith) c.delete_one.new.vault c.in_ok-delete_one.ensures

pub returns-in_err-delete_one : goal.returns-in_err-delete_one
returns-in_err-delete_one c = λ geo there.
    let next : c.loop-head.head ≡ suc (c.loop-head.head - 1) = let some = c.loop-head-test.true in omega arith in
    let count = c.heads-heads.ensures ∙ ap (λ (x : Geo). length (heads_of x c.args.class).heads) (same_there (at c.args.vault.now.geos c.args.key) c.view.result geo c.view.ensures.geo there) in
    let words = words_of c.args.names.now in
    let left = attrs_left geo c.args.class (staying geo c.args.class words) in
    ended_as c.from_residual.result c.in_err-delete_one.field-0.0 (Makes c.args.vault.now c.delete_one.new.vault c.args.key (Ok left)) c.from_residual.ensures.1
    (sweep_stopped geo c.args.class words c.args.vault.now c.loop-head.vault c.args.key (c.loop-head.head - 1) c.loop-head.head next (c.loop-head.invariant geo there)
    (let some = c.loop-head-test.true in let most = c.loop-head.auto.head in omega arith) c.delete_one.new.vault c.in_err-delete_one.field-0.0 left c.in_err-delete_one.ensures)

pub returns : goal.returns
returns c = λ geo there.
    let words = words_of c.args.names.now in
    let last : c.loop-head.head ≡ 0 = let no = c.loop-head-test.false in omega arith in
    (swept geo c.args.class words 0, refl, subst (λ n. Changed c.args.vault.now c.loop-head.vault c.args.key (Some (swept geo c.args.class words n))) last (c.loop-head.invariant geo there))
