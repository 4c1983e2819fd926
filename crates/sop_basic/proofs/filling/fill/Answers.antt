use Rattle.std.proofs.Common.{ℕ, ◌+◌, ◌<◌, arith, sym, ap, subst, Ok}
use Rattle.sop_model.specs.declared.geo.Geo.{Geo}
use Rattle.sop_model.specs.Geometry.{count_of}
use Rattle.sop_model.specs.Values.{kind_of}
use Rattle.sop_vault.specs.Keyed.{at}
use Rattle.sop_vault.specs.Vaults.{VaultMap}
use Rattle.sop_tables.proofs.LoadedLemmas.{count_few}
use Rattle.sop_basic.specs.Making.{Makes}
use Rattle.sop_basic.specs.Fillings.{filled_with, filled}
use Rattle.sop_basic.proofs.MakingLemmas.{same_there, ended_as}
use Rattle.sop_basic.proofs.FillLemmas.{filling_none, filling_live, filling_there, filling_kind, filling_stopped, filling_more, filling_less, filling_done, IsFilling}
use Rattle.sop_basic.proofs.filling.fill.Goals as goal
use Rattle.sop_basic.proofs.filling.fill.Goals.{then-selected-element+in_ok-fill_one, else-selected-element}

pub loop-element-init : goal.loop-element-init
loop-element-init c = λ geo there. filling_none (filled_with c.args.filling.now) c.args.class c.args.head c.args.selected.now geo c.args.vault.now c.args.key there

pub fill_one-requires-clause-live : goal.fill_one-requires-clause-live
fill_one-requires-clause-live c =
    filling_live (filled_with c.args.filling.now) c.args.class c.args.head c.args.selected.now c.view.result c.args.vault.now c.loop-element.vault c.args.key c.loop-element.element c.loop-element.before (c.loop-element.invariant c.view.result c.view.ensures.geo)

pub fill_one-requires-clause-there : goal.fill_one-requires-clause-there
fill_one-requires-clause-there c =
    filling_there (filled_with c.args.filling.now) c.args.class c.args.head c.args.selected.now c.view.result c.args.vault.now c.loop-element.vault c.args.key c.loop-element.element c.loop-element.before (c.loop-element.invariant c.view.result c.view.ensures.geo)
    (let lt = c.loop-element-test.true in let n = c.count-elements.ensures in omega arith)

pub fill_one-requires-clause-few : goal.fill_one-requires-clause-few
fill_one-requires-clause-few c =
    let few = count_few c.view.ensures.readable c.args.class in
    let before = (c.loop-element.invariant c.view.result c.view.ensures.geo).few in
    let lt = c.loop-element-test.true in
    let n = c.count-elements.ensures in
    omega arith

pub fill_one-requires-clause-kinds : goal.fill_one-requires-clause-kinds
fill_one-requires-clause-kinds c =
    filling_kind (filled_with c.args.filling.now) c.args.class c.args.head c.args.selected.now c.view.result c.args.vault.now c.loop-element.vault c.args.key c.loop-element.element c.loop-element.before (c.loop-element.invariant c.view.result c.view.ensures.geo)
    (kind_of (filled_with c.args.filling.now c.loop-element.before)) (c.requires.kinds c.view.result c.view.ensures.geo c.loop-element.before)

pub returns-in_err-fill_one : goal.returns-in_err-fill_one
returns-in_err-fill_one c = λ geo there.
    let values = filled_with c.args.filling.now in
    ended_as c.from_residual.result c.in_err-fill_one.field-0.0 (Makes c.args.vault.now c.fill_one.new.vault c.args.key (Ok (filled values c.args.class c.args.head c.args.selected.now geo))) c.from_residual.ensures.1
    (filling_stopped values c.args.class c.args.head c.args.selected.now geo c.args.vault.now c.loop-element.vault c.args.key c.loop-element.element c.loop-element.before (c.loop-element.invariant geo there) c.fill_one.new.vault c.in_err-fill_one.field-0.0 (filled values c.args.class c.args.head c.args.selected.now geo) c.in_err-fill_one.ensures)

pub loop-element-preserved : goal.loop-element-preserved
loop-element-preserved c = λ geo there.
    let count = ap (λ (x : Geo). count_of x c.args.class) (same_there (at c.args.vault.now.geos c.args.key) c.view.result geo c.view.ensures.geo there) in
    let lt : c.loop-element.element < count_of geo c.args.class = (let lt = c.loop-element-test.true in let n = c.count-elements.ensures in omega arith) in
    let values = filled_with c.args.filling.now in
    let state = λ (now : VaultMap) (before : ℕ). IsFilling values c.args.class c.args.head c.args.selected.now geo c.args.vault.now now c.args.key (c.loop-element.element + 1) before in
    elim c.if-selected-element.branch [
      | then-selected-element+in_ok-fill_one w ↦
          subst (λ now. state now c.if-selected-element.before) (sym w.vault-is) (subst (λ before. state w.fill_one.new.vault before) (sym w.before-is)
          (filling_more values c.args.class c.args.head c.args.selected.now geo c.args.vault.now c.loop-element.vault c.args.key c.loop-element.element c.loop-element.before (c.loop-element.invariant geo there) lt (c.requires.each geo there)
          w.if-selected-element.true w.fill_one.new.vault w.in_ok-fill_one.ensures))
      | else-selected-element w ↦
          subst (λ now. state now c.if-selected-element.before) (sym w.vault-is) (subst (λ before. state c.loop-element.vault before) (sym w.before-is)
          (filling_less values c.args.class c.args.head c.args.selected.now geo c.args.vault.now c.loop-element.vault c.args.key c.loop-element.element c.loop-element.before (c.loop-element.invariant geo there) lt (c.requires.each geo there)
          w.if-selected-element.false))
    ]

pub returns : goal.returns
returns c = λ geo there.
    let count = ap (λ (x : Geo). count_of x c.args.class) (same_there (at c.args.vault.now.geos c.args.key) c.view.result geo c.view.ensures.geo there) in
    filling_done (filled_with c.args.filling.now) c.args.class c.args.head c.args.selected.now geo c.args.vault.now c.loop-element.vault c.args.key c.loop-element.element c.loop-element.before (c.loop-element.invariant geo there)
    (let no = c.loop-element-test.false in let n = c.count-elements.ensures in let k = c.loop-element.auto.element-end in omega arith)
