use Rattle.std.proofs.Common.{◌<◌, arith, ap, sym, subst, Ok, length}
use Rattle.sop_model.specs.declared.geo.Geo.{Geo}
use Rattle.sop_model.specs.declared.geo.HeadSet.{HeadSet}
use Rattle.sop_model.specs.Geometry.{count_of, rows_of}
use Rattle.sop_model.specs.Rows.{changed_at, with_rows}
use Rattle.sop_vault.specs.Keyed.{at}
use Rattle.sop_basic.specs.Making.{Makes}
use Rattle.sop_basic.proofs.MakingLemmas.{same_there, ended_as}
use Rattle.sop_combine.specs.Marked.{class_changed, combining}
use Rattle.sop_combine.proofs.RowLemmas.{changing_none, changing_live, changing_there, changing_heads, changing_stopped, changing_more, changing_done}
use Rattle.sop_combine.proofs.members.set_members.Goals as goal

pub loop-element-init : goal.loop-element-init
loop-element-init c = λ geo there. changing_none (combining c.args.combination c.args.group c.args.flags.now) c.args.class geo c.args.vault.now c.args.key there

pub set_one-requires-clause-live : goal.set_one-requires-clause-live
set_one-requires-clause-live c =
    changing_live (combining c.args.combination c.args.group c.args.flags.now) c.args.class c.view.result c.args.vault.now c.loop-element.vault c.args.key c.loop-element.element (c.loop-element.invariant c.view.result c.view.ensures.geo)

pub set_one-requires-clause-group : goal.set_one-requires-clause-group
set_one-requires-clause-group c = λ h there.
    subst (λ (set : HeadSet). c.args.group < length set.groups)
    (sym (changing_heads (combining c.args.combination c.args.group c.args.flags.now) c.args.class c.view.result c.args.vault.now c.loop-element.vault c.args.key c.loop-element.element (c.loop-element.invariant c.view.result c.view.ensures.geo) h there))
    (c.requires.group c.view.result c.view.ensures.geo)

pub set_one-requires-clause-there : goal.set_one-requires-clause-there
set_one-requires-clause-there c =
    changing_there (combining c.args.combination c.args.group c.args.flags.now) c.args.class c.view.result c.args.vault.now c.loop-element.vault c.args.key c.loop-element.element (c.loop-element.invariant c.view.result c.view.ensures.geo)
    (let lt = c.loop-element-test.true in let n = c.count-elements.ensures in omega arith)

pub returns-in_err-set_one : goal.returns-in_err-set_one
returns-in_err-set_one c = λ geo there.
    let change = combining c.args.combination c.args.group c.args.flags.now in
    ended_as c.from_residual.result c.in_err-set_one.field-0.0 (Makes c.args.vault.now c.set_one.new.vault c.args.key (Ok (class_changed change geo c.args.class))) c.from_residual.ensures.1
    (changing_stopped change c.args.class geo c.args.vault.now c.loop-element.vault c.args.key c.loop-element.element (c.loop-element.invariant geo there) c.set_one.new.vault c.in_err-set_one.field-0.0 (class_changed change geo c.args.class)
    (λ h. with_rows h c.args.class (changed_at (change c.loop-element.element) (rows_of h c.args.class) c.loop-element.element)) c.in_err-set_one.ensures)

pub loop-element-preserved : goal.loop-element-preserved
loop-element-preserved c = λ geo there.
    let count = ap (λ (x : Geo). count_of x c.args.class) (same_there (at c.args.vault.now.geos c.args.key) c.view.result geo c.view.ensures.geo there) in
    changing_more (combining c.args.combination c.args.group c.args.flags.now) c.args.class geo c.args.vault.now c.loop-element.vault c.args.key c.loop-element.element (c.loop-element.invariant geo there)
    (let lt = c.loop-element-test.true in let n = c.count-elements.ensures in omega arith) c.set_one.new.vault c.in_ok-set_one.ensures

pub returns : goal.returns
returns c = λ geo there.
    let count = ap (λ (x : Geo). count_of x c.args.class) (same_there (at c.args.vault.now.geos c.args.key) c.view.result geo c.view.ensures.geo there) in
    changing_done (combining c.args.combination c.args.group c.args.flags.now) c.args.class geo c.args.vault.now c.loop-element.vault c.args.key c.loop-element.element (c.loop-element.invariant geo there)
    (let no = c.loop-element-test.false in let n = c.count-elements.ensures in let k = c.loop-element.auto.element-end in omega arith)
