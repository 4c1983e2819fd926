use Rattle.std.proofs.Common.{◌≡◌, ◌∙◌, ap, sym, subst, arith, suc, ◌+◌, not, false}
use Rattle.std.specs.Prelude.{if◌then◌else◌, slice_index_or}
use Rattle.std.specs.Bool.{beq}
use Rattle.sop_model.specs.Sweep.{MarkSet}
use Rattle.sop_combine.specs.Blast.{chosen, marks_on}
use Rattle.sop_combine.specs.Marked.{marked_at, HasMark}
use Rattle.sop_combine.proofs.MarkLemmas.{chosen_at, chosen_long, first_of, marks_start, marks_has, marks_more, marks_done}
use Rattle.sop_combine.proofs.marking.marks_on.Goals as goal

pub loop-element-init : goal.loop-element-init
loop-element-init g c =
    let flags = chosen c.args.negate c.args.flags.now in
    c.in_ok-marks.ensures ∙ marks_start (g.V.GeoView.geo c.args.view.now) c.args.class c.args.and_points flags (chosen_long c.args.negate c.args.flags.now ∙ c.requires.each)

pub mark_if-requires : goal.mark_if-requires
mark_if-requires g c =
    let flags = chosen c.args.negate c.args.flags.now in
    subst (λ m. HasMark m c.args.class c.loop-element.element) (sym c.loop-element.invariant)
    (marks_has (g.V.GeoView.geo c.args.view.now) c.args.class c.args.and_points flags (chosen_long c.args.negate c.args.flags.now ∙ c.requires.each) c.loop-element.element
    (let lt = c.loop-element-test.true in let n = c.count-element-end.ensures in omega arith))

pub loop-element-preserved : goal.loop-element-preserved
loop-element-preserved g c =
    let geo = g.V.GeoView.geo c.args.view.now in
    let class = c.args.class in
    let i = c.loop-element.element in
    let flags = chosen c.args.negate c.args.flags.now in
    let on = not (beq (slice_index_or c.args.flags.now i false) c.args.negate) in
    let lt = c.loop-element-test.true in
    let n = c.count-element-end.ensures in
    let next : suc i ≡ i + 1 = omega arith in
    c.mark_if.ensures ∙ ap (λ (m : MarkSet). if on then marked_at m class i c.args.and_points else m) c.loop-element.invariant
    ∙ marks_more geo class c.args.and_points flags (chosen_long c.args.negate c.args.flags.now ∙ c.requires.each) i on (omega arith) (chosen_at c.args.negate c.args.flags.now i (let each = c.requires.each in omega arith))
    ∙ ap (λ k. marks_on geo class c.args.and_points (first_of flags k)) next

pub returns : goal.returns
returns g c =
    let flags = chosen c.args.negate c.args.flags.now in
    c.loop-element.invariant ∙ marks_done (g.V.GeoView.geo c.args.view.now) c.args.class c.args.and_points flags (chosen_long c.args.negate c.args.flags.now ∙ c.requires.each) c.loop-element.element
    (let no = c.loop-element-test.false in let n = c.count-element-end.ensures in omega arith)
