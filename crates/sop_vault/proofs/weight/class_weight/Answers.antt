use Rattle.std.proofs.Common.{◌≡◌, ◌+◌, ◌∙◌, ℕ, length, min, sum_by, ap, sym, arith}
use Rattle.sop_model.specs.Values.{weight_of}
use Rattle.sop_model.specs.Geometry.{heads_of}
use Rattle.sop_model.specs.Rows.{column_of}
use Rattle.sop_vault.proofs.WeightLemmas.{most, min_two, summed, summed_more, class_sum}
use Rattle.sop_vault.proofs.weight.class_weight.Goals as goal

pub loop-head-preserved : goal.loop-head-preserved
loop-head-preserved g c =
    let f = λ (h : ℕ). sum_by weight_of (column_of (g.V.GeoView.geo c.args.view.now) c.args.class h) in
    let before = c.loop-head.invariant in
    let here = c.column_weight.ensures in
    c.saturating_add-weight.ensures ∙ (λ j. min (before j + here j) most) ∙ min_two (summed c.loop-head.head f) (f c.loop-head.head) ∙ ap (λ n. min n most) (sym (summed_more c.loop-head.head f))

pub returns : goal.returns
returns g c =
    let geo = g.V.GeoView.geo c.args.view.now in
    let f = λ (h : ℕ). sum_by weight_of (column_of geo c.args.class h) in
    let all : c.loop-head.head ≡ length (heads_of geo c.args.class).heads = let a = c.heads-head-end.ensures in let t = c.loop-head-test.false in omega arith in
    c.loop-head.invariant ∙ ap (λ (k : ℕ). min (summed k f) most) all ∙ ap (λ n. min n most) (sym (class_sum geo c.args.class c.requires.readable))
