use Rattle.std.proofs.Common.{◌+◌, ◌∙◌, min, sum_by, take, ap, sym, arith}
use Rattle.sop_model.specs.Values.{value_seen, weight_of}
use Rattle.sop_model.specs.Rows.{column_of}
use Rattle.sop_vault.proofs.WeightLemmas.{most, min_two, column_more}
use Rattle.sop_vault.proofs.weight.values_weight.Goals as goal

pub loop-element-preserved : goal.loop-element-preserved
loop-element-preserved g c =
    let geo = g.V.GeoView.geo c.args.view.now in
    let e = c.loop-element.element in
    let more = column_more geo c.args.class c.args.head e (value_seen c.value.result) (let a = c.count-element-end.ensures in let t = c.loop-element-test.true in omega arith) c.value.ensures in
    let before = c.loop-element.invariant in
    let here = c.weight.ensures.weight in
    let added = c.saturating_add-weight.ensures in
    added ∙ (λ j. min (before j + here j) most) ∙ min_two (sum_by weight_of (take e (column_of geo c.args.class c.args.head))) (weight_of (value_seen c.value.result)) ∙ ap (λ n. min n most) (sym more)
