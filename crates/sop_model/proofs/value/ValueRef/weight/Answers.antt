use Rattle.std.proofs.Common.{◌≡◌, ◌+◌, ap, sum_by, arith}
use Rattle.sop_model.specs.Values.{text_weight, value_seen, weight_of}
use Rattle.sop_model.proofs.LimitsLemmas.{weight_of-within}
use Rattle.sop_model.proofs.value.ValueRef.weight.Goals as goal

pub returns-in-Strs-clause-exact : goal.returns-in-Strs-clause-exact
returns-in-Strs-clause-exact c = λ within.
    let whole : weight_of (value_seen c.args.self.now) ≡ 1 + sum_by text_weight c.in-Strs.list.now = ap (λ r. weight_of (value_seen r)) c.in-Strs.is in
    let light = weight_of-within (value_seen c.args.self.now) within in
    omega (arith, c.texts_weight.ensures, ap (sum_by text_weight) c.as_slice.ensures)
