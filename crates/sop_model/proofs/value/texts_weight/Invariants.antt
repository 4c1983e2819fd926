use Rattle.std.proofs.Common.{◌≡◌, ◌+◌, min, sum_by, take}
use Rattle.sop_model.specs.Values.{text_weight}
use Rattle.sop_model.proofs.value.texts_weight.Given as goal

abbrev pub invariant-loop-text : goal.invariant-loop-text
invariant-loop-text l = l.weight ≡ min (1 + sum_by text_weight (take l.text-index l.texts)) 18446744073709551615
