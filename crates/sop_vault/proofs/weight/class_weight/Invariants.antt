use Rattle.std.proofs.Common.{◌≡◌, min, sum_by}
use Rattle.sop_model.specs.Values.{weight_of}
use Rattle.sop_model.specs.Rows.{column_of}
use Rattle.sop_vault.proofs.WeightLemmas.{summed}
use Rattle.sop_vault.proofs.weight.class_weight.Given as goal

abbrev pub invariant-loop-head : goal.invariant-loop-head
invariant-loop-head g l = l.weight ≡ min (summed l.head (λ h. sum_by weight_of (column_of (g.V.GeoView.geo l.view) l.class h))) 18446744073709551615
